-- Two passes over rows: each row against the one before it, and each insert against a stack of the elements to its left.
--     adjacent a b    b may stand right behind a, places of inserts aside
--     nearest_from     each insert refers to the nearest smaller element of its list to its left: pop what is larger, the top is its reference
--     lists-are       where objects rise, the second pass is the test of each list by itself
use Rattle.std.specs.Prelude.{if◌then◌else◌}
use mathlib.Core.Path.{◌≡◌, refl, sym, ap, subst, ◌∙◌}
use mathlib.Core.Logic.{◌⊎◌, inl, inr, ⊎_elim, ◌↔◌}
use mathlib.Core.Bool.{Bool, true, not, cond, ◌&&◌, ◌||◌}
use mathlib.Core.List.{List, [], ◌∷◌, map}
use Prim.Native.Nat.{ℕ, ◌≤◌, ◌<◌}
use native.Mathlib.Omega.{arith}
use lib.Dec.{T, T_not, not_T, ltb, eqb, ltb→lt, eqb→eq}
use Rattle.model.specs.Basic.{◌implies◌, ascends, lex_before, same}
use Rattle.model.specs.Row.{Row, id_of, object_of, named_of, on_list, is_insert, element_of}
use Rattle.model.specs.Key.{key_bytes_of}
use Rattle.model.specs.Order.{inserts}
use Rattle.laws.proofs.Tests.{T_and, T-or, T-implies, by-test, by-eq, by_order, is_true, is_false, eq→eqb, ne→neqb}
use Rattle.laws.proofs.Members.{here, there, not-nil, All, on-mem, words-eq, filter-no, filter-yes}
use Rattle.laws.proofs.Pairs.{Pairwise}
use Rattle.laws.proofs.Nearest.{pop, top, nearest}
use Rattle.laws.proofs.Elements.{insert-of, ins_of}

-- ── the passes
-- in a map, by key and then by id
unfoldable pub map_next : Row → Row → Bool
map_next a b = lex_before (key_bytes_of a) (key_bytes_of b) || same (key_bytes_of a) (key_bytes_of b) && ltb (id_of a) (id_of b)

-- in a list, an insert, or one more row of the same element
unfoldable pub list_next : Row → Row → Bool
list_next a b = is_insert b || eqb (element_of a) (element_of b) && ltb (id_of a) (id_of b)

-- a list begins with an insert
unfoldable pub begins : Row → Bool
begins r = on_list r implies is_insert r

unfoldable pub adjacent : Row → Row → Bool
adjacent a b =
    ltb (object_of a) (object_of b) && begins b
    || eqb (object_of a) (object_of b) && (if on_list b then list_next a b else map_next a b)

abbrev pub first_begins : List Row → Bool
first_begins [] = true
first_begins (r ∷ rs) = begins r

-- the stack of the list that is being walked; another list starts with an empty one
abbrev pub stack_for : ℕ → ℕ → List ℕ → List ℕ
stack_for o p st = if eqb o p then st else []

abbrev pub nearest_from : ℕ → List ℕ → List Row → Bool
nearest_from o st [] = true
nearest_from o st (r ∷ rs) =
    if is_insert r
    then eqb (top (pop (id_of r) (stack_for (object_of r) o st))) (named_of r)
    && nearest_from (object_of r) (id_of r ∷ pop (id_of r) (stack_for (object_of r) o st)) rs
    else nearest_from o st rs

-- ── the second pass is the test of each list
ins-skip : (r : Row) (rs : List Row) (o : ℕ) → (T (is_insert r) → object_of r ≡ o → ⊥) → ins_of (r ∷ rs) o ≡ ins_of rs o
unfolding ins_of inserts
ins-skip r rs o other =
    let p : Row → Bool = λ r. is_insert r && eqb (object_of r) o in
    ap (map insert-of) (filter-no p r rs (not_T (p r) (λ t. let u = (T_and (is_insert r) (eqb (object_of r) o)).0 t in other u.0 (eqb→eq (object_of r) o u.1))))

pub ins-take : (r : Row) (rs : List Row) (o : ℕ) → T (is_insert r) → object_of r ≡ o → ins_of (r ∷ rs) o ≡ insert-of r ∷ ins_of rs o
unfolding ins_of inserts
ins-take r rs o t e =
    let p : Row → Bool = λ r. is_insert r && eqb (object_of r) o in
    ap (map insert-of) (filter-yes p r rs ((T_and (is_insert r) (eqb (object_of r) o)).1 (t, eq→eqb (object_of r) o e)))

pub ins-none : (rs : List Row) (o : ℕ) → All (λ r. T (is_insert r) → object_of r ≡ o → ⊥) rs → ins_of rs o ≡ []
ins-none [] o a = unfold ins_of inserts in refl
ins-none (r ∷ rs) o a = ins-skip r rs o (a r (here refl)) ∙ ins-none rs o (λ q m. a q (there m))

abbrev pub Rising : List Row → Type 0
Rising rs = Pairwise (λ a b. object_of a ≤ object_of b) rs

-- the list that is being walked, and those behind it
abbrev pub Lists : ℕ → List ℕ → List Row → Type 0
Lists o st rs = T (nearest st (ins_of rs o)) × ((q : ℕ) → o < q → T (nearest [] (ins_of rs q)))

ins-nil : (o : ℕ) → ins_of [] o ≡ []
unfolding ins_of inserts
ins-nil o = refl

module _ (o : ℕ) (st : List ℕ) (r : Row) (rs : List Row) where
  skip : T (not (is_insert r)) → nearest_from o st (r ∷ rs) ≡ nearest_from o st rs
  skip t = rw (is_false (is_insert r) t)

  -- an insert of a list with the stack S
  abbrev stacked : List ℕ → Bool
  stacked S = eqb (top (pop (id_of r) S)) (named_of r) && nearest_from (object_of r) (id_of r ∷ pop (id_of r) S) rs

  same-list : T (is_insert r) → object_of r ≡ o → nearest_from o st (r ∷ rs) ≡ stacked st
  same-list t e = rw (is_true (is_insert r) t, is_true (eqb (object_of r) o) (eq→eqb (object_of r) o e))

  next-list : T (is_insert r) → (object_of r ≡ o → ⊥) → nearest_from o st (r ∷ rs) ≡ stacked []
  next-list t ne = rw (is_true (is_insert r) t, is_false (eqb (object_of r) o) (ne→neqb (object_of r) o ne))

  -- its list passes if it does and the rest does
  own-list : (S : List ℕ) → T (is_insert r) → T (nearest S (ins_of (r ∷ rs) (object_of r)))
      ↔ (T (eqb (top (pop (id_of r) S)) (named_of r)) × T (nearest (id_of r ∷ pop (id_of r) S) (ins_of rs (object_of r))))
  own-list S t =
      let both = T_and (eqb (top (pop (id_of r) S)) (named_of r)) (nearest (id_of r ∷ pop (id_of r) S) (ins_of rs (object_of r))) in
      let e = ins-take r rs (object_of r) t refl in
      (λ u. both.0 (subst (λ l. T (nearest S l)) e u), λ u. subst (λ l. T (nearest S l)) (sym e) (both.1 u))

  other-list : (q : ℕ) → (object_of r ≡ q → ⊥) → T (nearest [] (ins_of (r ∷ rs) q)) ↔ T (nearest [] (ins_of rs q))
  other-list q ne = let e = ins-skip r rs q (λ t. ne) in (λ u. subst (λ l. T (nearest [] l)) e u, λ u. subst (λ l. T (nearest [] l)) (sym e) u)

-- an insert, where the rest of the rows is known
module _ (o : ℕ) (st : List ℕ) (r : Row) (rs : List Row) (a : o ≤ object_of r) (s : All (λ q. object_of r ≤ object_of q) rs)
    (rest : (S : List ℕ) → T (nearest_from (object_of r) (id_of r ∷ pop (id_of r) S) rs) ↔ Lists (object_of r) (id_of r ∷ pop (id_of r) S) rs) (t : T (is_insert r)) where
  -- the stack that its list has, and what is said of every list from it on
  from-here : (S : List ℕ) → T (stacked o st r rs S) ↔ Lists (object_of r) S (r ∷ rs)
  from-here S =
      let both = T_and (eqb (top (pop (id_of r) S)) (named_of r)) (nearest_from (object_of r) (id_of r ∷ pop (id_of r) S) rs) in (
        λ u.
            let l = (rest S).0 (both.0 u).1 in
            ((own-list o st r rs S t).1 ((both.0 u).0, l.0), λ q h. (other-list o st r rs q (λ e. omega arith)).1 (l.1 q h)),
        λ l.
            let w = (own-list o st r rs S t).0 l.0 in
            both.1 (w.0, (rest S).1 (w.1, λ q h. (other-list o st r rs q (λ e. omega arith)).0 (l.1 q h))),
      )

  empty : (q : ℕ) → q < object_of r → ins_of (r ∷ rs) q ≡ []
  empty q h = ins-none (r ∷ rs) q (λ z m u e. on-mem m (λ g. omega (arith, ap object_of g)) (λ n. omega (arith, s z n)))

  inserted : T (nearest_from o st (r ∷ rs)) ↔ Lists o st (r ∷ rs)
  inserted =
      by-eq (object_of r) o
      (λ e. (
        λ u. subst (λ q. Lists q st (r ∷ rs)) e ((from-here st).0 (subst T (same-list o st r rs t e) u)),
        λ l. subst T (sym (same-list o st r rs t e)) ((from-here st).1 (subst (λ q. Lists q st (r ∷ rs)) (sym e) l)),
      ))
      (λ ne. (
        λ u.
            let l = (from-here []).0 (subst T (next-list o st r rs t ne) u) in (
              subst (λ k. T (nearest st k)) (sym (empty o (omega arith))) tt,
              λ q h. by-eq (object_of r) q (λ e. subst (λ z. T (nearest [] (ins_of (r ∷ rs) z))) e l.0)
                  (λ other. by_order q (object_of r) (λ g. subst (λ k. T (nearest [] k)) (sym (empty q g)) tt) (λ g. l.1 q (omega arith))),
            ),
        λ l. subst T (sym (next-list o st r rs t ne)) ((from-here []).1 (l.1 (object_of r) (omega arith), λ q h. l.1 q (omega arith))),
      ))

pub lists-are : (o : ℕ) (st : List ℕ) (rs : List Row) → All (λ r. o ≤ object_of r) rs → Rising rs → T (nearest_from o st rs) ↔ Lists o st rs
lists-are o st [] a s = (λ t. (subst (λ l. T (nearest st l)) (sym (ins-nil o)) tt, λ q h. subst (λ l. T (nearest [] l)) (sym (ins-nil q)) tt), λ l. tt)
lists-are o st (r ∷ rs) a s =
    by-test (is_insert r)
    (inserted o st r rs (a r (here refl)) s.0 (λ S. lists-are (object_of r) (id_of r ∷ pop (id_of r) S) rs s.0 s.1))
    (λ t.
    let ih = lists-are o st rs (λ q m. a q (there m)) s.1 in
    let e : (q : ℕ) → ins_of (r ∷ rs) q ≡ ins_of rs q = λ q. ins-skip r rs q (λ u. absurd (T_not (is_insert r) t u)) in (
      λ u. let l = ih.0 (subst T (skip o st r rs t) u) in (subst (λ k. T (nearest st k)) (sym (e o)) l.0, λ q h. subst (λ k. T (nearest [] k)) (sym (e q)) (l.1 q h)),
      λ l. subst T (sym (skip o st r rs t)) (ih.1 (subst (λ k. T (nearest st k)) (e o) l.0, λ q h. subst (λ k. T (nearest [] k)) (e q) (l.1 q h))),
    ))

-- ── what it says that one row may stand behind another
-- b may stand behind a
pub adjacent-out : (a b : Row) → T (adjacent a b)
    → ((object_of a < object_of b) × T (begins b)) ⊎ ((object_of a ≡ object_of b) × ((T (on_list b) × T (list_next a b)) ⊎ (T (not (on_list b)) × T (map_next a b))))
unfolding adjacent
adjacent-out a b t =
    let one = eqb (object_of a) (object_of b) in
    let next = if on_list b then list_next a b else map_next a b in
    ⊎_elim
    (λ u. let v = (T_and (ltb (object_of a) (object_of b)) (begins b)).0 u in inl (ltb→lt (object_of a) (object_of b) v.0, v.1))
    (λ u.
    let v = (T_and one next).0 u in
    inr (eqb→eq (object_of a) (object_of b) v.0, by-test (on_list b) (λ w. inl (w, subst (λ c. T (cond c (list_next a b) (map_next a b))) (is_true (on_list b) w) v.1)) (λ w. inr (w, subst (λ c. T (cond c (list_next a b) (map_next a b))) (is_false (on_list b) w) v.1))))
    ((T-or (ltb (object_of a) (object_of b) && begins b) (one && next)).0 t)

pub adjacent-rises : (a b : Row) → T (adjacent a b) → object_of a ≤ object_of b
adjacent-rises a b t = ⊎_elim (λ u. let h = u.0 in omega arith) (λ u. let e = u.0 in omega arith) (adjacent-out a b t)

pub begins-insert : (r : Row) → T (begins r) → T (on_list r) → T (is_insert r)
unfolding begins
begins-insert r t l = (T-implies (on_list r) (is_insert r)).0 t l

pub list-next-out : (a b : Row) → T (list_next a b) → T (is_insert b) ⊎ ((element_of a ≡ element_of b) × (id_of a < id_of b))
unfolding list_next
list-next-out a b t =
    ⊎_elim (λ u. inl u) (λ u. let v = (T_and (eqb (element_of a) (element_of b)) (ltb (id_of a) (id_of b))).0 u in inr (eqb→eq (element_of a) (element_of b) v.0, ltb→lt (id_of a) (id_of b) v.1))
    ((T-or (is_insert b) (eqb (element_of a) (element_of b) && ltb (id_of a) (id_of b))).0 t)

pub map-next-out : (a b : Row) → T (map_next a b) → T (lex_before (key_bytes_of a) (key_bytes_of b)) ⊎ ((key_bytes_of a ≡ key_bytes_of b) × (id_of a < id_of b))
unfolding map_next
map-next-out a b t =
    let tie = same (key_bytes_of a) (key_bytes_of b) in
    ⊎_elim (λ u. inl u) (λ u. let v = (T_and tie (ltb (id_of a) (id_of b))).0 u in inr (words-eq (key_bytes_of a) (key_bytes_of b) v.0, ltb→lt (id_of a) (id_of b) v.1))
    ((T-or (lex_before (key_bytes_of a) (key_bytes_of b)) (tie && ltb (id_of a) (id_of b))).0 t)

pub rising : (l : List Row) → T (ascends adjacent l) → Rising l
rising [] t = tt
rising (a ∷ []) t = (λ b m. absurd (not-nil m), tt)
rising (a ∷ b ∷ l) t =
    let u = (T_and (adjacent a b) (ascends adjacent (b ∷ l))).0 t in
    let s = rising (b ∷ l) u.1 in
    let h = adjacent-rises a b u.0 in
    (λ c m. on-mem m (λ e. rw e h) (λ n. let k = s.0 c n in omega arith), s)
