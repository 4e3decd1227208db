-- What the Untangler's walk puts out: rows each of which may stand behind the one before, the list's own rows as they stood, and everything that
-- waits for an element that it puts out.
use Rattle.std.specs.Prelude.{if◌then◌else◌}
use mathlib.Core.Path.{◌≡◌, refl, sym, ◌∙◌}
use mathlib.Core.Logic.{◌⊎◌, inl, inr, ⊎_elim}
use mathlib.Core.Bool.{Bool, not, ◌&&◌}
use mathlib.Core.List.{List, [], ◌∷◌, ◌++◌, map}
use Prim.Native.Nat.{ℕ, ◌<◌}
use native.Mathlib.Omega.{arith}
use lib.Dec.{T, T_not, ltb, eqb, ltb→lt, lt→ltb}
use Rattle.model.specs.Basic.{filter, ascends}
use Rattle.model.specs.Row.{Row, id_of, object_of, named_of, on_list, is_insert, element_of}
use Rattle.laws.proofs.Tests.{T_and, T-or, T-implies, is_true, is_false, eq→eqb, neqb→ne}
use Rattle.laws.proofs.Members.{Mem, here, there, not-nil, All, on-mem, on-append, filter-from, filter_passes}
use Rattle.laws.proofs.Pairs.{key-distinct-nodup, filter-pairwise, one_key}
use Rattle.laws.proofs.Sort.{Sorted, sort_sorted}
use Rattle.laws.proofs.Lex.{ltb-strict, order-by}
use Rattle.laws.proofs.RowOrder.{Apart}
use Rattle.laws.proofs.ListOrder.{insert-element}
use Rattle.laws.proofs.Passes.{map_next, list_next, begins, adjacent, first_begins, adjacent-out, list-next-out}
use Rattle.laws.proofs.Untangle.{rises, waiting, updates, others, Event, row_in, BeforeHead, BeforeNext, AboveHead, Runs, ends, update, keep, place, step, updates-plain, waiting-inserts}

-- ── each row may stand behind the one before
-- a row of list o that refers to a smaller id
pub record OfList (o : ℕ) (r : Row) : Type 0 where
  pub here-object : object_of r ≡ o
  pub stands_on_list : T (on_list r)
  pub low : named_of r < id_of r

pub plain-element : (r : Row) → T (not (is_insert r)) → element_of r ≡ named_of r
unfolding element_of
plain-element r t = rw (is_false (is_insert r) t)

list-adjacent : (a b : Row) → object_of a ≡ object_of b → T (on_list b) → T (list_next a b) → T (adjacent a b)
unfolding adjacent
list-adjacent a b e l t =
    let one = eqb (object_of a) (object_of b) in
    let next = if on_list b then list_next a b else map_next a b in
    (T-or (ltb (object_of a) (object_of b) && begins b) (one && next)).1 (inr ((T_and one next).1 (eq→eqb (object_of a) (object_of b) e, rw (is_true (on_list b) l) t)))

insert-next : (a b : Row) → T (is_insert b) → T (list_next a b)
unfolding list_next
insert-next a b t = (T-or (is_insert b) (eqb (element_of a) (element_of b) && ltb (id_of a) (id_of b))).1 (inl t)

same_next : (a b : Row) → element_of a ≡ element_of b → id_of a < id_of b → T (list_next a b)
unfolding list_next
same_next a b e h =
    (T-or (is_insert b) (eqb (element_of a) (element_of b) && ltb (id_of a) (id_of b))).1
    (inr ((T_and (eqb (element_of a) (element_of b)) (ltb (id_of a) (id_of b))).1 (eq→eqb (element_of a) (element_of b) e, lt→ltb (id_of a) (id_of b) h)))

-- the document's next row: an insert, or one more of a's element
abbrev HeadNext : Row → List Row → Type 0
HeadNext a [] = Unit {0}
HeadNext a (d ∷ doc) = T (is_insert d) ⊎ ((element_of a ≡ element_of d) × (id_of a < id_of d))

-- what is still to come, behind row a
record Follows (a : Row) (up doc : List Row) : Type 0 where
  up_same : All (λ u. (element_of u ≡ element_of a) × T (not (is_insert u)) × (id_of a < id_of u)) up
  up-sorted : Sorted rises up
  doc-next : HeadNext a doc
  doc-ascends : T (ascends adjacent doc)

ascends-tail : (d : Row) (doc : List Row) → T (ascends adjacent (d ∷ doc)) → T (ascends adjacent doc)
ascends-tail d [] t = tt
ascends-tail d (e ∷ doc) t = ((T_and (adjacent d e) (ascends adjacent (e ∷ doc))).0 t).1

module _ (o : ℕ) where
  head-next : (d : Row) (doc : List Row) → OfList o d → All (OfList o) doc → T (ascends adjacent (d ∷ doc)) → HeadNext d doc
  head-next d [] g a t = tt
  head-next d (e ∷ doc) g a t =
      let k = a e (here refl) in
      ⊎_elim (λ x. let h = x.0 in absurd (omega (arith, g.here-object, k.here-object)))
      (λ x. ⊎_elim (λ y. list-next-out d e y.1) (λ y. absurd (T_not (on_list e) y.0 k.stands_on_list)) x.1)
      (adjacent-out d e ((T_and (adjacent d e) (ascends adjacent (e ∷ doc))).0 t).0)

  others_apart : (e : ℕ) (pool : List Row) → Apart pool → Apart (others e pool)
  unfolding others
  others_apart e pool a = filter-pairwise (λ x y. id_of x ≡ id_of y → ⊥) (λ r. not (eqb (named_of r) e)) pool a

  pub others-in : (e : ℕ) (pool : List Row) {r : Row} → Mem r (others e pool) → Mem r pool × (named_of r ≡ e → ⊥)
  unfolding others
  others-in e pool {r} m = let p : Row → Bool = λ r. not (eqb (named_of r) e) in (filter-from p pool m, neqb→ne (named_of r) e (filter_passes p pool m))

  updates-sorted : (e : ℕ) (pool : List Row) → Apart pool → Sorted rises (updates e pool)
  unfolding updates
  updates-sorted e pool a =
      let l = filter (λ r. not (is_insert r) && eqb (named_of r) e) pool in
      let d = filter-pairwise (λ x y. id_of x ≡ id_of y → ⊥) (λ r. not (is_insert r) && eqb (named_of r) e) pool a in
      sort_sorted rises l (order-by ltb ltb-strict id_of l (one_key id_of l d)) (key-distinct-nodup id_of l d)

  -- behind an element that was just put out come its own updates
  opens : (x : Row) (pool doc : List Row) → T (is_insert x) → Apart pool → All (OfList o) pool → HeadNext x doc → T (ascends adjacent doc) → Follows x (updates (id_of x) pool) doc
  opens x pool doc t ap' g h k =
      record {
        up_same = λ u m.
            let w = updates-plain (id_of x) pool u m in
            let l = (g u w.2).low in
            (plain-element u w.0 ∙ w.1 ∙ sym (insert-element x t), w.0, omega (arith, w.1));
        up-sorted = updates-sorted (id_of x) pool ap';
        doc-next = h;
        doc-ascends = k;
      }

  after-insert : (s : Row) (doc : List Row) → AboveHead s doc → HeadNext s doc
  after-insert s [] h = tt
  after-insert s (d ∷ doc) h = inl h.0

  updates-of : (e : ℕ) (pool : List Row) → All (OfList o) pool → All (OfList o) (updates e pool)
  updates-of e pool g u m = g u (updates-plain e pool u m).2

  stack_of : (e : ℕ) (pool st : List Row) → All (OfList o) pool → All (OfList o) st → All (OfList o) (waiting e pool ++ st)
  stack_of e pool st g k s m = on-append (waiting e pool) m (λ i. g s (waiting-inserts e pool s i).2) (k s)

  inserts-of : (e : ℕ) (pool st : List Row) → All (λ s. T (is_insert s)) st → All (λ s. T (is_insert s)) (waiting e pool ++ st)
  inserts-of e pool st k s m = on-append (waiting e pool) m (λ i. (waiting-inserts e pool s i).0) (k s)

  behind : (a b : Row) (out : List Row) → OfList o a → OfList o b → T (list_next a b) → T (ascends adjacent (b ∷ out)) → T (ascends adjacent (a ∷ b ∷ out))
  behind a b out g k n t = (T_and (adjacent a b) (ascends adjacent (b ∷ out))).1 (list-adjacent a b (g.here-object ∙ sym k.here-object) k.stands_on_list n, t)

  runs-follow : {pool up st doc : List Row} {out : List Event} → Runs pool up st doc out → (a : Row) → OfList o a → Apart pool → All (OfList o) pool → All (OfList o) up
      → All (OfList o) st → All (λ s. T (is_insert s)) st → All (OfList o) doc → Follows a up doc → T (ascends adjacent (a ∷ map row_in out))
  runs-follow ends a ga da gp gu gs is gd f = tt
  runs-follow (update {u} {pool} {up} {st} {doc} {out} h r) a ga da gp gu gs is gd f =
      let w = f.up_same u (here refl) in
      behind a u (map row_in out) ga (gu u (here refl)) (same_next a u (sym w.0) w.2)
      (runs-follow r u (gu u (here refl)) da gp (λ x m. gu x (there m)) gs is gd
      (record {
        up_same = λ v m. let k = f.up_same v (there m) in (k.0 ∙ sym w.0, k.1, ltb→lt (id_of u) (id_of v) (f.up-sorted.0 v m));
        up-sorted = f.up-sorted.1;
        doc-next = next doc h f.doc-next;
        doc-ascends = f.doc-ascends;
      }))
    where
      next : (l : List Row) → BeforeHead u l → HeadNext a l → HeadNext u l
      next [] b n = tt
      next (d ∷ l) b n = ⊎_elim inl (λ k. ⊎_elim inl (λ q. inr ((f.up_same u (here refl)).0 ∙ q.0, k)) n) b
  runs-follow (keep {d} {pool} {up} {st} {doc} {out} t h r) a ga da gp gu gs is gd f =
      let gk = gd d (here refl) in
      ⊎_elim (λ i. absurd (T_not (is_insert d) t i))
      (λ q.
      behind a d (map row_in out) ga gk (same_next a d q.0 q.1)
      (runs-follow r d gk da gp gu gs is (λ x m. gd x (there m))
      (record {
        up_same = λ v m. let k = f.up_same v m in (k.0 ∙ q.0, k.1, larger up h f.up-sorted v m);
        up-sorted = f.up-sorted;
        doc-next = head-next d doc gk (λ x m. gd x (there m)) f.doc-ascends;
        doc-ascends = ascends-tail d doc f.doc-ascends;
      })))
      f.doc-next
    where
      larger : (l : List Row) → BeforeNext d l → Sorted rises l → All (λ v. id_of d < id_of v) l
      larger [] b s v m = absurd (not-nil m)
      larger (u ∷ l) b s v m = on-mem m (λ e. rw e b) (λ n. let k = ltb→lt (id_of u) (id_of v) (s.0 v n) in omega arith)
  runs-follow (place {s} {pool} {st} {doc} {out} h r) a ga da gp gu gs is gd f =
      let ss = gs s (here refl) in
      let it = is s (here refl) in
      behind a s (map row_in out) ga ss (insert-next a s it)
      (runs-follow r s ss (others_apart (id_of s) pool da) (λ x m. gp x (others-in (id_of s) pool m).0) (updates-of (id_of s) pool gp)
      (stack_of (id_of s) pool st gp (λ x m. gs x (there m))) (inserts-of (id_of s) pool st (λ x m. is x (there m))) gd
      (opens s pool doc it da gp (after-insert s doc h) f.doc-ascends))
  runs-follow (step {d} {pool} {st} {doc} {out} t h r) a ga da gp gu gs is gd f =
      let gk = gd d (here refl) in
      behind a d (map row_in out) ga gk (insert-next a d t)
      (runs-follow r d gk (others_apart (id_of d) pool da) (λ x m. gp x (others-in (id_of d) pool m).0) (updates-of (id_of d) pool gp)
      (stack_of (id_of d) pool st gp gs) (inserts-of (id_of d) pool st is) (λ x m. gd x (there m))
      (opens d pool doc t da gp (head-next d doc gk (λ x m. gd x (there m)) f.doc-ascends) (ascends-tail d doc f.doc-ascends)))

  -- from the list's first row on
  begins-insert : (r : Row) → T (is_insert r) → T (begins r)
  unfolding begins
  begins-insert r t = (T-implies (on_list r) (is_insert r)).1 (λ l. t)

  abbrev pub HeadInsert : List Row → Type 0
  HeadInsert [] = Unit {0}
  HeadInsert (d ∷ doc) = T (is_insert d)

  pub runs-start : {pool st doc : List Row} {out : List Event} → Runs pool [] st doc out → Apart pool → All (OfList o) pool → All (OfList o) st → All (λ s. T (is_insert s)) st
      → All (OfList o) doc → HeadInsert doc → T (ascends adjacent doc) → T (first_begins (map row_in out)) × T (ascends adjacent (map row_in out))
  runs-start ends da gp gs is gd f t = (tt, tt)
  runs-start (keep {d} k h r) da gp gs is gd f t = absurd (T_not (is_insert d) k f)
  runs-start (place {s} {pool} {st} {doc} {out} h r) da gp gs is gd f t =
      let it = is s (here refl) in (
        begins-insert s it,
        runs-follow r s (gs s (here refl)) (others_apart (id_of s) pool da) (λ x m. gp x (others-in (id_of s) pool m).0) (updates-of (id_of s) pool gp)
            (stack_of (id_of s) pool st gp (λ x m. gs x (there m))) (inserts-of (id_of s) pool st (λ x m. is x (there m))) gd (opens s pool doc it da gp (after-insert s doc h) t),
      )
  runs-start (step {d} {pool} {st} {doc} {out} k h r) da gp gs is gd f t =
      let gk = gd d (here refl) in (
        begins-insert d k,
        runs-follow r d gk (others_apart (id_of d) pool da) (λ x m. gp x (others-in (id_of d) pool m).0) (updates-of (id_of d) pool gp) (stack_of (id_of d) pool st gp gs)
            (inserts-of (id_of d) pool st is) (λ x m. gd x (there m)) (opens d pool doc k da gp (head-next d doc gk (λ x m. gd x (there m)) t) (ascends-tail d doc t)),
      )
