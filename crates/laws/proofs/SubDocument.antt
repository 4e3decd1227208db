-- Some rows of a document, with all that they refer to, stand in their own order as they stand in the document's.
--     order-filter     what passes a test of ids that is closed under reference
use mathlib.Core.Path.{◌≡◌, refl, sym, ap, ap₂, subst, ◌∙◌}
use mathlib.Core.Logic.{◌⊎◌, inl, inr, ⊎_elim}
use mathlib.Core.Bool.{Bool, true, false, not, cond, ◌&&◌, ◌||◌, true≢false}
use mathlib.Core.List.{List, [], ◌∷◌, ◌++◌, map}
use Prim.Native.Nat.{ℕ, ◌<◌}
use native.Mathlib.Omega.{arith}
use lib.Dec.{T, T_not, not_T, ltb, eqb, ltb→lt, nltb→le, eqb→eq}
use Rattle.model.specs.Basic.{any, filter, sort, concat_map, place_in, lex_before, same}
use Rattle.model.specs.Id.{root, head}
use Rattle.model.specs.Row.{Row, id_of, object_of, named_of, on_list, action_of, is_insert, is_make_map, is_make_sequence, element_of, rows_with}
use Rattle.model.specs.Order.{inserts, elements, preorder, key_rank, before, order}
use Rattle.model.specs.Key.{key_bytes_of}
use Rattle.model.specs.Malformed.{row_fits}
use Rattle.model.specs.Refusal.{has_make, object_fits, element_fits}
use Rattle.laws.proofs.Tests.{T_and, T-or, by-test, by-eq, bool-ext, is_true, is_false, of-false, ne→neqb, eq→eqb}
use Rattle.laws.proofs.Members.{Mem, here, there, All, filter-from, filter_passes, filter-in, filter-append, filter_comm, filter_map, filter_none, filter-yes, filter-no, map-from, any-from}
use Rattle.laws.proofs.Pairs.{filter-pairwise, one_key, key-distinct-nodup, key-distinct-map}
use Rattle.laws.proofs.Sort.{sort-filter, sort-ext, sort-from}
use Rattle.laws.proofs.Lex.{ltb-strict}
use Rattle.laws.proofs.RowOrder.{Apart, before-order, numbers-order}
use Rattle.laws.proofs.RowWords.{with-from}
use Rattle.laws.proofs.Ids.{id-positive as ids-positive}
use Rattle.laws.proofs.RowFits.{fits, list-key}
use Rattle.laws.proofs.Nearest.{Ins}
use Rattle.laws.proofs.Preorder.{preorder-filter, preorder as preorder_of}
use Rattle.laws.proofs.Place.{place-filter}
use Rattle.laws.proofs.Elements.{Listed, listed, insert-of, ins_of, id_in, ins-from, ins-distinct, ins-below, elements-is, element-out}

-- what checks 4, 6 and 7 say of rows whose ids differ
pub record Placed (rs : List Row) : Type 0 where
  pub apart : Apart rs
  pub fit : All (λ r. T (row_fits r)) rs
  pub objects : All (λ r. T (object_fits rs r)) rs
  pub elements : All (λ r. T (element_fits rs r)) rs

pub placed-listed : {rs : List Row} → Placed rs → Listed rs
placed-listed {rs} p = listed rs p.apart p.fit p.elements

-- ── one object, one kind of key
make-row : (kind : Row → Bool) (rs : List Row) (r : Row) → T (has_make kind rs r) → (m : Row) × Mem m rs × (id_of m ≡ object_of r) × T (kind m)
unfolding has_make
make-row kind rs r t =
    let q = any-from kind (rows_with rs (object_of r)) ((T_and (ltb (object_of r) (id_of r)) (any kind (rows_with rs (object_of r)))).0 t).1 in
    let w = with-from rs (object_of r) q.1 in
    (q.0, w.0, w.1, q.2)

abbrev pub MadeBy : List Row → Row → (Row → Bool) → Type 0
MadeBy rs r kind = (m : Row) × Mem m rs × (id_of m ≡ object_of r) × T (kind m)

pub on-object : (rs : List Row) (r : Row) → T (object_fits rs r)
    → (T (on_list r) × MadeBy rs r is_make_sequence) ⊎ (T (not (on_list r)) × T (not (is_insert r)) × ((object_of r ≡ root) ⊎ MadeBy rs r is_make_map))
unfolding object_fits
on-object rs r = go (on_list r)
  where
    go : (s : Bool) → T (cond s (has_make is_make_sequence rs r) (not (is_insert r) && (eqb (object_of r) root || has_make is_make_map rs r)))
        → (T s × MadeBy rs r is_make_sequence) ⊎ (T (not s) × T (not (is_insert r)) × ((object_of r ≡ root) ⊎ MadeBy rs r is_make_map))
    go true t = inl (tt, make-row is_make_sequence rs r t)
    go false t =
        let u = (T_and (not (is_insert r)) (eqb (object_of r) root || has_make is_make_map rs r)).0 t in
        inr (tt, u.0, ⊎_elim (λ v. inl (eqb→eq (object_of r) root v)) (λ v. inr (make-row is_make_map rs r v)) ((T-or (eqb (object_of r) root) (has_make is_make_map rs r)).0 u.1))

module _ (rs : List Row) (pl : Placed rs) where
  pub id-positive : {r : Row} → Mem r rs → 0 < id_of r
  id-positive {r} m = ids-positive (id_of r) (fits r (pl.fit r m)).id

  clash : (a b : Row) → object_of a ≡ object_of b → MadeBy rs a is_make_sequence → (object_of b ≡ root) ⊎ MadeBy rs b is_make_map → ⊥
  clash a b e m n =
      ⊎_elim (λ r. omega (arith, id-positive m.1, m.2, e, r))
      (λ k.
      let one : m.0 ≡ k.0 = one_key id_of rs pl.apart m.0 k.0 m.1 k.1 (m.2 ∙ e ∙ sym k.2) in
      let x = eqb→eq (action_of m.0) 2 m.3 in
      let y = eqb→eq (action_of k.0) 0 k.3 in
      omega (arith, sym x ∙ ap action_of one ∙ y))
      n

  pub one-kind : (a b : Row) → Mem a rs → Mem b rs → object_of a ≡ object_of b → on_list a ≡ on_list b
  one-kind a b m n e =
      ⊎_elim
      (λ x. ⊎_elim (λ y. is_true (on_list a) x.0 ∙ sym (is_true (on_list b) y.0)) (λ y. absurd (clash a b e x.1 y.2)) (on-object rs b (pl.objects b n)))
      (λ x. ⊎_elim (λ y. absurd (clash b a (sym e) y.1 x.2)) (λ y. is_false (on_list a) x.0 ∙ sym (is_false (on_list b) y.0)) (on-object rs b (pl.objects b n)))
      (on-object rs a (pl.objects a m))

-- ── places among those that pass
eqb-ltb : (a b : ℕ) → eqb a b ≡ not (ltb a b) && not (ltb b a)
eqb-ltb a b =
    bool-ext (eqb a b) (not (ltb a b) && not (ltb b a))
    (λ t. let e = eqb→eq a b t in (T_and (not (ltb a b)) (not (ltb b a))).1 (not_T (ltb a b) (λ u. omega (arith, ltb→lt a b u)), not_T (ltb b a) (λ u. omega (arith, ltb→lt b a u))))
    (λ t. let u = (T_and (not (ltb a b)) (not (ltb b a))).0 t in eq→eqb a b (omega (arith, nltb→le a b u.0, nltb→le b a u.1)))

place-filter-eq : (p : ℕ → Bool) (es : List ℕ) (x y : ℕ) → T (p x) → T (p y) → eqb (place_in (filter p es) x) (place_in (filter p es) y) ≡ eqb (place_in es x) (place_in es y)
place-filter-eq p es x y t u =
    eqb-ltb (place_in (filter p es) x) (place_in (filter p es) y)
    ∙ ap₂ (λ a b. not a && not b) (place-filter p es x y t u) (place-filter p es y x u t)
    ∙ sym (eqb-ltb (place_in es x) (place_in es y))

-- what is asked of a test of ids: it passes what a row that passes refers to
abbrev pub ClosedUnder : (ℕ → Bool) → List Row → Type 0
ClosedUnder C rs = All (λ r. T (C (id_of r)) → ((object_of r ≡ root) ⊎ T (C (object_of r))) × ((named_of r ≡ head) ⊎ T (C (named_of r)))) rs

abbrev pub passing : (ℕ → Bool) → List Row → List Row
passing C rs = filter (λ r. C (id_of r)) rs

module _ (C : ℕ → Bool) (rs : List Row) (pl : Placed rs) (closed : ClosedUnder C rs) where
  from : {r : Row} → Mem r (passing C rs) → Mem r rs
  from m = filter-from (λ r. C (id_of r)) rs m

  passes : {r : Row} → Mem r (passing C rs) → T (C (id_of r))
  passes m = filter_passes (λ r. C (id_of r)) rs m

  here-listed : Listed rs
  here-listed = placed-listed pl

  pub passing-listed : Listed (passing C rs)
  passing-listed =
      record {
        apart = filter-pairwise (λ x y. id_of x ≡ id_of y → ⊥) (λ r. C (id_of r)) rs pl.apart;
        low = λ r m. here-listed.low r (from m);
        known = λ r m t.
            ⊎_elim (λ e. inl e)
            (λ k.
            ⊎_elim (λ e. inl e) (λ u. inr (k.0, filter-in (λ r. C (id_of r)) rs k.1 (subst (λ i. T (C i)) (sym k.4) u), k.2, k.3, k.4))
            (closed r (from m) (passes m)).1)
            (here-listed.known r (from m) t);
      }

  ins-passing : (o : ℕ) → ins_of (passing C rs) o ≡ filter (λ x. C x.id) (ins_of rs o)
  unfolding ins_of inserts
  ins-passing o =
      let p : Row → Bool = λ r. is_insert r && eqb (object_of r) o in
      ap (map insert-of) (filter_comm p (λ r. C (id_of r)) rs) ∙ sym (filter_map (λ x. C x.id) insert-of (filter p rs))

  ins-closed-under : (o : ℕ) (x y : Ins) → Mem x (ins_of rs o) → Mem y (ins_of rs o) → T (C x.id) → y.id ≡ x.ref → T (C y.id)
  ins-closed-under o x y m n t e =
      let w = ins-from rs o m in
      ⊎_elim (λ z. absurd (omega (arith, ins-below rs o here-listed y n, e, ap (λ u. u.ref) w.4, z)))
      (λ u. subst (λ i. T (C i)) (sym (e ∙ ap (λ v. v.ref) w.4)) u)
      (closed w.0 w.1 (subst (λ i. T (C i)) (ap id_in w.4) t)).1

  pub elements-filter : (o : ℕ) → elements (passing C rs) o ≡ filter C (elements rs o)
  elements-filter o =
      let ins = ins_of rs o in
      elements-is (passing C rs) o passing-listed
      ∙ ap (λ l. map id_in (preorder_of l)) (ins-passing o)
      ∙ ap (map id_in) (sym (preorder-filter (λ x. C x.id) ins (ins-distinct rs o here-listed) (ins-closed-under o) (ins-below rs o here-listed)))
      ∙ sym (filter_map C id_in (preorder_of ins))
      ∙ ap (filter C) (sym (elements-is rs o here-listed))

  -- ── all lists
  lists : List Row → List ℕ
  lists l = sort ltb (map id_of (filter is_make_sequence l))

  lists-passing : lists (passing C rs) ≡ filter C (lists rs)
  unfolding lists
  lists-passing =
      let ids = map id_of (filter is_make_sequence rs) in
      ap (λ l. sort ltb (map id_of l)) (filter_comm is_make_sequence (λ r. C (id_of r)) rs)
      ∙ ap (sort ltb) (sym (filter_map C id_of (filter is_make_sequence rs)))
      ∙ sym (sort-filter ltb C ids (numbers-order ltb ltb-strict ids) ((key-distinct-map id_of (filter is_make_sequence rs)).0 (filter-pairwise (λ x y. id_of x ≡ id_of y → ⊥) is_make_sequence rs pl.apart)))

  -- a list that does not pass has no element that does
  none_pass : (o : ℕ) → Mem o (lists rs) → T (not (C o)) → filter C (elements rs o) ≡ []
  unfolding lists
  none_pass o m t =
      filter_none C (elements rs o)
      (λ i n. not_T (C i)
      (λ u.
      let w = element-out rs o here-listed n in
      let q = map-from id_of (filter is_make_sequence rs) (sort-from ltb (map id_of (filter is_make_sequence rs)) m) in
      ⊎_elim (λ z. omega (arith, id-positive rs pl (filter-from is_make_sequence rs q.1), q.2, w.3, z))
      (λ v. T_not (C o) t (subst (λ j. T (C j)) w.3 v))
      (closed w.0 w.1 (subst (λ j. T (C j)) w.4 u)).0))

  filter-each : (ls : List ℕ) → All (λ o. Mem o (lists rs)) ls → concat_map (elements (passing C rs)) (filter C ls) ≡ filter C (concat_map (elements rs) ls)
  filter-each [] a = refl
  filter-each (o ∷ ls) a =
      let ih = filter-each ls (λ x m. a x (there m)) in
      by-test (C o)
      (λ t.
      ap (concat_map (elements (passing C rs))) (filter-yes C o ls t)
      ∙ ap₂ ◌++◌ (elements-filter o) ih
      ∙ sym (filter-append C (elements rs o) (concat_map (elements rs) ls)))
      (λ t.
      ap (concat_map (elements (passing C rs))) (filter-no C o ls t)
      ∙ ih
      ∙ sym (filter-append C (elements rs o) (concat_map (elements rs) ls) ∙ ap (λ k. k ++ filter C (concat_map (elements rs) ls)) (none_pass o (a o (here refl)) t)))

  pub preorder-passing : preorder (passing C rs) ≡ filter C (preorder rs)
  unfolding preorder lists
  preorder-passing = ap (concat_map (elements (passing C rs))) lists-passing ∙ filter-each (lists rs) (λ o m. m)

  -- ── rows
  element-passes : (r : Row) → Mem r rs → T (C (id_of r)) → T (on_list r) → T (C (element_of r))
  unfolding element_of
  element-passes r m t l = go (is_insert r) refl
    where
      go : (b : Bool) → is_insert r ≡ b → T (C (cond b (id_of r) (named_of r)))
      go true e = t
      go false e = ⊎_elim (λ z. absurd (T_not (is_insert r) (of-false e) ((list-key r (pl.fit r m) l).from-head z))) (λ u. u) (closed r m t).1

  before-passing : (es : List ℕ) (a b : Row) → Mem a (passing C rs) → Mem b (passing C rs) → before es a b ≡ before (filter C es) a b
  unfolding before key_rank
  before-passing es a b m n =
      by-eq (object_of a) (object_of b)
      (λ e. ap (λ t. ltb (object_of a) (object_of b) || eqb (object_of a) (object_of b) && t) (ranks (on_list a) (on_list b) (one-kind rs pl a b (from m) (from n) e) (element-passes a (from m) (passes m)) (element-passes b (from n) (passes n))))
      (λ ne. rw (is_false (eqb (object_of a) (object_of b)) (ne→neqb (object_of a) (object_of b) ne)))
    where
      i : Bool
      i = ltb (id_of a) (id_of b)

      rank : Bool → List ℕ → Row → List ℕ
      rank s l r = cond s (place_in l (element_of r) ∷ []) (key_bytes_of r)

      ranks : (s t : Bool) → s ≡ t → (T s → T (C (element_of a))) → (T t → T (C (element_of b)))
          → lex_before (rank s es a) (rank t es b) || same (rank s es a) (rank t es b) && i
          ≡ lex_before (rank s (filter C es) a) (rank t (filter C es) b) || same (rank s (filter C es) a) (rank t (filter C es) b) && i
      ranks true true e f g =
          ap₂ (λ x y. (x || y && false) || (y && true) && i)
          (sym (place-filter C es (element_of a) (element_of b) (f tt) (g tt))) (sym (place-filter-eq C es (element_of a) (element_of b) (f tt) (g tt)))
      ranks true false e f g = absurd (true≢false e)
      ranks false true e f g = absurd (true≢false (sym e))
      ranks false false e f g = refl

  pub order-filter : filter (λ r. C (id_of r)) (order rs) ≡ order (passing C rs)
  unfolding order
  order-filter =
      sort-filter (before (preorder rs)) (λ r. C (id_of r)) rs (before-order (preorder rs) rs pl.apart) (key-distinct-nodup id_of rs pl.apart)
      ∙ sort-ext (before (preorder rs)) (before (filter C (preorder rs))) (passing C rs) (before-passing (preorder rs))
      ∙ ap (λ es. sort (before es) (passing C rs)) (sym preorder-passing)
