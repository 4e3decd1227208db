-- One insert more, with an id above all others: the rows around it stay as they were, and it stands right behind the rows of the element that
-- it refers to, or first in its list.
use mathlib.Core.Path.{◌≡◌, refl, sym, ap, ap₂, subst, ◌∙◌}
use mathlib.Core.Logic.{◌⊎◌, inl, inr, ⊎_elim}
use mathlib.Core.Bool.{Bool, not}
use mathlib.Core.List.{List, [], ◌∷◌, ◌++◌, map, append_assoc, append-nil, map-append}
use Prim.Native.Nat.{ℕ, suc, ◌<◌}
use native.Mathlib.Omega.{arith}
use lib.ListN.{length, take, drop}
use lib.Seq.{take_at, drop_at}
use lib.Dec.{T, T_not, not_T, ltb, eqb, ltb→lt, lt→ltb, eqb→eq}
use Rattle.model.specs.Basic.{any, filter, place_in, up_to_last}
use Rattle.model.specs.Id.{head}
use Rattle.model.specs.Row.{Row, id_of, object_of, named_of, on_list, is_insert, element_of}
use Rattle.model.specs.Order.{elements, preorder, before, order}
use Rattle.model.specs.Spot.{row_at}
use Rattle.laws.proofs.Tests.{T_and, by-eq, bool-ext, is_true, eq→eqb, ne→neqb, neqb→ne}
use Rattle.laws.proofs.Members.{Mem, here, there, not-nil, All, on-mem, on-append, append_left, append_right, mem-cast, map-from, filter-append, filter-all, filter_none, filter-no, filter-ext, any-from, any-in}
use Rattle.laws.proofs.Cuts.{mem-split, Cuts, upto-filter}
use Rattle.laws.proofs.Pairs.{Pairwise, pairwise-across, pairwise-right}
use Rattle.laws.proofs.Sort.{Sorted, OrderOn, filter-sorted}
use Rattle.laws.proofs.Perms.{perm-mem, perm-sym}
use Rattle.laws.proofs.RowOrder.{Apart, apart-perm, before-order, order-sorted, order-perm-self}
use Rattle.laws.proofs.Before.{before-out, before-object, list-out, list-place}
use Rattle.laws.proofs.Place.{place_here, place-eq, place_at, place-next}
use Rattle.laws.proofs.Nearest.{Ins, HeadBelow}
use Rattle.laws.proofs.Walk.{into, into-largest, into-largest-head}
use Rattle.laws.proofs.Elements.{insert-of, id_in, ins_of, ins-from, ins-in, ins-distinct, element-in, element-out}
use Rattle.laws.proofs.SubDocument.{Placed, placed-listed, passing, ClosedUnder, on-object, one-kind, id-positive, order-filter}
use Rattle.laws.proofs.Refers.{object-low, names}
use Rattle.laws.proofs.ListOrder.{row-element, IsList, insert-on-list, insert-element, in-preorder, place-in-list, walk-elements}

-- ── the insert
module _ (rs : List Row) (y : Row) (p : Placed rs) (pa : Placed (rs ++ y ∷ [])) (ordered : order rs ≡ rs) (ins : T (is_insert y)) (top : All (λ r. id_of r < id_of y) rs) where
  abbrev es : List ℕ
  es = preorder (rs ++ y ∷ [])

  abbrev before-y : Row → Bool
  before-y r = before (preorder (rs ++ y ∷ [])) r y

  old : {r : Row} → Mem r rs → Mem r (rs ++ y ∷ [])
  old m = append_left (y ∷ []) m

  y-in : Mem y (rs ++ y ∷ [])
  y-in = append_right rs (here refl)

  on-all : {C : Type 0} {r : Row} → Mem r (rs ++ y ∷ []) → (Mem r rs → C) → (r ≡ y → C) → C
  on-all m f g = on-append rs m f (λ n. on-mem n g (λ k. absurd (not-nil k)))

  y-list : T (on_list y)
  y-list = insert-on-list (rs ++ y ∷ []) pa y y-in ins

  sorts : OrderOn (before es) (rs ++ y ∷ [])
  sorts = before-order es (rs ++ y ∷ []) pa.apart

  -- ── without it, the rows are as they were
  smaller : (i : ℕ) → i < id_of y → T (not (eqb i (id_of y)))
  smaller i h = ne→neqb i (id_of y) (λ e. omega arith)

  closed : ClosedUnder (λ i. not (eqb i (id_of y))) (rs ++ y ∷ [])
  closed r m t =
      on-all m
      (λ n. (
        ⊎_elim (λ e. inl e) (λ h. let k = top r n in inr (smaller (object_of r) (omega arith))) (object-low (rs ++ y ∷ []) r (pa.objects r m)),
        ⊎_elim (λ e. inl e) (λ h. let k = top r n in let j = h.0 in inr (smaller (named_of r) (omega arith))) (names (rs ++ y ∷ []) r (pa.elements r m)),
      ))
      (λ e. absurd (neqb→ne (id_of r) (id_of y) t (ap id_of e)))

  passes : passing (λ i. not (eqb i (id_of y))) (rs ++ y ∷ []) ≡ rs
  passes =
      let test : Row → Bool = λ r. not (eqb (id_of r) (id_of y)) in
      filter-append test rs (y ∷ [])
      ∙ ap₂ ◌++◌ (filter-all test rs (λ r m. smaller (id_of r) (top r m))) (filter-no test y [] (rw (is_true (eqb (id_of y) (id_of y)) (eq→eqb (id_of y) (id_of y) refl)) tt))
      ∙ append-nil rs

  without : filter (λ r. not (eqb (id_of r) (id_of y))) (order (rs ++ y ∷ [])) ≡ rs
  without = order-filter (λ i. not (eqb i (id_of y))) (rs ++ y ∷ []) pa closed ∙ ap order passes ∙ ordered

  new-sorted : Sorted (before es) (order (rs ++ y ∷ []))
  new-sorted = order-sorted (rs ++ y ∷ []) pa.apart

  old-sorted : Sorted (before es) rs
  old-sorted = subst (Sorted (before es)) without (filter-sorted (before es) (λ r. not (eqb (id_of r) (id_of y))) (order (rs ++ y ∷ [])) new-sorted)

  -- ── it stands behind those that stand before it
  pub puts : order (rs ++ y ∷ []) ≡ take (length (filter before-y rs)) rs ++ y ∷ drop (length (filter before-y rs)) rs
  puts =
      let w = mem-split (order (rs ++ y ∷ [])) (perm-mem (perm-sym (order-perm-self (rs ++ y ∷ []))) y-in) in
      stands w.0 w.1 w.2
    where
      stands : (a b : List Row) → order (rs ++ y ∷ []) ≡ a ++ y ∷ b → order (rs ++ y ∷ []) ≡ take (length (filter before-y rs)) rs ++ y ∷ drop (length (filter before-y rs)) rs
      stands a b e = e ∙ ap₂ (λ u v. u ++ y ∷ v) (sym (ap₂ take front parts ∙ take_at a b (length a) refl)) (sym (ap₂ drop front parts ∙ drop_at a b (length a) refl))
        where
          test : Row → Bool
          test r = not (eqb (id_of r) (id_of y))

          sorted : Sorted (before es) (a ++ y ∷ b)
          sorted = subst (Sorted (before es)) e new-sorted

          apart : Apart (a ++ y ∷ b)
          apart = subst Apart e (apart-perm (perm-sym (order-perm-self (rs ++ y ∷ []))) pa.apart)

          D : Row → Row → Type 0
          D u v = id_of u ≡ id_of v → ⊥

          parts : rs ≡ a ++ b
          parts =
              sym without ∙ ap (filter test) e ∙ filter-append test a (y ∷ b)
              ∙ ap₂ ◌++◌ (filter-all test a (λ r m. ne→neqb (id_of r) (id_of y) (pairwise-across D a (y ∷ b) apart r y m (here refl))))
              (filter-no test y b (rw (is_true (eqb (id_of y) (id_of y)) (eq→eqb (id_of y) (id_of y) refl)) tt)
              ∙ filter-all test b (λ r m. ne→neqb (id_of r) (id_of y) (λ q. (pairwise-right D a (y ∷ b) apart).0 r m (sym q))))

          B : Row → Row → Type 0
          B u v = T (before es u v)

          in_all : {r : Row} → Mem r b → Mem r (rs ++ y ∷ [])
          in_all {r} m = old (subst (λ l. Mem r l) (sym parts) (append_right a m))

          front : length (filter before-y rs) ≡ length a
          front =
              ap (λ l. length (filter before-y l)) parts
              ∙ ap length (filter-append before-y a b
              ∙ ap₂ ◌++◌ (filter-all before-y a (λ r m. pairwise-across B a (y ∷ b) sorted r y m (here refl)))
              (filter_none before-y b
              (λ r m. not_T (before-y r) (λ t. sorts.irreflexive y y-in (sorts.transitive y r y y-in (in_all m) y-in ((pairwise-right B a (y ∷ b) sorted).0 r m) t))))
              ∙ append-nil a)

  -- ── its list
  list-there : IsList rs (object_of y)
  list-there =
      ⊎_elim
      (λ w.
      let m = w.1 in
      on-all m.1 (λ n. (m.0, n, m.2, m.3))
      (λ e. absurd (⊎_elim (λ z. omega (arith, id-positive (rs ++ y ∷ []) pa y-in, ap id_of e, m.2, z)) (λ h. omega (arith, ap id_of e, m.2)) (object-low (rs ++ y ∷ []) y (pa.objects y y-in)))))
      (λ w. absurd (T_not (is_insert y) w.1 ins))
      (on-object (rs ++ y ∷ []) y (pa.objects y y-in))

  list-here : IsList (rs ++ y ∷ []) (object_of y)
  list-here = (list-there.0, old list-there.1, list-there.2, list-there.3)

  grown : elements (rs ++ y ∷ []) (object_of y) ≡ map id_in (into (insert-of y) (ins_of rs (object_of y)))
  grown = walk-elements rs y pa p ordered ins list-there

  below-y : All (λ c. c.id < id_of y) (ins_of rs (object_of y))
  below-y c m = let w = ins-from rs (object_of y) m in rw w.4 (top w.0 w.1)

  head-below : (l : List Ins) → All (λ c. c.id < id_of y) l → HeadBelow (id_of y) l
  head-below [] a = tt
  head-below (c ∷ l) a = a c (here refl)

  abbrev E : List ℕ
  E = elements (rs ++ y ∷ []) (object_of y)

  -- the elements of rows that were there
  element-old : (r : Row) → Mem r rs → object_of r ≡ object_of y → T (on_list r) × Mem (element_of r) E × (element_of r < id_of y)
  element-old r m e =
      let l : T (on_list r) = rw (one-kind (rs ++ y ∷ []) pa r y (old m) y-in e) y-list in
      let w = element-out rs (object_of r) (placed-listed p) (row-element rs p r m l) in
      let k = top w.0 w.1 in
      (l, subst (λ o. Mem (element_of r) (elements (rs ++ y ∷ []) o)) e (row-element (rs ++ y ∷ []) pa r (old m) l), omega (arith, w.4))

  y-element : element_of y ≡ id_of y
  y-element = insert-element y ins

  y-in-E : Mem (id_of y) E
  y-in-E = element-in (rs ++ y ∷ []) (object_of y) (placed-listed pa) y-in ins refl

  -- a row of the list stands before it exactly where its element does
  near-out : (r : Row) → Mem r rs → T (before-y r) → (object_of r < object_of y) ⊎ ((object_of r ≡ object_of y) × (place_in E (element_of r) < place_in E (id_of y)))
  near-out r m t =
      by-eq (object_of r) (object_of y)
      (λ e.
      let w = element-old r m e in
      ⊎_elim (λ h. inl h)
      (λ q. ⊎_elim
      (λ h. inr (e, ltb→lt (place_in E (element_of r)) (place_in E (id_of y)) (rw (place-in-list (rs ++ y ∷ []) pa (object_of y) list-here (element_of r) (id_of y) w.1 y-in-E) (lt→ltb (place_in es (element_of r)) (place_in es (id_of y)) (subst (λ i. place_in es (element_of r) < place_in es i) y-element h)))))
      (λ h. let k = w.2 in absurd (omega (arith, place-eq es (element_of r) (id_of y) (in-preorder (rs ++ y ∷ []) pa (object_of y) list-here w.1) (h.0 ∙ ap (place_in es) y-element))))
      q.1)
      (list-out es r y w.0 y-list t))
      (λ ne. ⊎_elim (λ h. inl h) (λ q. absurd (ne q.0)) (before-out es r y t))

  near-in : (r w : Row) → Mem r rs → Mem w (rs ++ y ∷ []) → object_of r ≡ object_of y → object_of w ≡ object_of y → T (on_list w) → Mem (element_of w) E → place_in E (element_of r) < place_in E (element_of w) → T (before es r w)
  near-in r w m n e g l i h =
      let k = element-old r m e in
      list-place es r w k.0 l (e ∙ sym g)
      (ltb→lt (place_in es (element_of r)) (place_in es (element_of w)) (rw (← place-in-list (rs ++ y ∷ []) pa (object_of y) list-here (element_of r) (element_of w) k.1 i) (lt→ltb (place_in E (element_of r)) (place_in E (element_of w)) h)))

  -- ── on HEAD: behind the rows of the objects before its list
  module _ (on-head : named_of y ≡ head) where
    E-is : E ≡ id_of y ∷ map id_in (ins_of rs (object_of y))
    E-is = grown ∙ ap (map id_in) (into-largest-head (insert-of y) (ins_of rs (object_of y)) on-head (head-below (ins_of rs (object_of y)) below-y))

    first-before : (r : Row) → Mem r rs → before-y r ≡ ltb (object_of r) (object_of y)
    first-before r m =
        bool-ext (before-y r) (ltb (object_of r) (object_of y))
        (λ t. ⊎_elim (λ h. lt→ltb (object_of r) (object_of y) h)
        (λ q. absurd (omega (arith, q.1, ap (λ l. place_in l (id_of y)) E-is, place_here (id_of y) (id_of y) (map id_in (ins_of rs (object_of y))) refl))) (near-out r m t))
        (λ t. before-object es r y (ltb→lt (object_of r) (object_of y) t))

    pub first-place : length (filter before-y rs) ≡ length (filter (λ r. ltb (object_of r) (object_of y)) rs)
    first-place = ap length (filter-ext before-y (λ r. ltb (object_of r) (object_of y)) rs first-before)

  -- ── on an element: just after all its rows
  module _ (w : Row) (w-in : Mem w rs) (w-insert : T (is_insert w)) (w-object : object_of w ≡ object_of y) (w-id : id_of w ≡ named_of y) where
    abbrev at : Row → Bool
    at r = row_at (object_of y) (named_of y) r

    w_list : T (on_list w)
    w_list = insert-on-list rs p w w-in w-insert

    w-element : element_of w ≡ named_of y
    w-element = insert-element w w-insert ∙ w-id

    -- its element stands right before the new one
    next : (place_in E (id_of y) ≡ suc (place_in E (named_of y))) × Mem (named_of y) E
    next = go (mem-split (ins_of rs (object_of y)) (ins-in rs (object_of y) w-in w-insert w-object))
      where
        go : (a : List Ins) × (b : List Ins) × (ins_of rs (object_of y) ≡ a ++ insert-of w ∷ b) → (place_in E (id_of y) ≡ suc (place_in E (named_of y))) × Mem (named_of y) E
        go k =
            let a = k.0 in
            let b = k.1 in
            let e : E ≡ map id_in a ++ id_of w ∷ id_of y ∷ map id_in b =
            grown ∙ ap (λ l. map id_in (into (insert-of y) l)) k.2
            ∙ ap (map id_in) (into-largest (insert-of y) (insert-of w) a b (id-positive rs p w-in) w-id apart (head-below b (λ c m. in_b c m)))
            ∙ map-append id_in a (insert-of w ∷ insert-of y ∷ b) in
            let last : place_in E (id_of y) ≡ suc (length (map id_in a)) = ap (λ l. place_in l (id_of y)) e ∙ place-next (map id_in a) (map id_in b) (id_of w) (id_of y) not_new (λ q. let t = top w w-in in omega arith) in
            let here-w : place_in E (named_of y) ≡ length (map id_in a) = ap₂ place_in e (sym w-id) ∙ place_at (map id_in a) (id_of y ∷ map id_in b) (id_of w) not-old in
            (omega (arith, last, here-w), subst (λ l. Mem (named_of y) l) (sym e) (append_right (map id_in a) (here (sym w-id))))
          where
            D : Ins → Ins → Type 0
            D u v = u.id ≡ v.id → ⊥

            distinct : Pairwise D (k.0 ++ insert-of w ∷ k.1)
            distinct = subst (Pairwise D) k.2 (ins-distinct rs (object_of y) (placed-listed p))

            apart : All (λ c. c.id ≡ id_of w → ⊥) k.0
            apart c m = pairwise-across D k.0 (insert-of w ∷ k.1) distinct c (insert-of w) m (here refl)

            in-a : (c : Ins) → Mem c k.0 → c.id < id_of y
            in-a c m = below-y c (subst (λ l. Mem c l) (sym k.2) (append_left (insert-of w ∷ k.1) m))

            in_b : (c : Ins) → Mem c k.1 → c.id < id_of y
            in_b c m = below-y c (subst (λ l. Mem c l) (sym k.2) (append_right k.0 (there m)))

            not_new : Mem (id_of y) (map id_in k.0) → ⊥
            not_new m = let q = map-from id_in k.0 m in let t = in-a q.0 q.1 in omega (arith, q.2)

            not-old : Mem (id_of w) (map id_in k.0) → ⊥
            not-old m = let q = map-from id_in k.0 m in apart q.0 q.1 (sym q.2)

    at_out : (r : Row) → T (row_at (object_of y) (named_of y) r) → (object_of r ≡ object_of y) × (element_of r ≡ named_of y)
    unfolding row_at
    at_out r t = let u = (T_and (eqb (object_of r) (object_of y)) (eqb (element_of r) (named_of y))).0 t in (eqb→eq (object_of r) (object_of y) u.0, eqb→eq (element_of r) (named_of y) u.1)

    at_in : (r : Row) → object_of r ≡ object_of y → element_of r ≡ named_of y → T (row_at (object_of y) (named_of y) r)
    unfolding row_at
    at_in r e g = (T_and (eqb (object_of r) (object_of y)) (eqb (element_of r) (named_of y))).1 (eq→eqb (object_of r) (object_of y) e, eq→eqb (element_of r) (named_of y) g)

    -- its rows stand before it
    own-before : (r : Row) → Mem r rs → T (row_at (object_of y) (named_of y) r) → T (before-y r)
    own-before r m t =
        let q = at_out r t in
        near-in r y m y-in q.0 refl y-list (mem-cast y-element y-in-E)
        (omega (arith, next.0, ap (place_in E) q.1, ap (place_in E) y-element))

    -- what stands before it and is none of them stands before its insert row
    other-before : (r : Row) → Mem r rs → T (before-y r) → T (not (row_at (object_of y) (named_of y) r)) → T (before es r w)
    other-before r m t u =
        ⊎_elim (λ h. before-object es r w (omega (arith, w-object)))
        (λ q.
        let ne : element_of r ≡ named_of y → ⊥ = λ e. T_not (row_at (object_of y) (named_of y) r) u (at_in r q.0 e) in
        let apart : place_in E (element_of r) ≡ place_in E (named_of y) → ⊥ = λ e. ne (place-eq E (element_of r) (named_of y) (element-old r m q.0).1 e) in
        near-in r w m (old w-in) q.0 w-object w_list (mem-cast w-element next.1) (omega (arith, q.1, next.0, ap (place_in E) w-element)))
        (near-out r m t)

    cuts : (pre l : List Row) → rs ≡ pre ++ l → Cuts at before-y l
    cuts pre [] e = tt
    cuts pre (x ∷ l) e = (reached, passed, cuts (pre ++ x ∷ []) l (e ∙ sym (append_assoc pre (x ∷ []) l)))
      where
        B : Row → Row → Type 0
        B u v = T (before es u v)

        sorted : Sorted (before es) (pre ++ x ∷ l)
        sorted = subst (Sorted (before es)) e old-sorted

        there-in : {r : Row} → Mem r (x ∷ l) → Mem r rs
        there-in {r} m = subst (λ k. Mem r k) (sym e) (append_right pre m)

        reached : T (any at (x ∷ l)) → T (before-y x)
        reached t =
            let q = any-from at (x ∷ l) t in
            let own = own-before q.0 (there-in q.1) q.2 in
            on-mem q.1 (λ g. subst (λ r. T (before-y r)) g own)
            (λ n. sorts.transitive x q.0 y (old (there-in (here refl))) (old (there-in (there n))) y-in ((pairwise-right B pre (x ∷ l) sorted).0 q.0 n) own)

        passed : T (not (any at (x ∷ l))) → All (λ r. T (not (before-y r))) (x ∷ l)
        passed t r m = not_T (before-y r)
            (λ u.
            let none : (z : Row) → Mem z (x ∷ l) → T (at z) → ⊥ = λ z n v. T_not (any at (x ∷ l)) t (any-in at (x ∷ l) n v) in
            let ahead = other-before r (there-in m) u (not_T (at r) (none r m)) in
            on-append pre (subst (λ k. Mem w k) e w-in)
            (λ n. sorts.irreflexive r (old (there-in m)) (sorts.transitive r w r (old (there-in m)) (old w-in) (old (there-in m)) ahead (pairwise-across B pre (x ∷ l) sorted w r n m)))
            (λ n. none w n (at_in w w-object w-element)))

    pub after-place : length (filter before-y rs) ≡ length (up_to_last (row_at (object_of y) (named_of y)) rs)
    after-place = sym (ap length (upto-filter at before-y rs (cuts [] rs refl)))
