-- The inserts of a list in a document that stands in order: they stand in tree preorder, each behind the nearest smaller element, its
-- reference. Merging a batch weaves its inserts in, and one insert walks right past larger ids.
use mathlib.Core.Path.{◌≡◌, refl, sym, ap, subst, ◌∙◌}
use mathlib.Core.Logic.{◌⊎◌, ⊎_elim}
use mathlib.Core.Bool.{Bool, true, false, cond, ◌&&◌}
use mathlib.Core.List.{List, [], ◌∷◌, ◌++◌, map, map-append}
use Prim.Native.Nat.{ℕ, suc, ◌<◌}
use native.Mathlib.Omega.{arith}
use lib.Dec.{T, T_not, not_T, ltb, eqb, ltb→lt, lt→ltb}
use Rattle.model.specs.Basic.{filter, sort, place_in, member}
use Rattle.model.specs.Row.{Row, id_of, object_of, named_of, on_list, is_insert, is_make_sequence, element_of}
use Rattle.model.specs.Order.{inserts, elements, preorder, before, order}
use Rattle.laws.proofs.Tests.{is_true}
use Rattle.laws.proofs.Members.{Mem, mem-map, map-from, mem-cast, append_right, All, Same, filter-append, filter-in, filter-from, member-mem}
use Rattle.laws.proofs.Pairs.{NoDup, KeyDistinct, picked, map_inj, pairwise-mono, pairwise_map, one_key, key-distinct-map, filter-pairwise}
use Rattle.laws.proofs.Sort.{Sorted, OrderOn, filter-sorted, sort-unique, sorted_sort, sort_sorted, sort-in}
use Rattle.laws.proofs.Lex.{ltb-strict, order-by}
use Rattle.laws.proofs.RowOrder.{order-sorted, numbers-order}
use Rattle.laws.proofs.Before.{list-out}
use Rattle.laws.proofs.Place.{place_here, place-past, place-eq, place-filter}
use Rattle.laws.proofs.Nearest.{Ins, Ordered, Distinct, fresh-from-head, fresh-distinct, nearest}
use Rattle.laws.proofs.Preorder.{preorder as preorder_of, preorder-same, preorder-ordered, preorder-law, distinct-good}
use Rattle.laws.proofs.Weave.{Fits, merge, merge-is}
use Rattle.laws.proofs.Walk.{into, into-is}
use Rattle.laws.proofs.Elements.{insert-of, id_in, ins_of, ins-from, ins-in, inserts-from, ins-distinct, ins-below, ins-closed, elements-is, element-in, element-out, map-map}
use Rattle.laws.proofs.RowFits.{list-key}
use Rattle.laws.proofs.Refers.{names}
use Rattle.laws.proofs.SubDocument.{Placed, placed-listed, on-object}

-- o is a list: a row makes it
abbrev pub IsList : List Row → ℕ → Type 0
IsList rs o = (m : Row) × Mem m rs × (id_of m ≡ o) × T (is_make_sequence m)

-- ── a list without repetition stands by its own places
pub place-sorted : (es : List ℕ) → NoDup es → Sorted (λ x y. ltb (place_in es x) (place_in es y)) es
place-sorted [] d = tt
place-sorted (e ∷ es) d =
    let past : (y : ℕ) → Mem y es → place_in (e ∷ es) y ≡ suc (place_in es y) = λ y m. place-past e y es (d.0 y m) in (
      λ y m. lt→ltb (place_in (e ∷ es) e) (place_in (e ∷ es) y) (omega (arith, place_here e e es refl, past y m)),
      pairwise-mono es (λ x y m n t. lt→ltb (place_in (e ∷ es) x) (place_in (e ∷ es) y) (omega (arith, past x m, past y n, ltb→lt (place_in es x) (place_in es y) t))) (place-sorted es d.1),
    )

pub insert-on-list : (rs : List Row) → Placed rs → (r : Row) → Mem r rs → T (is_insert r) → T (on_list r)
insert-on-list rs p r m t = ⊎_elim (λ x. x.0) (λ x. absurd (T_not (is_insert r) x.1 t)) (on-object rs r (p.objects r m))

pub list_of : (rs : List Row) → Placed rs → (r : Row) → Mem r rs → T (on_list r) → IsList rs (object_of r)
list_of rs p r m t = ⊎_elim (λ x. x.1) (λ x. absurd (T_not (on_list r) x.0 t)) (on-object rs r (p.objects r m))

-- a list row's element is one of its list
pub row-element : (rs : List Row) → Placed rs → (r : Row) → Mem r rs → T (on_list r) → Mem (element_of r) (elements rs (object_of r))
unfolding element_of
row-element rs p r m l = go (is_insert r) refl
  where
    go : (b : Bool) → is_insert r ≡ b → Mem (cond b (id_of r) (named_of r)) (elements rs (object_of r))
    go true e = element-in rs (object_of r) (placed-listed p) m (rw e tt) refl
    go false e =
        ⊎_elim (λ z. absurd (rw e at ((list-key r (p.fit r m) l).from-head z)))
        (λ w. mem-cast (sym w.1.4) (element-in rs (object_of r) (placed-listed p) w.1.1 w.1.2 w.1.3))
        (names rs r (p.elements r m))

pub insert-element : (r : Row) → T (is_insert r) → element_of r ≡ id_of r
unfolding element_of
insert-element r t = rw (is_true (is_insert r) t)

module _ (rs : List Row) (p : Placed rs) where
  pub elements-nodup : (o : ℕ) → NoDup (elements rs o)
  elements-nodup o =
      let ins = ins_of rs o in
      let below = ins-below rs o (placed-listed p) in
      let good = distinct-good ins (ins-distinct rs o (placed-listed p)) below in
      rw (elements-is rs o (placed-listed p))
      ((key-distinct-map id_in (preorder_of ins)).0
      (fresh-distinct (0 ∷ []) (preorder_of ins)
      (fresh-from-head ins good (preorder_of ins) (λ x m. (preorder-same ins below (ins-closed rs o (placed-listed p)) x).0 m) (preorder-ordered ins below (ins-distinct rs o (placed-listed p))))))

  -- ── one list among all lists
  lists : List ℕ
  lists = sort ltb (map id_of (filter is_make_sequence rs))

  lists-nodup : KeyDistinct (λ (i : ℕ). i) lists
  unfolding lists
  lists-nodup =
      let ids = map id_of (filter is_make_sequence rs) in
      pairwise-mono (sort ltb ids) (λ x y m n t e. ltb-strict.irreflexive x (rw (← e) at t))
      (sort_sorted ltb ids (numbers-order ltb ltb-strict ids) ((key-distinct-map id_of (filter is_make_sequence rs)).0 (filter-pairwise (λ x y. id_of x ≡ id_of y → ⊥) is_make_sequence rs p.apart)))

  list-in : (o : ℕ) → IsList rs o → Mem o lists
  unfolding lists
  list-in o w = sort-in ltb (map id_of (filter is_make_sequence rs)) (mem-cast (sym w.2) (mem-map id_of (filter-in is_make_sequence rs w.1 w.3)))

  own-elements : (o : ℕ) → IsList rs o → filter (λ i. member i (elements rs o)) (preorder rs) ≡ elements rs o
  unfolding preorder lists
  own-elements o w =
      picked (λ i. i) (elements rs) (λ i. member i (elements rs o)) lists o lists-nodup (list-in o w)
      (λ i m. (member-mem i (elements rs o)).1 m)
      (λ a m ne i n. not_T (member i (elements rs o))
      (λ t.
      let q = element-out rs a (placed-listed p) n in
      let r = element-out rs o (placed-listed p) ((member-mem i (elements rs o)).0 t) in
      ne (sym q.3 ∙ ap object_of (one_key id_of rs p.apart q.0 r.0 q.1 r.1 (sym q.4 ∙ r.4)) ∙ r.3)))

  -- in one list, places in the whole preorder compare as places in the list
  pub place-in-list : (o : ℕ) → IsList rs o → (x y : ℕ) → Mem x (elements rs o) → Mem y (elements rs o)
      → ltb (place_in (elements rs o) x) (place_in (elements rs o) y) ≡ ltb (place_in (preorder rs) x) (place_in (preorder rs) y)
  place-in-list o w x y m n =
      ap (λ es. ltb (place_in es x) (place_in es y)) (sym (own-elements o w))
      ∙ place-filter (λ i. member i (elements rs o)) (preorder rs) x y ((member-mem x (elements rs o)).1 m) ((member-mem y (elements rs o)).1 n)

  pub in-preorder : (o : ℕ) → IsList rs o → {x : ℕ} → Mem x (elements rs o) → Mem x (preorder rs)
  in-preorder o w {x} m = filter-from (λ i. member i (elements rs o)) (preorder rs) (subst (λ es. Mem x es) (sym (own-elements o w)) m)

  -- ── rows in order: the inserts of a list stand in tree preorder
  module _ (ordered : order rs ≡ rs) (o : ℕ) (w : IsList rs o) where
    ids-sorted : Sorted (λ x y. ltb (place_in (elements rs o) x) (place_in (elements rs o) y)) (map id_in (ins_of rs o))
    unfolding ins_of inserts
    ids-sorted =
        rw (map-map id_in insert-of (inserts rs o))
        ((pairwise_map (λ x y. T (ltb (place_in (elements rs o) x) (place_in (elements rs o) y))) id_of (inserts rs o)).1
        (pairwise-mono (inserts rs o) step (filter-sorted (before (preorder rs)) (λ r. is_insert r && eqb (object_of r) o) rs (subst (Sorted (before (preorder rs))) ordered (order-sorted rs p.apart)))))
      where
        step : (a b : Row) → Mem a (inserts rs o) → Mem b (inserts rs o) → T (before (preorder rs) a b) → T (ltb (place_in (elements rs o) (id_of a)) (place_in (elements rs o) (id_of b)))
        step a b m n t =
            let x = inserts-from rs o m in
            let y = inserts-from rs o n in
            let ea = insert-element a x.1 in
            let eb = insert-element b y.1 in
            let ma = element-in rs o (placed-listed p) x.0 x.1 x.2 in
            let mb = element-in rs o (placed-listed p) y.0 y.1 y.2 in
            let es = preorder rs in
            ⊎_elim (λ h. absurd (omega (arith, x.2, y.2)))
            (λ q. ⊎_elim
            (λ h. rw (place-in-list o w (id_of a) (id_of b) ma mb) (lt→ltb (place_in es (id_of a)) (place_in es (id_of b)) (subst (λ i. place_in es i < place_in es (id_of b)) ea (subst (λ j. place_in es (element_of a) < place_in es j) eb h))))
            (λ h.
            let same : id_of a ≡ id_of b = place-eq es (id_of a) (id_of b) (in-preorder o w ma) (ap (place_in es) (sym ea) ∙ h.0 ∙ ap (place_in es) eb) in
            absurd (omega (arith, h.1)))
            q.1)
            (list-out es a b (insert-on-list rs p a x.0 x.1) (insert-on-list rs p b y.0 y.1) t)

    ids-same : Same (map id_in (ins_of rs o)) (elements rs o)
    ids-same i = (
      λ m. let q = map-from id_in (ins_of rs o) m in let r = ins-from rs o q.1 in mem-cast (q.2 ∙ ap id_in r.4) (element-in rs o (placed-listed p) r.1 r.2 r.3),
      λ m. let r = element-out rs o (placed-listed p) m in mem-cast r.4 (mem-map id_in (ins-in rs o r.1 r.2 r.3)),
    )

    -- the elements, as the insert rows stand
    pub elements-stand : map id_in (ins_of rs o) ≡ elements rs o
    elements-stand =
        let E = elements rs o in
        let lt : ℕ → ℕ → Bool = λ x y. ltb (place_in E x) (place_in E y) in
        let ord : OrderOn lt E = order-by ltb ltb-strict (place_in E) E (λ x y m n e. place-eq E x y m e) in
        sort-unique lt E (map id_in (ins_of rs o)) ord (elements-nodup o) ids-same ids-sorted
        ∙ sorted_sort lt E ord (place-sorted E (elements-nodup o))

    pub inserts-stand : ins_of rs o ≡ preorder_of (ins_of rs o)
    inserts-stand =
        let ins = ins_of rs o in
        let same = preorder-same ins (ins-below rs o (placed-listed p)) (ins-closed rs o (placed-listed p)) in
        map_inj id_in ins (preorder_of ins) (λ x y m n e. one_key id_in ins (ins-distinct rs o (placed-listed p)) x y m ((same y).0 n) e)
        (elements-stand ∙ elements-is rs o (placed-listed p))

    -- THE LAW: each insert refers to the nearest smaller one to its left
    pub inserts-nearest : T (nearest [] (ins_of rs o))
    inserts-nearest = (preorder-law (ins_of rs o) (ins-distinct rs o (placed-listed p)) (ins-below rs o (placed-listed p))).1 inserts-stand

    pub inserts-ordered : Ordered (0 ∷ []) (ins_of rs o)
    inserts-ordered = subst (Ordered (0 ∷ [])) (sym inserts-stand) (preorder-ordered (ins_of rs o) (ins-below rs o (placed-listed p)) (ins-distinct rs o (placed-listed p)))

-- ── more inserts: the weave of both is the preorder of both
pub ins-append : (rs ns : List Row) (o : ℕ) → ins_of (rs ++ ns) o ≡ ins_of rs o ++ ins_of ns o
unfolding ins_of inserts
ins-append rs ns o =
    let q : Row → Bool = λ r. is_insert r && eqb (object_of r) o in
    ap (map insert-of) (filter-append q rs ns) ∙ map-append insert-of (filter q rs) (filter q ns)

module _ (rs ns : List Row) (pa : Placed (rs ++ ns)) (p : Placed rs) (ordered : order rs ≡ rs) (o : ℕ) (w : IsList rs o) where
  pub weave-fits : Fits (ins_of rs o) (ins_of ns o)
  weave-fits =
      let all = placed-listed pa in
      let e = ins-append rs ns o in
      record {
        below = subst (All (λ x. x.ref < x.id)) e (ins-below (rs ++ ns) o all);
        distinct = subst Distinct e (ins-distinct (rs ++ ns) o all);
        known = λ y m. subst (λ is. (y.ref ≡ 0) ⊎ ((x : Ins) × Mem x is × (x.id ≡ y.ref))) e (ins-closed (rs ++ ns) o all y (subst (λ is. Mem y is) (sym e) (append_right (ins_of rs o) m)));
        ordered = inserts-ordered rs p ordered o w;
      }

  pub weave-elements : elements (rs ++ ns) o ≡ map id_in (merge (ins_of rs o) (ins_of ns o))
  weave-elements =
      elements-is (rs ++ ns) o (placed-listed pa)
      ∙ ap (λ is. map id_in (preorder_of is)) (ins-append rs ns o)
      ∙ ap (map id_in) (sym (merge-is (ins_of rs o) (ins_of ns o) weave-fits))

-- ── one insert more: it walks right from its reference past larger ids
pub walk-elements : (rs : List Row) (x : Row) (pa : Placed (rs ++ x ∷ [])) (p : Placed rs) → order rs ≡ rs → T (is_insert x) → (w : IsList rs (object_of x))
    → elements (rs ++ x ∷ []) (object_of x) ≡ map id_in (into (insert-of x) (ins_of rs (object_of x)))
walk-elements rs x pa p ordered t w =
    let o = object_of x in
    let one : ins_of (x ∷ []) o ≡ insert-of x ∷ [] = unfold ins_of inserts in rw (is_true (is_insert x) t, is_true (eqb o o) (lib.Dec.eqb_refl o)) in
    weave-elements rs (x ∷ []) pa p ordered o w
    ∙ ap (λ is. map id_in (merge (ins_of rs o) is)) one
    ∙ ap (map id_in) (sym (into-is (insert-of x) (ins_of rs o) (subst (Fits (ins_of rs o)) one (weave-fits rs (x ∷ []) pa p ordered o w))))
