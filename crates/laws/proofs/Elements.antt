-- The elements of rows are the preorder of their inserts, so that the laws of Nearest, Preorder, Weave and Walk speak of documents.
--     ins_of rs o     the inserts of list o, each with what it refers to, as they stand in rs
--     Listed rs      what checks 4 and 7 say of insert rows, and that row ids differ
use mathlib.Core.Path.{◌≡◌, refl, sym, ap, ap₂, ◌∙◌}
use mathlib.Core.Logic.{◌⊎◌, inl, inr, ⊎_elim}
use mathlib.Core.Bool.{Bool, ◌&&◌}
use mathlib.Core.List.{List, [], ◌∷◌, ◌++◌, map, map-append}
use Prim.Native.Nat.{ℕ, zero, suc, ◌≤◌, ◌<◌}
use native.Mathlib.Omega.{arith}
use lib.ListN.{length, length-map}
use lib.Dec.{T, ltb, eqb, eqb→eq}
use Rattle.model.specs.Basic.{filter, sort, concat_map}
use Rattle.model.specs.Id.{head}
use Rattle.model.specs.Row.{Row, id_of, object_of, named_of, is_insert}
use Rattle.model.specs.Order.{inserts, children, below, elements}
use Rattle.model.specs.Malformed.{row_fits}
use Rattle.model.specs.Refusal.{element_fits}
use Rattle.laws.proofs.Tests.{T_and, eq→eqb}
use Rattle.laws.proofs.Members.{Mem, All, mem-map, map-from, filter-from, filter_passes, filter-in, filter_map, filter-length}
use Rattle.laws.proofs.Pairs.{filter-pairwise, pairwise_map}
use Rattle.laws.proofs.Sort.{sort-map}
use Rattle.laws.proofs.RowOrder.{Apart}
use Rattle.laws.proofs.Ids.{id-positive}
use Rattle.laws.proofs.Refers.{names}
use Rattle.laws.proofs.RowFits.{fits}
use Rattle.laws.proofs.Nearest.{Ins, Distinct, Closed}
use Rattle.laws.proofs.Preorder.{desc, kids, forest, pre, preorder, pre-any, preorder-same}

abbrev pub insert-of : Row → Ins
insert-of r = record { id = id_of r; ref = named_of r }

abbrev pub id_in : Ins → ℕ
id_in x = x.id

unfoldable pub ins_of : List Row → ℕ → List Ins
ins_of rs o = map insert-of (inserts rs o)

pub map-map : {A B C : Type 0} (g : B → C) (f : A → B) (l : List A) → map g (map f l) ≡ map (λ x. g (f x)) l
map-map g f [] = refl
map-map g f (x ∷ l) = ap (λ k. g (f x) ∷ k) (map-map g f l)

-- ── tree preorder, of rows and of inserts
children-kids : (rs : List Row) (o e : ℕ) → children rs o e ≡ map id_in (kids e (ins_of rs o))
unfolding children ins_of
children-kids rs o e =
    let found = filter (λ r. eqb (named_of r) e) (inserts rs o) in
    let falls : Row → Row → Bool = λ a b. ltb (id_of b) (id_of a) in
    sort-map (λ a b. ltb b a) id_of found
    ∙ sym (map-map id_in insert-of (sort falls found))
    ∙ ap (map id_in) (sym (ap (sort desc) (filter_map (λ x. eqb x.ref e) insert-of (inserts rs o)) ∙ sort-map desc insert-of found))

forest-map : (g : ℕ → List ℕ) (f : Ins → List Ins) (ks : List Ins) → ((c : Ins) → g c.id ≡ map id_in (f c)) → concat_map (λ c. c ∷ g c) (map id_in ks) ≡ map id_in (forest f ks)
forest-map g f [] h = refl
forest-map g f (c ∷ ks) h = ap (λ l. c.id ∷ l) (ap₂ ◌++◌ (h c) (forest-map g f ks h) ∙ sym (map-append id_in (f c) (forest f ks)))

below-pre : (n : ℕ) (rs : List Row) (o e : ℕ) → below n rs o e ≡ map id_in (pre (ins_of rs o) n e)
unfolding below
below-pre zero rs o e = refl
below-pre (suc n) rs o e =
    ap (concat_map (λ c. c ∷ below n rs o c)) (children-kids rs o e)
    ∙ forest-map (below n rs o) (λ c. pre (ins_of rs o) n c.id) (kids e (ins_of rs o)) (λ c. below-pre n rs o c.id)

-- ── the rows that this is asked of
pub record Listed (rs : List Row) : Type 0 where
  pub apart : Apart rs
  pub low : All (λ r. T (is_insert r) → named_of r < id_of r) rs
  pub known : All (λ r. T (is_insert r) → (named_of r ≡ head) ⊎ ((e : Row) × Mem e rs × T (is_insert e) × (object_of e ≡ object_of r) × (id_of e ≡ named_of r))) rs

pub listed : (rs : List Row) → Apart rs → All (λ r. T (row_fits r)) rs → All (λ r. T (element_fits rs r)) rs → Listed rs
listed rs a f g =
    record {
      apart = a;
      low = λ r m t. ⊎_elim (λ e. omega (arith, id-positive (id_of r) (fits r (f r m)).id)) (λ w. w.0) (names rs r (g r m));
      known = λ r m t. ⊎_elim inl (λ w. inr w.1) (names rs r (g r m));
    }

-- ── the insert rows of a list
module _ (rs : List Row) (o : ℕ) where
  pub inserts-from : {r : Row} → Mem r (inserts rs o) → Mem r rs × T (is_insert r) × (object_of r ≡ o)
  unfolding inserts
  inserts-from {r} m =
      let p : Row → Bool = λ r. is_insert r && eqb (object_of r) o in
      let t = (T_and (is_insert r) (eqb (object_of r) o)).0 (filter_passes p rs m) in
      (filter-from p rs m, t.0, eqb→eq (object_of r) o t.1)

  pub inserts-in : {r : Row} → Mem r rs → T (is_insert r) → object_of r ≡ o → Mem r (inserts rs o)
  unfolding inserts
  inserts-in {r} m t e = filter-in (λ r. is_insert r && eqb (object_of r) o) rs m ((T_and (is_insert r) (eqb (object_of r) o)).1 (t, eq→eqb (object_of r) o e))

  pub ins-from : {x : Ins} → Mem x (ins_of rs o) → (r : Row) × Mem r rs × T (is_insert r) × (object_of r ≡ o) × (x ≡ insert-of r)
  unfolding ins_of
  ins-from m = let q = map-from insert-of (inserts rs o) m in let w = inserts-from q.1 in (q.0, w.0, w.1, w.2, q.2)

  pub ins-in : {r : Row} → Mem r rs → T (is_insert r) → object_of r ≡ o → Mem (insert-of r) (ins_of rs o)
  unfolding ins_of
  ins-in m t e = mem-map insert-of (inserts-in m t e)

  pub ins-few : length (ins_of rs o) ≤ length rs
  unfolding ins_of inserts
  ins-few =
      let p : Row → Bool = λ r. is_insert r && eqb (object_of r) o in
      let e : length (map insert-of (filter p rs)) ≡ length (filter p rs) = length-map (filter p rs) insert-of in
      rw e (omega (arith, filter-length p rs))

  module _ (l : Listed rs) where
    pub ins-distinct : Distinct (ins_of rs o)
    unfolding ins_of inserts
    ins-distinct = (pairwise_map (λ x y. x.id ≡ y.id → ⊥) insert-of (inserts rs o)).1 (filter-pairwise (λ x y. id_of x ≡ id_of y → ⊥) (λ r. is_insert r && eqb (object_of r) o) rs l.apart)

    pub ins-below : All (λ x. x.ref < x.id) (ins_of rs o)
    ins-below x m = let w = ins-from m in rw w.4 (l.low w.0 w.1 w.2)

    pub ins-closed : Closed (ins_of rs o)
    ins-closed x m =
        let w = ins-from m in
        ⊎_elim (λ e. inl (ap (λ y. y.ref) w.4 ∙ e))
        (λ k. inr (insert-of k.0, ins-in k.1 k.2 (k.3 ∙ w.3), k.4 ∙ sym (ap (λ y. y.ref) w.4)))
        (l.known w.0 w.1 w.2)

    -- ── THE TIE
    pub elements-is : elements rs o ≡ map id_in (preorder (ins_of rs o))
    unfolding elements
    elements-is = below-pre (length rs) rs o head ∙ ap (map id_in) (pre-any (ins_of rs o) ins-below (length rs) ins-few)

    pub element-in : {r : Row} → Mem r rs → T (is_insert r) → object_of r ≡ o → Mem (id_of r) (elements rs o)
    element-in m t e = rw elements-is (mem-map id_in ((preorder-same (ins_of rs o) ins-below ins-closed _).1 (ins-in m t e)))

    pub element-out : {i : ℕ} → Mem i (elements rs o) → (r : Row) × Mem r rs × T (is_insert r) × (object_of r ≡ o) × (i ≡ id_of r)
    element-out m =
        let q = map-from id_in (preorder (ins_of rs o)) (rw elements-is at m) in
        let w = ins-from ((preorder-same (ins_of rs o) ins-below ins-closed q.0).0 q.1) in
        (w.0, w.1, w.2, w.3, q.2 ∙ ap id_in w.4)
