-- From the passes to the order: rows that pass stand in order.
use mathlib.Core.Path.{◌≡◌, refl, sym, ap, subst, ◌∙◌}
use mathlib.Core.Logic.{⊎_elim}
use mathlib.Core.Bool.{not}
use mathlib.Core.List.{List, [], ◌∷◌, ◌++◌, map, append_assoc, map-append}
use Prim.Native.Nat.{ℕ, ◌<◌}
use native.Mathlib.Omega.{arith}
use lib.Dec.{T, T_not, ltb→lt, lt→ltb}
use Rattle.model.specs.Basic.{ascends, place_in}
use Rattle.model.specs.Row.{Row, id_of, object_of, on_list, is_insert, element_of}
use Rattle.model.specs.Order.{elements, preorder, before, order}
use Rattle.laws.proofs.Tests.{T_and, by-eq}
use Rattle.laws.proofs.Members.{Mem, here, there, append_left, append_right, mem-cast}
use Rattle.laws.proofs.Pairs.{Pairwise, pairwise-across}
use Rattle.laws.proofs.Sort.{OrderOn, ascends-sorted, sorted_sort}
use Rattle.laws.proofs.RowOrder.{before-order}
use Rattle.laws.proofs.Before.{before-object, before-key, before-id, map-rank, list-rank, list-place}
use Rattle.laws.proofs.Place.{place-append-left, place-bound, place_at}
use Rattle.laws.proofs.Nearest.{nearest}
use Rattle.laws.proofs.Preorder.{preorder-law}
use Rattle.laws.proofs.Elements.{insert-of, id_in, ins_of, ins-distinct, ins-below, elements-is}
use Rattle.laws.proofs.SubDocument.{Placed, placed-listed, one-kind}
use Rattle.laws.proofs.ListOrder.{row-element, list_of, ins-append, insert-on-list, insert-element, place-in-list, elements-nodup}
use Rattle.laws.proofs.Passes.{adjacent, first_begins, nearest_from, Lists, lists-are, ins-take, adjacent-out, begins-insert, list-next-out, map-next-out, rising}

-- ── prefix by prefix: a list row's element is that of an insert at or before it
abbrev Upto : List Row → Row → Type 0
Upto pre a = T (on_list a) → Mem (element_of a) (map id_in (ins_of (pre ++ a ∷ []) (object_of a)))

own-insert : (pre : List Row) (a : Row) → T (is_insert a) → Mem (element_of a) (map id_in (ins_of (pre ++ a ∷ []) (object_of a)))
own-insert pre a t =
    let e = ins-append pre (a ∷ []) (object_of a) ∙ ap (λ l. ins_of pre (object_of a) ++ l) (ins-take a [] (object_of a) t refl) in
    subst (λ l. Mem (element_of a) (map id_in l)) (sym e) (rw (map-append id_in (ins_of pre (object_of a)) (insert-of a ∷ ins_of [] (object_of a))) (append_right (map id_in (ins_of pre (object_of a))) (here (insert-element a t))))

upto_next : (pre : List Row) (a b : Row) → T (adjacent a b) → (object_of a ≡ object_of b → on_list a ≡ on_list b) → Upto pre a → Upto (pre ++ a ∷ []) b
upto_next pre a b t kind u l =
    ⊎_elim (λ x. own-insert (pre ++ a ∷ []) b (begins-insert b x.1 l))
    (λ x. ⊎_elim
    (λ y. ⊎_elim (own-insert (pre ++ a ∷ []) b)
    (λ z.
    let la : T (on_list a) = rw (kind x.0) l in
    let e = ins-append (pre ++ a ∷ []) (b ∷ []) (object_of b) in
    subst (λ is. Mem (element_of b) (map id_in is)) (sym e)
    (rw (map-append id_in (ins_of (pre ++ a ∷ []) (object_of b)) (ins_of (b ∷ []) (object_of b)))
    (append_left (map id_in (ins_of (b ∷ []) (object_of b))) (subst (λ o. Mem (element_of b) (map id_in (ins_of (pre ++ a ∷ []) o))) x.0 (mem-cast (sym z.0) (u la))))))
    (list-next-out a b y.1))
    (λ y. absurd (T_not (on_list b) y.0 l))
    x.1)
    (adjacent-out a b t)

module _ (rs : List Row) (pl : Placed rs) where
  abbrev es : List ℕ
  es = preorder rs

  module _ (near : (o : ℕ) → T (nearest [] (ins_of rs o))) where
    stand : (o : ℕ) → elements rs o ≡ map id_in (ins_of rs o)
    stand o =
        let l = placed-listed pl in
        elements-is rs o l ∙ ap (map id_in) (sym ((preorder-law (ins_of rs o) (ins-distinct rs o l) (ins-below rs o l)).0 (near o)))

    -- the next insert stands behind every element so far
    insert-behind : (pre post : List Row) (a b : Row) → rs ≡ (pre ++ a ∷ []) ++ b ∷ post → T (is_insert b) → T (on_list a) → object_of a ≡ object_of b → Upto pre a → T (before es a b)
    insert-behind pre post a b e t la o u =
        let lb = insert-on-list rs pl b b-in t in
        let w = list_of rs pl b b-in lb in
        let ma : Mem (element_of a) (elements rs (object_of b)) = subst (λ q. Mem (element_of a) (elements rs q)) o (row-element rs pl a a_in la) in
        let mb : Mem (element_of b) (elements rs (object_of b)) = row-element rs pl b b-in lb in
        list-place es a b la lb o
        (ltb→lt (place_in es (element_of a)) (place_in es (element_of b))
        (rw (← place-in-list rs pl (object_of b) w (element_of a) (element_of b) ma mb) (lt→ltb (place_in (elements rs (object_of b)) (element_of a)) (place_in (elements rs (object_of b)) (element_of b)) places)))
      where
        a_in : Mem a rs
        a_in = subst (λ l. Mem a l) (sym e) (append_left (b ∷ post) (append_right pre (here refl)))

        b-in : Mem b rs
        b-in = subst (λ l. Mem b l) (sym e) (append_right (pre ++ a ∷ []) (here refl))

        split-here : elements rs (object_of b) ≡ map id_in (ins_of (pre ++ a ∷ []) (object_of b)) ++ id_of b ∷ map id_in (ins_of post (object_of b))
        split-here =
            stand (object_of b)
            ∙ ap (λ l. map id_in (ins_of l (object_of b))) e
            ∙ ap (map id_in) (ins-append (pre ++ a ∷ []) (b ∷ post) (object_of b) ∙ ap (λ l. ins_of (pre ++ a ∷ []) (object_of b) ++ l) (ins-take b post (object_of b) t refl))
            ∙ map-append id_in (ins_of (pre ++ a ∷ []) (object_of b)) (insert-of b ∷ ins_of post (object_of b))

        in-A : Mem (element_of a) (map id_in (ins_of (pre ++ a ∷ []) (object_of b)))
        in-A = subst (λ q. Mem (element_of a) (map id_in (ins_of (pre ++ a ∷ []) q))) o (u la)

        not-in-A : Mem (id_of b) (map id_in (ins_of (pre ++ a ∷ []) (object_of b))) → ⊥
        not-in-A m =
            pairwise-across (λ x y. x ≡ y → ⊥) (map id_in (ins_of (pre ++ a ∷ []) (object_of b))) (id_of b ∷ map id_in (ins_of post (object_of b)))
            (subst (Pairwise (λ x y. x ≡ y → ⊥)) split-here (elements-nodup rs pl (object_of b))) (id_of b) (id_of b) m (here refl) refl

        places : place_in (elements rs (object_of b)) (element_of a) < place_in (elements rs (object_of b)) (element_of b)
        places =
            let A = map id_in (ins_of (pre ++ a ∷ []) (object_of b)) in
            let B = map id_in (ins_of post (object_of b)) in
            rw (split-here, insert-element b t, place-append-left A (id_of b ∷ B) (element_of a) in-A, place_at A B (id_of b) not-in-A) (place-bound A (element_of a) in-A)

    step : (pre post : List Row) (a b : Row) → rs ≡ (pre ++ a ∷ []) ++ b ∷ post → (object_of a ≡ object_of b → on_list a ≡ on_list b) → T (adjacent a b) → Upto pre a → T (before es a b)
    step pre post a b e kind t u =
        ⊎_elim (λ x. before-object es a b x.0)
        (λ x. ⊎_elim
        (λ y.
        let la : T (on_list a) = rw (kind x.0) y.0 in
        ⊎_elim (λ z. insert-behind pre post a b e z la x.0 u)
        (λ z. before-id es a b x.0 (list-rank es a la ∙ ap (λ i. place_in es i ∷ []) z.0 ∙ sym (list-rank es b y.0)) z.1)
        (list-next-out a b y.1))
        (λ y.
        let na : T (not (on_list a)) = rw (kind x.0) y.0 in
        ⊎_elim (λ z. before-key es a b x.0 (rw (map-rank es a na, map-rank es b y.0) z))
        (λ z. before-id es a b x.0 (map-rank es a na ∙ z.0 ∙ sym (map-rank es b y.0)) z.1)
        (map-next-out a b y.1))
        x.1)
        (adjacent-out a b t)

    climbs : (pre : List Row) (a : Row) (l : List Row) → rs ≡ pre ++ a ∷ l → T (ascends adjacent (a ∷ l)) → Upto pre a → T (ascends (before es) (a ∷ l))
    climbs pre a [] e t u = tt
    climbs pre a (b ∷ l) e t u =
        let v = (T_and (adjacent a b) (ascends adjacent (b ∷ l))).0 t in
        let e2 : rs ≡ (pre ++ a ∷ []) ++ b ∷ l = e ∙ sym (append_assoc pre (a ∷ []) (b ∷ l)) in
        let kind : object_of a ≡ object_of b → on_list a ≡ on_list b = one-kind rs pl a b
        (subst (λ k. Mem a k) (sym e) (append_right pre (here refl))) (subst (λ k. Mem b k) (sym e) (append_right pre (there (here refl)))) in
        (T_and (before es a b) (ascends (before es) (b ∷ l))).1
        (step pre l a b e2 kind v.0 u, climbs (pre ++ a ∷ []) b l e2 v.1 (upto_next pre a b v.0 kind u))

  pub passes-order : T (first_begins rs) → T (ascends adjacent rs) → T (nearest_from 0 [] rs) → order rs ≡ rs
  unfolding order
  passes-order f t n =
      sorted_sort (before es) rs sorts (ascends-sorted (before es) rs sorts.transitive (all rs refl f t))
    where
      sorts : OrderOn (before es) rs
      sorts = before-order es rs pl.apart

      lists : Lists 0 [] rs
      lists = (lists-are 0 [] rs (λ r m. omega arith) (rising rs t)).0 n

      near : (o : ℕ) → T (nearest [] (ins_of rs o))
      near o = by-eq o 0 (λ e. subst (λ q. T (nearest [] (ins_of rs q))) (sym e) lists.0) (λ ne. lists.1 o (omega arith))

      all : (l : List Row) → rs ≡ l → T (first_begins l) → T (ascends adjacent l) → T (ascends (before es) l)
      all [] e f t = tt
      all (a ∷ l) e f t = climbs near [] a l e t (λ la. own-insert [] a (begins-insert a f la))
