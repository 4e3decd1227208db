-- Rows that pass checks 4, 6 and 7 and whose ids differ stand in order exactly when the two passes say so.
use Rattle.std.specs.Prelude.{if◌then◌else◌}
use mathlib.Core.Path.{◌≡◌, refl, sym, ap, subst, ◌∙◌}
use mathlib.Core.Logic.{◌⊎◌, inl, inr, ⊎_elim, ◌↔◌}
use mathlib.Core.Bool.{not, ◌&&◌}
use mathlib.Core.List.{List, [], ◌∷◌, ◌++◌, append_assoc}
use Prim.Native.Nat.{ℕ, ◌≤◌, ◌<◌}
use native.Mathlib.Omega.{arith}
use lib.Dec.{T, T_not, ltb, eqb, lt→ltb}
use Rattle.model.specs.Basic.{ascends, place_in, lex_before, same}
use Rattle.model.specs.Row.{Row, id_of, object_of, on_list, is_insert, element_of}
use Rattle.model.specs.Key.{key_bytes_of}
use Rattle.model.specs.Order.{preorder, before, order}
use Rattle.laws.proofs.Tests.{T_and, T-or, T-implies, by-test, is_true, is_false, eq→eqb}
use Rattle.laws.proofs.Members.{Mem, here, there, on-mem, on-append, append_right, words-refl}
use Rattle.laws.proofs.Pairs.{pairwise-right, pairwise-across, pairwise-mono}
use Rattle.laws.proofs.Sort.{Sorted, OrderOn}
use Rattle.laws.proofs.RowOrder.{before-order, order-sorted}
use Rattle.laws.proofs.RowFits.{list-key}
use Rattle.laws.proofs.Before.{before-out, before-id, map-rank, list-rank, list-out}
use Rattle.laws.proofs.Place.{place-eq}
use Rattle.laws.proofs.Nearest.{Ins, nearest}
use Rattle.laws.proofs.Elements.{ins_of, ins-from}
use Rattle.laws.proofs.SubDocument.{Placed, one-kind}
use Rattle.laws.proofs.ListOrder.{row-element, IsList, list_of, insert-on-list, in-preorder, inserts-nearest}
use Rattle.laws.proofs.Refers.{names}
use Rattle.laws.proofs.Passes.{map_next, list_next, begins, adjacent, first_begins, nearest_from, Rising, lists-are}
use Rattle.laws.proofs.PassesOrder.{passes-order}

module _ (rs : List Row) (pl : Placed rs) where
  abbrev es : List ℕ
  es = preorder rs

  -- ── from the order to the passes
  module _ (ordered : order rs ≡ rs) where
    sorted : Sorted (before es) rs
    sorted = subst (Sorted (before es)) ordered (order-sorted rs pl.apart)

    own : OrderOn (before es) rs
    own = before-order es rs pl.apart

    -- the insert row of a list row's element, if it is another, stands before it
    record Leader (b : Row) : Type 0 where
      row : Row
      row-in : Mem row rs
      inserted-row : T (is_insert row)
      object : object_of row ≡ object_of b
      element : element_of row ≡ element_of b
      smaller : id_of row < id_of b

    leader : (b : Row) → Mem b rs → T (on_list b) → T (not (is_insert b)) → Leader b
    unfolding element_of
    leader b m l t =
        ⊎_elim (λ e. absurd (T_not (is_insert b) t ((list-key b (pl.fit b m) l).from-head e)))
        (λ k.
        let w = k.1 in
        record {
          row = w.0;
          row-in = w.1;
          inserted-row = w.2;
          object = w.3;
          element = rw (is_true (is_insert w.0) w.2, is_false (is_insert b) t) w.4;
          smaller = let h = k.0 in omega (arith, w.4);
        })
        (names rs b (pl.elements b m))

    leads : (b : Row) → Mem b rs → T (on_list b) → (w : Leader b) → T (before es w.row b)
    leads b m l w =
        let lw = insert-on-list rs pl w.row w.row-in w.inserted-row in
        before-id es w.row b w.object (list-rank es w.row lw ∙ ap (λ i. place_in es i ∷ []) w.element ∙ sym (list-rank es b l)) w.smaller

    no-turn : (a b : Row) → Mem a rs → Mem b rs → T (before es a b) → T (before es b a) → ⊥
    no-turn a b m n t u = own.irreflexive a m (own.transitive a b a m n m t u)

    rises : Rising rs
    rises = pairwise-mono rs (λ a b m n t. ⊎_elim (λ h. omega arith) (λ q. let e = q.0 in omega arith) (before-out es a b t)) sorted

    -- the first row has none before it
    first : (l : List Row) → rs ≡ l → T (first_begins l)
    unfolding begins
    first [] e = tt
    first (r ∷ l) e =
        (T-implies (on_list r) (is_insert r)).1
        (λ t. by-test (is_insert r) (λ u. u)
        (λ u.
        let m : Mem r rs = subst (λ k. Mem r k) (sym e) (here refl) in
        let w = leader r m t u in
        let ahead = leads r m t w in
        absurd (on-mem (subst (λ k. Mem w.row k) e w.row-in)
        (λ g. let h = w.smaller in omega (arith, ap id_of g))
        (λ n. no-turn w.row r w.row-in m ahead ((subst (Sorted (before es)) e sorted).0 w.row n)))))

    module _ (pre post : List Row) (a b : Row) (e : rs ≡ pre ++ a ∷ b ∷ post) where
      a_in : Mem a rs
      a_in = subst (λ l. Mem a l) (sym e) (append_right pre (here refl))

      b-in : Mem b rs
      b-in = subst (λ l. Mem b l) (sym e) (append_right pre (there (here refl)))

      whole : Sorted (before es) (pre ++ a ∷ b ∷ post)
      whole = subst (Sorted (before es)) e sorted

      abbrev Bf : Row → Row → Type 0
      Bf x y = T (before es x y)

      a-before-b : T (before es a b)
      a-before-b = (pairwise-right Bf pre (a ∷ b ∷ post) whole).0 b (here refl)

      -- what stands before b is a or stands before a
      earlier : (w : Row) → Mem w rs → T (before es w b) → (w ≡ a) ⊎ T (before es w a)
      earlier w m t =
          on-append pre (subst (λ l. Mem w l) e m)
          (λ n. inr (pairwise-across Bf pre (a ∷ b ∷ post) whole w a n (here refl)))
          (λ n. on-mem n (λ g. inl g)
          (λ k. absurd (on-mem k (λ g. own.irreflexive b b-in (subst (λ x. T (before es x b)) g t))
          (λ i. no-turn w b m b-in t ((pairwise-right Bf pre (a ∷ b ∷ post) whole).1.0 w i)))))

      list-follows : T (on_list b) → object_of a ≡ object_of b → T (list_next a b)
      unfolding list_next
      list-follows l o =
          let la : T (on_list a) = rw (one-kind rs pl a b a_in b-in o) l in
          by-test (is_insert b)
          (λ t. (T-or (is_insert b) (eqb (element_of a) (element_of b) && ltb (id_of a) (id_of b))).1 (inl t))
          (λ t.
          let w = leader b b-in l t in
          let lw = insert-on-list rs pl w.row w.row-in w.inserted-row in
          let same_place : place_in es (element_of w.row) ≡ place_in es (element_of b) = ap (place_in es) w.element in
          let up-to-a : place_in es (element_of b) ≤ place_in es (element_of a) =
          ⊎_elim (λ g. omega (arith, same_place, ap (λ x. place_in es (element_of x)) g))
          (λ u. ⊎_elim (λ h. absurd (omega (arith, w.object, o))) (λ q. ⊎_elim (λ h. omega (arith, same_place)) (λ h. omega (arith, same_place, h.0)) q.1) (list-out es w.row a lw la u))
          (earlier w.row w.row-in (leads b b-in l w)) in
          ⊎_elim (λ h. absurd (omega (arith, o)))
          (λ q. ⊎_elim (λ h. absurd (omega arith))
          (λ h.
          let one : element_of a ≡ element_of b = place-eq es (element_of a) (element_of b) (in-preorder rs pl (object_of a) (list_of rs pl a a_in la) (row-element rs pl a a_in la)) h.0 in
          (T-or (is_insert b) (eqb (element_of a) (element_of b) && ltb (id_of a) (id_of b))).1
          (inr ((T_and (eqb (element_of a) (element_of b)) (ltb (id_of a) (id_of b))).1 (eq→eqb (element_of a) (element_of b) one, lt→ltb (id_of a) (id_of b) h.1))))
          q.1)
          (list-out es a b la l a-before-b))

      list-begins : object_of a < object_of b → T (begins b)
      unfolding begins
      list-begins h =
          (T-implies (on_list b) (is_insert b)).1
          (λ l. by-test (is_insert b) (λ t. t)
          (λ t.
          let w = leader b b-in l t in
          absurd (⊎_elim (λ g. omega (arith, w.object, ap object_of g))
          (λ u. ⊎_elim (λ k. omega (arith, w.object)) (λ q. omega (arith, w.object, q.0)) (before-out es w.row a u))
          (earlier w.row w.row-in (leads b b-in l w)))))

      map-follows : T (not (on_list b)) → object_of a ≡ object_of b → T (map_next a b)
      unfolding map_next
      map-follows l o =
          let na : T (not (on_list a)) = rw (one-kind rs pl a b a_in b-in o) l in
          let lex = lex_before (key_bytes_of a) (key_bytes_of b) in
          let tie = same (key_bytes_of a) (key_bytes_of b) in
          ⊎_elim (λ h. absurd (omega (arith, o)))
          (λ q. (T-or lex (tie && ltb (id_of a) (id_of b))).1
          (⊎_elim (λ u. inl (rw (map-rank es a na, map-rank es b l) at u))
          (λ u. inr ((T_and tie (ltb (id_of a) (id_of b))).1 (rw (sym (map-rank es a na) ∙ u.0 ∙ map-rank es b l) (words-refl (key_bytes_of b)), lt→ltb (id_of a) (id_of b) u.1)))
          q.1))
          (before-out es a b a-before-b)

      follows : T (adjacent a b)
      unfolding adjacent
      follows =
          let one = eqb (object_of a) (object_of b) in
          let next = if on_list b then list_next a b else map_next a b in
          (T-or (ltb (object_of a) (object_of b) && begins b) (one && next)).1
          (⊎_elim (λ h. inl ((T_and (ltb (object_of a) (object_of b)) (begins b)).1 (lt→ltb (object_of a) (object_of b) h, list-begins h)))
          (λ q. inr ((T_and one next).1 (
            eq→eqb (object_of a) (object_of b) q.0,
            by-test (on_list b) (λ l. rw (is_true (on_list b) l) (list-follows l q.0)) (λ l. rw (is_false (on_list b) l) (map-follows l q.0)),
          )))
          (before-out es a b a-before-b))

    each-follows : (pre : List Row) (a : Row) (l : List Row) → rs ≡ pre ++ a ∷ l → T (ascends adjacent (a ∷ l))
    each-follows pre a [] e = tt
    each-follows pre a (b ∷ l) e =
        (T_and (adjacent a b) (ascends adjacent (b ∷ l))).1 (follows pre l a b e, each-follows (pre ++ a ∷ []) b l (e ∙ sym (append_assoc pre (a ∷ []) (b ∷ l))))

    every-list : (o : ℕ) → T (nearest [] (ins_of rs o))
    every-list o = go (ins_of rs o) refl
      where
        go : (k : List Ins) → ins_of rs o ≡ k → T (nearest [] (ins_of rs o))
        go [] e = rw e tt
        go (x ∷ k) e =
            let w = ins-from rs o {x = x} (subst (λ l. Mem x l) (sym e) (here refl)) in
            inserts-nearest rs pl ordered o (subst (IsList rs) w.3 (list_of rs pl w.0 w.1 (insert-on-list rs pl w.0 w.1 w.2)))

    order-passes : T (first_begins rs) × T (ascends adjacent rs) × T (nearest_from 0 [] rs)
    order-passes = (first rs refl, all rs refl, (lists-are 0 [] rs (λ r m. omega arith) rises).1 (every-list 0, λ q h. every-list q))
      where
        all : (l : List Row) → rs ≡ l → T (ascends adjacent l)
        all [] e = tt
        all (a ∷ l) e = each-follows [] a l e

  pub order-pass : (T (first_begins rs) × T (ascends adjacent rs) × T (nearest_from 0 [] rs)) ↔ (order rs ≡ rs)
  order-pass = (λ t. passes-order rs pl t.0 t.1 t.2, order-passes)
