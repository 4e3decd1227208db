-- The two passes decide the rule that rows stand in order.
use mathlib.Core.Path.{◌≡◌, refl}
use mathlib.Core.Bool.{Bool, true, false, not, ◌&&◌, ◌||◌}
use mathlib.Core.List.{List, [], ◌∷◌}
use borrow.Author.Tests.{ne_eqb}
use lib.Dec.{T, ltb, eqb}
use lib.ListN.{get_or}
use Rattle.model.specs.Basic.{ascends, same_all}
use Rattle.model.specs.Row.{Row, id_of, object_of, on_list, key_length_of}
use Rattle.model.specs.Order.{order}
use Rattle.laws.proofs.Tests.{T_and, by-eq, by-test, is_true, is_false, bool-ext}
use Rattle.laws.proofs.Members.{Mem, here, there, All, rows_eq, rows_refl}
use Rattle.laws.proofs.Keys.{key-order, key-test}
use Rattle.laws.proofs.SubDocument.{Placed, one-kind}
use Rattle.laws.proofs.Passes.{map_next, adjacent, first_begins, nearest_from}
use Rattle.laws.proofs.OrderPass.{order-pass}
use Rattle.ids.proofs.KeyWords.{key-words}
use Rattle.checks.proofs.OneKey.{Plain, map-keyed}
use Rattle.wellformed.specs.Neighbours.{tail_next, key_next, follows}

-- ---- map keys by words

nested : (a e b f d g l k i : Bool)
    → ((a || e && (b || f && (d || g && (l || k && false)))) || ((e && (f && (g && true))) && k) && i) ≡ (a || e && (b || f && (d || g && (l || k && i))))
nested true e b f d g l k i = refl
nested false false b f d g l k i = refl
nested false true true f d g l k i = refl
nested false true false false d g l k i = refl
nested false true false true true g l k i = refl
nested false true false true false false l k i = refl
nested false true false true false true true k i = refl
nested false true false true false true false true i = refl
nested false true false true false true false false i = refl

key-next : (a b : Row) → Plain a → Plain b → T (not (on_list a)) → T (not (on_list b)) → map_next a b ≡ key_next a b
unfolding map_next key_next tail_next
key-next a b p q t u =
    let j = map-keyed a p t in
    let k = map-keyed b q u in
    rw (key-order a b j k, key-test a b j k, key-words a p.whole.wide, key-words b q.whole.wide)
    (nested
    (ltb (get_or a 5 0) (get_or b 5 0)) (eqb (get_or a 5 0) (get_or b 5 0))
    (ltb (get_or a 6 0) (get_or b 6 0)) (eqb (get_or a 6 0) (get_or b 6 0))
    (ltb (get_or a 7 0) (get_or b 7 0)) (eqb (get_or a 7 0) (get_or b 7 0))
    (ltb (key_length_of a) (key_length_of b)) (eqb (key_length_of a) (key_length_of b)) (ltb (id_of a) (id_of b)))

-- ---- neighbours

module _ (rs : List Row) (pl : Placed rs) (plain : All Plain rs) where
  adjacent-follows : (a b : Row) → Mem a rs → Mem b rs → adjacent a b ≡ follows a b
  unfolding adjacent follows
  adjacent-follows a b m n =
      by-eq (object_of a) (object_of b)
      (λ e. by-test (on_list b) (λ t. rw (is_true (on_list b) t))
      (λ t.
      let u : T (not (on_list a)) = rw (one-kind rs pl a b m n e) t in
      rw (is_false (on_list b) t, key-next a b (plain a m) (plain b n) u t)))
      (λ ne. rw (ne_eqb (object_of a) (object_of b) ne))

  ascends-follow : (l : List Row) → ((x : Row) → Mem x l → Mem x rs) → ascends adjacent l ≡ ascends follows l
  ascends-follow [] f = refl
  ascends-follow (x ∷ []) f = refl
  ascends-follow (x ∷ y ∷ l) f =
      rw (adjacent-follows x y (f x (here refl)) (f y (there (here refl))), ascends-follow (y ∷ l) (λ z m. f z (there m)))

  -- ---- both passes

  abbrev passed : Bool
  passed = first_begins rs && ascends follows rs && nearest_from 0 [] rs

  pub order_is : same_all (order rs) rs ≡ passed
  order_is =
      let first = first_begins rs in
      let next = ascends follows rs in
      let near = nearest_from 0 [] rs in
      bool-ext (same_all (order rs) rs) passed
      (λ t.
      let p = (order-pass rs pl).1 (rows_eq (order rs) rs t) in
      (T_and (first && next) near).1 ((T_and first next).1 (p.0, rw (ascends-follow rs (λ x m. m)) at p.1), p.2))
      (λ t.
      let u = (T_and (first && next) near).0 t in
      let v = (T_and first next).0 u.0 in
      rw ((order-pass rs pl).0 (v.0, rw (ascends-follow rs (λ x m. m)) v.1, u.1)) (rows_refl rs))
