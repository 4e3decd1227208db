-- In one map a rank's order is that of keys and then ids: its rows name no element, and none is an insert.
use mathlib.Core.Path.{◌≡◌, refl}
use mathlib.Core.Bool.{Bool, true, false, ◌&&◌, ◌||◌}
use mathlib.Core.List.{[], ◌∷◌}
use Prim.Native.Nat.{ℕ, ◌≤◌}
use native.Mathlib.Omega.{arith}
use borrow.Author.Tests.{le-ltb, eq-eqb}
use lib.Dec.{ltb, eqb}
use lib.ListN.{get_or}
use Rattle.model.specs.Row.{Row, id_of, insert_of, key_length_of}
use Rattle.laws.proofs.Tests.{neqb→ne}
use Rattle.laws.proofs.Keys.{key-order, key-test}
use Rattle.laws.proofs.RowFits.{fits, map-key}
use Rattle.laws.proofs.Passes.{map_next}
use Rattle.laws.proofs.MapMerge.{OfMap}
use Rattle.ids.proofs.KeyWords.{key-words}
use Rattle.checks.proofs.OneKey.{Plain, map-keyed}
use Rattle.batch.specs.Rank.{rank_of, op_before}

nested : (a e b f d g l k i j : Bool)
    → ((a || e && (b || f && (d || g && (l || k && false)))) || ((e && (f && (g && true))) && k) && i) ≡ (a || e && (b || f && (d || g && (l || k && (i || j && false)))))
nested true e b f d g l k i j = refl
nested false false b f d g l k i j = refl
nested false true true f d g l k i j = refl
nested false true false false d g l k i j = refl
nested false true false true true g l k i j = refl
nested false true false true false false l k i j = refl
nested false true false true false true true k i j = refl
nested false true false true false true false false i j = refl
nested false true false true false true false true true j = refl
nested false true false true false true false true false true = refl
nested false true false true false true false true false false = refl

rank-words : (o : ℕ) (r : Row) → Plain r → OfMap o r → rank_of r ≡ o ∷ get_or r 5 0 ∷ get_or r 6 0 ∷ get_or r 7 0 ∷ key_length_of r ∷ 0 ∷ 0 ∷ id_of r ∷ []
unfolding rank_of
rank-words o r p q =
    let ne = neqb→ne (insert_of r) 1 q.no-insert in
    let i : insert_of r ≡ 0 = omega (arith, (fits r p.fit).insert) in
    rw (q.here-object, (map-key r p.fit q.off_list).no-element, i)

pub map-rank : (o : ℕ) (u d : Row) → Plain u → Plain d → OfMap o u → OfMap o d → map_next u d ≡ op_before u d
unfolding map_next op_before
map-rank o u d p q v w =
    let j = map-keyed u p v.off_list in
    let k = map-keyed d q w.off_list in
    let l : o ≤ o = omega arith in
    rw (
      key-order u d j k,
      key-test u d j k,
      key-words u p.whole.wide,
      key-words d q.whole.wide,
      rank-words o u p v,
      rank-words o d q w,
      le-ltb o o l,
      eq-eqb o o refl,
    )
    (nested
    (ltb (get_or u 5 0) (get_or d 5 0)) (eqb (get_or u 5 0) (get_or d 5 0))
    (ltb (get_or u 6 0) (get_or d 6 0)) (eqb (get_or u 6 0) (get_or d 6 0))
    (ltb (get_or u 7 0) (get_or d 7 0)) (eqb (get_or u 7 0) (get_or d 7 0))
    (ltb (key_length_of u) (key_length_of d)) (eqb (key_length_of u) (key_length_of d))
    (ltb (id_of u) (id_of d)) (eqb (id_of u) (id_of d)))
