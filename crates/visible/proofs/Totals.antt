-- The sum over a row's entries is exact: it stays within 128 bits, and ends at the total.
use mathlib.Core.Path.{◌≡◌, sym, ap, ◌∙◌}
use mathlib.Core.Bool.{Bool, true}
use mathlib.Core.List.{List, [], ◌∷◌}
use Prim.Native.Nat.{ℕ, suc, ◌*◌, ◌<◌}
use native.Mathlib.Omega.{arith}
use lib.IntN.{ℤ, pos, ◌+ℤ◌, +ℤ_assoc, +ℤ_idr}
use lib.Signed.{◌<ℤ◌, ◌≤ℤ◌}
use lib.ListN.{length}
use mir.Syntax.{w128}
use mir.Val.{SFits, of_z, to_z}
use borrow.Author.Tests.{lt-ltb, le-ltb}
use Rattle.std.proofs.lemmas.Int.{ints, to_z-of_z}
use Rattle.model.specs.Basic.{filter}
use Rattle.model.specs.Sizes.{word_range}
use Rattle.model.specs.Row.{Row, Succ, id_of, value_of, carried_of}
use Rattle.model.specs.Visible.{half, signed, sum, covered_succs, total}
use Rattle.laws.proofs.Tests.{by_order}
use Rattle.visible.specs.Scope.{scope, covers}

-- a signed word
pub record Within (y : ℤ) : Type 0 where
  pub low : pos 0 ≤ℤ (y +ℤ pos half)
  pub high : y <ℤ pos half

pub signed-within : (w : ℕ) → w < word_range → Within (signed w)
signed-within w h =
    by_order w half
    (λ l. rw (lt-ltb w half l) record { low = omega (arith, ints); high = omega (arith, ints) })
    (λ l. rw (le-ltb w half l) record { low = omega (arith, ints); high = omega (arith, ints) })

-- what is summed so far, with the entries that are left
pub record Summing (p : Succ → Bool) (v : ℤ) (succs rest : List Succ) (z : ℤ) : Type 0 where
  pub low : pos (half * length rest) ≤ℤ (z +ℤ pos (half * suc (length succs)))
  pub high : (z +ℤ pos (half * length rest)) <ℤ pos (half * suc (length succs))
  pub whole : z +ℤ sum (filter p rest) ≡ v +ℤ sum (filter p succs)

module _ {p : Succ → Bool} {v : ℤ} {succs : List Succ} where
  module _ {x : Succ} {rest more : List Succ} {z : ℤ} (s : Summing p v succs rest z) (e : rest ≡ x ∷ more) {w : ℕ} {y : ℤ} (l : length succs < 18446744073709551616) (h : w < word_range) (f : y ≡ signed w) (g : w ≡ carried_of x) where
    within : Within (signed (carried_of x))
    within = rw g at (signed-within w h)

    narrow : to_z w128 (of_z w128 y) ≡ signed (carried_of x)
    narrow =
        let b = within in
        let k : SFits w128 (signed (carried_of x)) = omega (arith, ints, b.low, b.high) in
        rw (f, g) (to_z-of_z w128 (signed (carried_of x)) k)

    sum-fits : SFits w128 (z +ℤ signed (carried_of x))
    sum-fits = let b = within in let n : length rest ≡ suc (length more) = ap length e in omega (arith, ints, s.low, s.high, b.low, b.high)

    pub summing-fits : SFits w128 (z +ℤ to_z w128 (of_z w128 y))
    summing-fits = rw narrow sum-fits

    pub summing-more : p x ≡ true → Summing p v succs more (to_z w128 (of_z w128 (z +ℤ to_z w128 (of_z w128 y))))
    summing-more t =
        let n : length rest ≡ suc (length more) = ap length e in
        let b = within in
        rw (narrow, to_z-of_z w128 (z +ℤ signed (carried_of x)) sum-fits) record {
          low = omega (arith, ints, s.low, b.low);
          high = omega (arith, ints, s.high, b.high);
          whole = +ℤ_assoc z (signed (carried_of x)) (sum (filter p more)) ∙ ap (λ (k : ℤ). z +ℤ k) (sym (rw t at (ap (λ l. sum (filter p l)) e))) ∙ s.whole;
        }

  pub summing-end : {rest : List Succ} {z : ℤ} → Summing p v succs rest z → rest ≡ [] → z ≡ v +ℤ sum (filter p succs)
  summing-end {rest} {z} s e = sym (+ℤ_idr z) ∙ ap (λ l. z +ℤ sum (filter p l)) (sym e) ∙ s.whole

pub total-is : (clock : List ℕ) (succs : List Succ) (r : Row) {id w : ℕ} {y z : ℤ} → id ≡ id_of r → w < word_range → y ≡ signed w → w ≡ value_of r
    → z ≡ to_z w128 (of_z w128 y) +ℤ sum (filter (covers clock id) succs) → z ≡ total clock (scope succs) r
unfolding total covered_succs covers scope
total-is clock succs r {w = w} e h f g s =
    let b = signed-within w h in
    let k : SFits w128 (signed w) = omega (arith, ints, b.low, b.high) in
    s ∙ rw (e, f, to_z-of_z w128 (signed w) k, g)
