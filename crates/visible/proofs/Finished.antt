-- A total as the code has it: its word where it fits in 64 signed bits.
use mathlib.Core.Path.{◌≡◌, refl, ap, ◌∙◌}
use mathlib.Core.Bool.{true, false, ◌&&◌}
use Prim.Native.Nat.{ℕ, ◌-◌}
use native.Mathlib.Omega.{arith}
use borrow.Author.Tests.{le-leb, lt-leb}
use lib.IntN.{ℤ, pos, negsuc}
use mir.Syntax.{w64, w128}
use mir.Val.{SFits, of_z, to_z}
use Rattle.std.proofs.Common.{Ok, Err}
use Rattle.std.proofs.lemmas.Int.{to_z-of_z}
use Rattle.laws.proofs.Tests.{by_order}
use Rattle.model.specs.Visible.{half, fits, word}
use Rattle.visible.specs.Sum.{totalled}

fits-word : (z : ℤ) → SFits w64 z → (fits z ≡ true) × (of_z w64 z ≡ word z)
fits-word (pos n) h = (le-leb n (half - 1) (omega (arith, h.sfits)), refl)
fits-word (negsuc n) h = (ap (λ b. b && true) (le-leb n (half - 1) (omega (arith, h.sfits))), refl)

misfit : (z : ℤ) → (SFits w64 z → ⊥) → fits z ≡ false
misfit (pos n) h = by_order n half (λ l. absurd (h record { sfits = l })) (λ l. lt-leb n (half - 1) (omega arith))
misfit (negsuc n) h = by_order n half (λ l. absurd (h record { sfits = l })) (λ l. ap (λ b. b && true) (lt-leb n (half - 1) (omega arith)))

module _ (z : ℤ) (wide : SFits w128 z) where
  pub fits_is : (t : ℤ) (w : ℕ) → SFits w64 (to_z w128 (of_z w128 z)) → t ≡ to_z w128 (of_z w128 z) → w ≡ of_z w64 (to_z w64 (of_z w64 t)) → Ok w ≡ totalled z
  unfolding totalled
  fits_is t w h e f =
      let q = to_z-of_z w128 z wide in
      let s : SFits w64 z = rw q at h in
      let g = fits-word z s in
      rw (g.0) (ap Ok (f ∙ ap (λ y. of_z w64 (to_z w64 (of_z w64 y))) (e ∙ q) ∙ ap (of_z w64) (to_z-of_z w64 z s) ∙ g.1))

  pub misfits_is : (SFits w64 (to_z w128 (of_z w128 z)) → ⊥) → Err record {} ≡ totalled z
  unfolding totalled
  misfits_is h = rw (misfit z (λ s. h (rw (to_z-of_z w128 z wide) s)))
