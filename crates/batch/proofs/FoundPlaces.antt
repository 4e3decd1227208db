-- Places that were found may be placed at: one for each new piece, rising, none past the old ones.
use mathlib.Core.Path.{◌≡◌, refl, ap, ◌∙◌}
use mathlib.Core.Bool.{Bool}
use mathlib.Core.List.{List, [], ◌∷◌}
use Prim.Native.Nat.{ℕ, zero, suc, ◌+◌, ◌≤◌, ◌<◌}
use native.Mathlib.Omega.{arith}
use lib.ListN.{length, get_or}
use Rattle.model.specs.Basic.{pieces}
use Rattle.laws.proofs.Tests.{split}
use Rattle.laws.proofs.Members.{All, not-nil, on-mem, get_or-mem}
use Rattle.laws.proofs.Pieces.{length-pieces}
use Rattle.batch.specs.Places.{picked, Rising, Asked}
use Rattle.batch.specs.Merge.{Known}
use Rattle.batch.specs.Found.{places_within, places_for, first_before}
use Rattle.batch.proofs.Rising.{rising-nil, rising-cons}
use Rattle.batch.proofs.PlacedWords.{length-picked}

module _ {A : Type 0} (lt : A → A → Bool) where
  length-within : (n k : ℕ) (rs ns : List A) → length rs + length ns ≤ n → length (places_within lt n k rs ns) ≡ length ns
  length-within zero k rs [] h = refl
  length-within zero k rs (x ∷ ns) h = absurd (omega arith)
  length-within (suc n) k rs [] h = refl
  length-within (suc n) k [] (x ∷ ns) h = ap suc (length-within n k [] ns (omega arith))
  length-within (suc n) k (r ∷ rs) (x ∷ ns) h =
      split (λ l. length l ≡ suc (length ns)) (lt r x) (λ t. length-within n (suc k) rs (x ∷ ns) (omega arith)) (λ t. ap suc (length-within n k (r ∷ rs) ns (omega arith)))

  within-between : (n k : ℕ) (rs ns : List A) → All (λ p. (k ≤ p) × (p ≤ k + length rs)) (places_within lt n k rs ns)
  within-between zero k rs ns = λ p m. absurd (not-nil m)
  within-between (suc n) k rs [] = λ p m. absurd (not-nil m)
  within-between (suc n) k [] (x ∷ ns) = λ p m. on-mem m (λ e. (omega arith, omega arith)) (within-between n k [] ns p)
  within-between (suc n) k (r ∷ rs) (x ∷ ns) =
      split (λ l. All (λ p. (k ≤ p) × (p ≤ k + suc (length rs))) l) (lt r x)
      (λ t p m. let b = within-between n (suc k) rs (x ∷ ns) p m in (omega arith, omega arith))
      (λ t p m. on-mem m (λ e. (omega arith, omega arith)) (within-between n k (r ∷ rs) ns p))

  within-rising : (n k : ℕ) (rs ns : List A) → Rising (places_within lt n k rs ns)
  within-rising zero k rs ns = rising-nil
  within-rising (suc n) k rs [] = rising-nil
  within-rising (suc n) k [] (x ∷ ns) = rising-cons k (places_within lt n k [] ns) (λ p m. (within-between n k [] ns p m).0) (within-rising n k [] ns)
  within-rising (suc n) k (r ∷ rs) (x ∷ ns) =
      split Rising (lt r x) (λ t. within-rising n (suc k) rs (x ∷ ns))
      (λ t. rising-cons k (places_within lt n k (r ∷ rs) ns) (λ p m. (within-between n k (r ∷ rs) ns p m).0) (within-rising n k (r ∷ rs) ns))

  module _ (rs ns : List A) where
    pub length_found : length (places_for lt 0 rs ns) ≡ length ns
    unfolding places_for
    length_found = length-within (length rs + length ns) 0 rs ns (omega arith)

    found-most : All (λ p. p ≤ length rs) (places_for lt 0 rs ns)
    unfolding places_for
    found-most p m = let b = (within-between (length rs + length ns) 0 rs ns p m).1 in omega arith

    found-rising : Rising (places_for lt 0 rs ns)
    unfolding places_for
    found-rising = within-rising (length rs + length ns) 0 rs ns

-- what `place` asks
pub found-asked : (w n key : ℕ) (old new order : List ℕ) → 0 < w → Known w new order → Asked w n w new order (places_for (first_before key) 0 (pieces w n old) (picked w w new order))
found-asked w n key old new order h k =
    let rs = pieces w n old in
    let ns = picked w w new order in
    let ps = places_for (first_before key) 0 rs ns in
    record {
      wide = h;
      pairs = length_found (first_before key) rs ns ∙ length-picked w w new order;
      known = λ i l. k (get_or order i 0) (get_or-mem order i 0 l);
      most = λ i l. let b = found-most (first_before key) rs ns (get_or ps i 0) (get_or-mem ps i 0 l) in omega (arith, length-pieces w n old);
      rising = found-rising (first_before key) rs ns;
    }
