-- The places of what a walk puts out: one for each new row, rising, none past the document's rows.
use mathlib.Core.Path.{◌≡◌, refl, ap}
use mathlib.Core.List.{List, [], ◌∷◌}
use Prim.Native.Nat.{ℕ, suc, ◌+◌, ◌≤◌, ◌<◌}
use native.Mathlib.Omega.{arith}
use lib.ListN.{length, get_or}
use Rattle.laws.proofs.Members.{All, not-nil, on-mem, get_or-mem}
use Rattle.laws.proofs.Untangle.{Event, old, new, olds}
use Rattle.laws.proofs.Placing.{news_in, places_in}
use Rattle.batch.specs.Places.{Rising}
use Rattle.batch.proofs.Rising.{rising-nil, rising-cons}

-- ── one place for each
pub places-length : (k : ℕ) (out : List Event) → length (places_in k out) ≡ length (news_in out)
places-length k [] = refl
places-length k (old r ∷ out) = places-length (suc k) out
places-length k (new r ∷ out) = ap suc (places-length k out)

-- ── where they are
pub places-between : (k : ℕ) (out : List Event) → All (λ p. (k ≤ p) × (p ≤ k + length (olds out))) (places_in k out)
places-between k [] = λ p m. absurd (not-nil m)
places-between k (old r ∷ out) = λ p m. let b = places-between (suc k) out p m in (omega (arith, b.0), omega (arith, b.1))
places-between k (new r ∷ out) = λ p m. on-mem m (λ e. (omega arith, omega arith)) (places-between k out p)

pub places-rising : (k : ℕ) (out : List Event) → Rising (places_in k out)
places-rising k [] = rising-nil
places-rising k (old r ∷ out) = places-rising (suc k) out
places-rising k (new r ∷ out) = rising-cons k (places_in k out) (λ p m. (places-between k out p m).0) (places-rising k out)

pub places-most : (out : List Event) (i : ℕ) → i < length (places_in 0 out) → get_or (places_in 0 out) i 0 ≤ length (olds out)
places-most out i h = let b = places-between 0 out (get_or (places_in 0 out) i 0) (get_or-mem (places_in 0 out) i 0 h) in omega (arith, b.1)
