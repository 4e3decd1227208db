-- What `is_sorted_by` answers by `<`.
use Prim.Native.Nat.{ℕ, zero, suc, ◌<◌}
use mathlib.Core.Path.{◌≡◌, refl, sym, ap, ◌∙◌}
use mathlib.Core.Bool.{Bool, true, false, ◌&&◌}
use mathlib.Core.List.{List, [], ◌∷◌}
use native.Mathlib.Numerals.{add-one}
use native.Mathlib.Omega.{arith}
use lib.Dec.{ltb}
use lib.ListN.{length, get_or}
use Rattle.std.specs.List.{IsAllAdjacentAnswer}
use Rattle.model.specs.Basic.{ascends}
use Rattle.laws.proofs.Tests.{and-false}

all-rise : (xs : List ℕ) → ((k : ℕ) → suc k < length xs → true ≡ ltb (get_or xs k 0) (get_or xs (suc k) 0)) → true ≡ ascends ltb xs
all-rise [] h = refl
all-rise (x ∷ []) h = refl
all-rise (x ∷ y ∷ ys) h =
    rw (← h 0 (omega arith)) (all-rise (y ∷ ys) (λ k l. h (suc k) (omega arith)))

one-falls : (xs : List ℕ) (k : ℕ) → suc k < length xs → false ≡ ltb (get_or xs k 0) (get_or xs (suc k) 0) → false ≡ ascends ltb xs
one-falls [] k l e = absurd (omega arith)
one-falls (x ∷ []) k l e = absurd (omega arith)
one-falls (x ∷ y ∷ ys) zero l e = rw (← e)
one-falls (x ∷ y ∷ ys) (suc k) l e = sym (ap (λ b. ltb x y && b) (sym (one-falls (y ∷ ys) k (omega arith) e)) ∙ and-false (ltb x y))

pub ascends-from : (xs : List ℕ) (r : Bool) → IsAllAdjacentAnswer (λ x y b. b ≡ ltb x y) xs r → r ≡ ascends ltb xs
ascends-from xs true h = all-rise xs (λ k l. rw add-one at (h k 0 (omega arith)))
ascends-from xs false h = one-falls xs h.0 (omega (arith, h.1)) (rw add-one at (h.2 0))
