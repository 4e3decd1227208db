-- The first piece of a slice, and what is left behind it.
use Prim.Native.Nat.{ℕ, zero, suc, ◌+◌, ◌*◌, ◌-◌, ◌<◌, ◌≤◌, min}
use mathlib.Core.Path.{◌≡◌, refl, ap, sym, ◌∙◌}
use mathlib.Core.List.{List, [], ◌∷◌}
use native.Mathlib.Nat.{min_comm, suc-mul, zero-mul}
use native.Mathlib.Numerals.{unary_clauses}
use native.Mathlib.Omega.{arith}
use Rattle.laws.proofs.Tests.{by_order}
use lib.ListN.{length, take, drop, drop_of_length-le}
use lib.Seq.{drop-drop}
use Rattle.model.specs.Basic.{pieces}

pub take-min : {A : Type 0} (w : ℕ) (xs : List A) → take (min w (length xs)) xs ≡ take w xs
take-min zero xs = simp unary_clauses refl
take-min (suc w) [] = rw (min_comm (suc w) 0) (simp unary_clauses refl)
take-min (suc w) (x ∷ xs) = simp unary_clauses (ap (λ ys. x ∷ ys) (take-min w xs))

pub drop-min : {A : Type 0} (w : ℕ) (xs : List A) → drop (min w (length xs)) xs ≡ drop w xs
drop-min zero xs = simp unary_clauses refl
drop-min (suc w) [] = rw (min_comm (suc w) 0) (simp unary_clauses refl)
drop-min (suc w) (x ∷ xs) = simp unary_clauses (drop-min w xs)

pub take-none : {A : Type 0} (w : ℕ) → take {A = A} w [] ≡ []
take-none zero = refl
take-none (suc w) = refl

-- the first of n pieces, and the others
pub pieces-cut : (w n m : ℕ) (xs : List ℕ) → n ≡ suc m → pieces w n xs ≡ take w xs ∷ pieces w m (drop w xs)
pieces-cut w n m xs e = ap (λ k. pieces w k xs) e

-- past what a slice can hold there is nothing
pub drop-saturated : (k : ℕ) (xs : List ℕ) → length xs < 18446744073709551616 → drop (min k 18446744073709551615) xs ≡ drop k xs
drop-saturated k xs h =
    by_order k 18446744073709551615
    (λ l. ap (λ j. drop j xs) (omega arith))
    (λ l. let e : min k 18446744073709551615 ≡ 18446744073709551615 = omega arith in
    let m : length xs ≤ min k 18446744073709551615 = omega arith in
    let q : length xs ≤ k = omega arith in
    drop_of_length-le xs m ∙ sym (drop_of_length-le xs q))

-- pieces from .. to of n
pub take-pieces : (w k n : ℕ) (xs : List ℕ) → take k (pieces w n xs) ≡ pieces w (min k n) xs
take-pieces w zero n xs = simp unary_clauses refl
take-pieces w (suc k) zero xs = rw (min_comm (suc k) 0) (simp unary_clauses refl)
take-pieces w (suc k) (suc n) xs = simp unary_clauses (ap (λ ps. take w xs ∷ ps) (take-pieces w k n (drop w xs)))

pub drop-pieces : (w k n : ℕ) (xs : List ℕ) → drop k (pieces w n xs) ≡ pieces w (n - min k n) (drop (min k n * w) xs)
drop-pieces w zero n xs = simp (unary_clauses, zero-mul w) refl
drop-pieces w (suc k) zero xs = rw (min_comm (suc k) 0) (simp unary_clauses refl)
drop-pieces w (suc k) (suc n) xs =
    let e : min (suc k) (suc n) ≡ suc (min k n) = simp unary_clauses refl in
    let c : suc n - suc (min k n) ≡ n - min k n = omega arith in
    let m : w + min k n * w ≡ suc (min k n) * w = omega (arith, suc-mul (min k n) w) in
    rw (e, c) (drop-pieces w k n (drop w xs) ∙ ap (pieces w (n - min k n)) (drop-drop (min k n * w) w xs ∙ ap (λ j. drop j xs) m))

pub part-pieces : (w n : ℕ) (xs : List ℕ) (from to : ℕ) → drop from (take to (pieces w n xs)) ≡ pieces w (min to n - min from (min to n)) (drop (min from (min to n) * w) xs)
part-pieces w n xs from to = ap (drop from) (take-pieces w to n xs) ∙ drop-pieces w from (min to n) xs
