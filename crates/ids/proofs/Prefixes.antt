-- The longest front of a list that passes a test: `position` finds its end, the first element that fails it.
use mathlib.Core.Path.{◌≡◌, refl, sym, ◌∙◌}
use mathlib.Core.Bool.{Bool, false, not, cond}
use mathlib.Core.List.{List, [], ◌∷◌}
use Prim.Native.Nat.{suc, ◌+◌, ◌<◌}
use native.Mathlib.Omega.{arith}
use borrow.Author.Tests.{lt-ltb, le-ltb}
use lib.ListN.{length, get_or}
use Rattle.std.specs.Option.{unwrap_or}
use Rattle.std.specs.List.{position, position_or_len, prefix_len}
use Rattle.std.proofs.lemmas.List.Recursion.{is_position_or_len}
use Rattle.std.proofs.lemmas.List.Sums.{prefix_len-le-length}
use Rattle.laws.proofs.Tests.{by-test, by_order, is_true, is_false}

module _ {A : Type 0} (p : A → Bool) where
  step : (x : A) (l : List A) → prefix_len p (x ∷ l) ≡ cond (not (p x)) 0 (1 + prefix_len p l)
  step x l = by-test (p x) (λ t. rw (is_true (p x) t)) (λ t. rw (is_false (p x) t))

  pub prefix-is : (l : List A) → unwrap_or (position (λ x. not (p x)) l) (length l) ≡ prefix_len p l
  prefix-is l =
      let fails : A → Bool = λ x. not (p x) in
      let e : prefix_len p l ≡ position_or_len fails l = is_position_or_len (prefix_len p) fails refl step l in
      by_order (position_or_len fails l) (length l)
      (λ h. rw (lt-ltb (position_or_len fails l) (length l) h) (sym e))
      (λ h.
      let f : length l ≡ position_or_len fails l = omega (arith, prefix_len-le-length (λ x. not (fails x)) l) in
      rw (le-ltb (position_or_len fails l) (length l) h) (f ∙ sym e))

  pub prefix-ends : (d : A) (l : List A) → prefix_len p l < length l → p (get_or l (prefix_len p l) d) ≡ false
  prefix-ends d [] h = absurd (omega arith)
  prefix-ends d (x ∷ l) h =
      by-test (p x)
      (λ t.
      let e : 1 + prefix_len p l ≡ suc (prefix_len p l) = omega arith in
      let k : prefix_len p l < length l = omega (arith, rw (is_true (p x) t) at h) in
      rw (is_true (p x) t, e) (prefix-ends d l k))
      (λ t. rw (is_false (p x) t, is_false (p x) t))
