-- The first operation that fails a check.
use Prim.Native.Nat.{ℕ, ◌+◌}
use mathlib.Core.Path.{◌≡◌, refl}
use mathlib.Core.Bool.{Bool}
use mathlib.Core.List.{List, [], ◌∷◌, ◌++◌, append_assoc}
use lib.ListN.{length, get_or, take, length-append}
use lib.Seq.{take-append_seam, get_or-append_seam}
use Rattle.std.specs.List.{find, range_with_len}
use Rattle.model.specs.Row.{Op}
use Rattle.model.specs.Answer.{refuse_after, refuse_op}
use Rattle.laws.proofs.Tests.{by-test, is_true, is_false}
use Rattle.laws.proofs.Members.{Mem, here, there}
use Rattle.refusal.specs.Failing.{refused_at}

-- tests that agree on the operations refuse alike
pub after-ext : (number : ℕ) (f g : List Op → Op → Bool) (earlier b : List Op) → ((e : List Op) (o : Op) → Mem o b → f e o ≡ g e o) → refuse_after earlier number f b ≡ refuse_after earlier number g b
after-ext number f g earlier [] h = refl
after-ext number f g earlier (o ∷ b) h =
    rw (h earlier o (here refl), after-ext number f g (earlier ++ o ∷ []) b (λ e x m. h e x (there m)))

module _ (number : ℕ) (f : List Op → Op → Bool) where
  -- the test of operation j of a batch
  abbrev pub failing : List Op → ℕ → Bool
  failing b j = f (take j b) (get_or b j [])

  find-from : (done b : List Op) → refused_at number (find (failing (done ++ b)) (range_with_len (length done) (length b))) ≡ refuse_after done number f b
  find-from done [] = refl
  find-from done (o ∷ b) =
      let whole : done ++ o ∷ [] ++ b ≡ done ++ o ∷ b = append_assoc done (o ∷ []) b in
      let more : length (done ++ o ∷ []) ≡ length done + 1 = length-append done (o ∷ []) in
      let rest = rw (whole, more) at (find-from (done ++ o ∷ []) b) in
      rw (take-append_seam done (o ∷ b), get_or-append_seam done o b [])
      (by-test (f done o) (λ t. rw (is_true (f done o) t)) (λ t. rw (is_false (f done o) t) rest))

  pub find-first : (b : List Op) → refused_at number (find (failing b) (range_with_len 0 (length b))) ≡ refuse_op number f b
  find-first b = find-from [] b
