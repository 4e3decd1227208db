-- What a batch adds, as the code counts it, is what the merge adds.
use Prim.Native.Nat.{ℕ, ◌+◌}
use mathlib.Core.Path.{◌≡◌, refl, sym, ap, ap₂, ◌∙◌}
use mathlib.Core.List.{List, [], ◌∷◌, map}
use native.Mathlib.Omega.{arith}
use lib.ListN.{length, length-append, length-map}
use Rattle.model.specs.Row.{Row, Op, is_delete, preds_of}
use Rattle.model.specs.Document.{Document, new_rows, all_rows, entry, new_succs, all_succs}
use Rattle.model.specs.Answer.{accepted, ◌otherwise◌, refuse}
use Rattle.model.specs.Refusal.{too_many}
use Rattle.laws.proofs.Tests.{by-test, is_true, is_false}
use Rattle.refusal.specs.OpAt.{readable}
use Rattle.refusal.specs.Failing.{adds, sum_of}
use Rattle.refusal.specs.CheckedBatch.{limited}

rows-added : (b : List Op) → length (new_rows b) ≡ sum_of adds b
unfolding new_rows sum_of adds
rows-added [] = refl
rows-added (o ∷ b) =
    let rest = rows-added b in
    by-test (is_delete o) (λ t. rw (is_true (is_delete o) t) (omega (arith, rest))) (λ t. rw (is_false (is_delete o) t) (omega (arith, rest)))

succs-added : (rs : List Row) (b : List Op) → length (new_succs rs b) ≡ sum_of readable b
unfolding new_succs sum_of readable
succs-added rs [] = refl
succs-added rs (o ∷ b) =
    length-append (map (entry rs o) (preds_of o)) (new_succs rs b) ∙ ap₂ ◌+◌ (length-map (preds_of o) (entry rs o)) (succs-added rs b)

module _ (d : Document) (b : List Op) where
  rows-counted : length d.rows + sum_of adds b ≡ length (all_rows d b)
  unfolding all_rows
  rows-counted = sym (length-append d.rows (new_rows b) ∙ ap (λ (k : ℕ). length d.rows + k) (rows-added b))

  succs-counted : length d.succs + sum_of readable b ≡ length (all_succs d b)
  unfolding all_succs
  succs-counted =
      sym (length-append d.succs (new_succs (all_rows d b) b) ∙ ap (λ (k : ℕ). length d.succs + k) (succs-added (all_rows d b) b))

  -- 9
  pub limited-is : limited (length d.rows + sum_of adds b) (length d.succs + sum_of readable b) ≡ (refuse 9 (too_many d b) otherwise accepted (length (all_rows d b) ∷ length (all_succs d b) ∷ []))
  unfolding limited too_many
  limited-is = rw (rows-counted, succs-counted)
