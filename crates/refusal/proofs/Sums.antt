-- What a batch adds: as the chains count it, and how little that is.
use Prim.Native.Nat.{ℕ, zero, suc, ◌+◌, ◌*◌, ◌≤◌, ◌<◌}
use mathlib.Core.Path.{◌≡◌, refl, ap, ◌∙◌}
use mathlib.Core.Bool.{Bool, true, false, not}
use mathlib.Core.List.{List, [], ◌∷◌}
use native.Mathlib.Omega.{arith}
use lib.Dec.{eqb}
use lib.ListN.{length, take, drop, length-take, length-drop}
use Rattle.std.specs.List.{filter, sum_by}
use Rattle.std.proofs.lemmas.List.Sums.{sum_by-cons}
use Rattle.model.specs.Basic.{flag, pieces}
use Rattle.model.specs.Sizes.{row_words, op_words, succ_words, max_preds, max_batch, word_range}
use Rattle.model.specs.Kinds.{delete}
use Rattle.model.specs.Row.{Op, action_of, is_delete, row_of, pred_count_of, pred_room_of}
use Rattle.laws.proofs.Tests.{by-test, is_true, is_false}
use Rattle.laws.proofs.Pieces.{length-pieces}
use Rattle.refusal.specs.LentFits.{Lent}
use Rattle.refusal.specs.CheckedBatch.{Countable}
use Rattle.refusal.specs.OpAt.{readable}
use Rattle.refusal.specs.Failing.{adds, sum_of}
use Rattle.refusal.proofs.OpWords.{action_same}

pub kept-are : (b : List Op) → length (filter (λ o. not (eqb (action_of (row_of o)) delete)) b) ≡ sum_of adds b
unfolding sum_of adds
kept-are [] = refl
kept-are (o ∷ b) =
    let rest = kept-are b in
    by-test (is_delete o)
    (λ t. rw (action_same o, is_true (is_delete o) t) (omega (arith, rest)))
    (λ t. rw (action_same o, is_false (is_delete o) t) (omega (arith, rest)))

pub summed : (f : Op → ℕ) (b : List Op) → sum_by f b ≡ sum_of f b
unfolding sum_of
summed f [] = refl
summed f (o ∷ b) = sum_by-cons f o b ∙ ap (λ (k : ℕ). f o + k) (summed f b)

adds-few : (o : Op) → adds o ≤ max_preds
unfolding adds
adds-few o = go (is_delete o)
  where
    go : (b : Bool) → flag (not b) ≤ max_preds
    go true = omega arith
    go false = omega arith

readable-few : (xs : List ℕ) → readable (take op_words xs) ≤ max_preds
unfolding readable
readable-few xs =
    let o = take op_words xs in
    omega (arith, length-take (pred_count_of o) (pred_room_of o), length-drop (suc row_words) o, length-take op_words xs)

few : (f : Op → ℕ) → ((xs : List ℕ) → f (take op_words xs) ≤ max_preds) → (k : ℕ) (xs : List ℕ) → sum_of f (pieces op_words k xs) ≤ k * max_preds
unfolding sum_of
few f h zero xs = omega arith
few f h (suc k) xs = omega (arith, h xs, few f h k (drop op_words xs))

pub few-adds : (k : ℕ) (ops : List ℕ) → sum_of adds (pieces op_words k ops) ≤ k * max_preds
few-adds k ops = few adds (λ xs. adds-few (take op_words xs)) k ops

pub few-readable : (k : ℕ) (ops : List ℕ) → sum_of readable (pieces op_words k ops) ≤ k * max_preds
few-readable k ops = few readable readable-few k ops

-- few enough to be counted in a word
module _ (n : ℕ) (rows : List ℕ) (m : ℕ) (succs : List ℕ) (k : ℕ) (ops : List ℕ) where
  pub countable : Lent n rows m succs k ops → length rows < word_range → length succs < word_range → k ≤ max_batch → Countable (pieces row_words n rows) (pieces succ_words m succs) (pieces op_words k ops)
  unfolding max_batch
  countable l r s h =
      record {
        rows-fit = omega (arith, few-adds k ops, length-pieces row_words n rows, l.rows-there, r, h);
        succs-fit = omega (arith, few-readable k ops, length-pieces succ_words m succs, l.succs-there, s, h);
      }
