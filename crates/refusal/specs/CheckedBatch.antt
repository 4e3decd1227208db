-- The answer of the checks: 01's number and values for each case, and the definition that the code is held to.
use Rattle.std.specs.Prelude.{ℕ, zero, suc, ◌+◌, ◌<◌, length, not, ◌||◌, List, [], ◌∷◌, Result, ltb}
use Rattle.model.specs.Basic.{pieces}
use Rattle.model.specs.Sizes.{max_rows, max_succs, max_batch, word_range, row_words, op_words, succ_words}
use Rattle.model.specs.Row.{Row, Op, Succ}
use Rattle.model.specs.Answer.{Answer, accepted, ◌otherwise◌, refuse, refuse_op}
use Rattle.ids.specs.declared.refusal.Refusal.{Refusal}
use Rattle.ids.specs.Refusals.{answer_by}
use Rattle.refusal.specs.declared.batch.Counts.{Counts}
use Rattle.refusal.specs.OpAt.{readable}
use Rattle.refusal.specs.LentFits.{lent_fits}
use Rattle.refusal.specs.Failing.{fails, adds, sum_of}

abbrev pub answer_of : Result Counts Refusal → Answer
answer_of result = answer_by (λ c. c.rows ∷ c.succs ∷ []) result

-- 9, or the counts
unfoldable pub limited : ℕ → ℕ → Answer
limited r s = refuse 9 (ltb max_rows r || ltb max_succs s) otherwise accepted (r ∷ s ∷ [])

-- checks one after another, then the last
abbrev pub stages : (ℕ → Answer) → ℕ → ℕ → Answer → Answer
stages f zero from last = last
stages f (suc c) from last = f from otherwise stages f c (suc from) last

unfoldable pub ops_refusal : List Row → List Succ → List Op → ℕ → Answer
ops_refusal rs ss b number = refuse_op number (fails number rs ss b) b

-- 4 to 8, then 9
unfoldable pub first_refusal : List Row → List Succ → List Op → Answer
first_refusal rs ss b = stages (ops_refusal rs ss b) 5 4 (limited (length rs + sum_of adds b) (length ss + sum_of readable b))

-- slices that do not hold what is claimed are 1
unfoldable pub checked : ℕ → List ℕ → ℕ → List ℕ → ℕ → List ℕ → Answer
checked n rows m succs k ops =
    refuse 1 (not (lent_fits n rows m succs k ops))
    otherwise refuse 3 (ltb max_batch k)
    otherwise first_refusal (pieces row_words n rows) (pieces succ_words m succs) (pieces op_words k ops)

-- what there will be can be counted in a word
pub record Countable (rs : List Row) (ss : List Succ) (b : List Op) : Type 0 where
  pub rows-fit : length rs + sum_of adds b < word_range
  pub succs-fit : length ss + sum_of readable b < word_range
