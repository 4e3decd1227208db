-- The successor entries that a batch makes, by what the code tests: is some row or operation with the predecessor's id a counter?
use Rattle.std.specs.Prelude.{ℕ, ◌*◌, Bool, ◌&&◌, ◌||◌, List, [], ◌∷◌, map, eqb, if◌then◌else◌}
use Rattle.model.specs.Basic.{any, concat_map}
use Rattle.model.specs.Sizes.{max_batch, max_preds}
use Rattle.model.specs.Row.{Row, Op, Succ, id_of, value_of, is_increment, is_counter, preds_of}

unfoldable pub counts : ℕ → Row → Bool
counts p r = eqb (id_of r) p && is_counter r

unfoldable pub counter_in : List Row → ℕ → Bool
counter_in rs p = any (counts p) rs

-- the entry of operation o for predecessor p, which is a counter or not
unfoldable pub carried : Op → Bool → Bool
carried o counter = is_increment o && counter

unfoldable pub entry_by : Bool → Op → ℕ → Succ
entry_by counter o p = if carried o counter then p ∷ id_of o ∷ 1 ∷ value_of o ∷ [] else p ∷ id_of o ∷ 0 ∷ 0 ∷ []

-- a predecessor is a row of the document or of the batch
unfoldable pub counter_among : List Row → List Op → ℕ → Bool
counter_among rs b p = counter_in rs p || counter_in b p

unfoldable pub entries_of : (ℕ → Bool) → Op → List Succ
entries_of counter o = map (λ p. entry_by (counter p) o p) (preds_of o)

unfoldable pub new_entries : (ℕ → Bool) → List Op → List Succ
new_entries counter b = concat_map (entries_of counter) b

-- the most that a batch makes
abbrev pub max_entries : ℕ
max_entries = max_batch * max_preds
