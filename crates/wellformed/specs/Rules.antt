-- The rules' tests of one row or entry, under names of their own (model, WellFormed).
use Rattle.std.specs.Prelude.{ℕ, Bool, not, ◌&&◌, List, map, leb, ltb, eqb, length}
use Rattle.model.specs.Basic.{◌implies◌, any, all, filter, member}
use Rattle.model.specs.Sizes.{max_preds}
use Rattle.model.specs.Id.{is_id}
use Rattle.model.specs.Row.{Row, Succ, id_of, value_of, is_insert, is_increment, is_set_or_make, is_counter, owner_of, succ_of, carried_of, rows_with}
use Rattle.model.specs.Key.{same_key}
use Rattle.model.specs.Document.{Document}
use Rattle.model.specs.Malformed.{row_fits}
use Rattle.model.specs.Refusal.{object_fits, element_fits}
use Rattle.model.specs.WellFormed.{one_key}

-- ---- of a row

unfoldable pub passes : List Row → Row → Bool
passes rs r = row_fits r && object_fits rs r && element_fits rs r

abbrev pub no_insert : Row → Bool
no_insert r = not (is_insert r)

unfoldable pub increment_stands : List Succ → Row → Bool
increment_stands ss r = is_increment r implies member (id_of r) (map succ_of ss)

-- the rows with two ids are of one object and key
unfoldable pub one_key_of : List Row → ℕ → ℕ → Bool
one_key_of rs id other = all (λ r. all (same_key r) (rows_with rs other)) (rows_with rs id)

-- ---- of an entry

unfoldable pub exceeds : Succ → Bool
exceeds s = ltb (owner_of s) (succ_of s)

unfoldable pub is_succ : ℕ → Succ → Bool
is_succ id s = eqb (succ_of s) id

unfoldable pub few : List Succ → Succ → Bool
few ss s = leb (length (filter (is_succ (succ_of s)) ss)) max_preds

unfoldable pub owner_stands : List Row → Succ → Bool
owner_stands rs s = any is_set_or_make (rows_with rs (owner_of s))

unfoldable pub succ_row_fits : List Row → Succ → Bool
succ_row_fits rs s = all (λ r. no_insert r && all (same_key r) (rows_with rs (owner_of s))) (rows_with rs (succ_of s))

unfoldable pub delete_fits : Document → Succ → Bool
delete_fits d s = not (member (succ_of s) (map id_of d.rows)) implies (is_id (succ_of s) && all (one_key d s) d.succs)

unfoldable pub raises : List Row → Succ → Bool
raises rs s = any is_counter (rows_with rs (owner_of s)) && any is_increment (rows_with rs (succ_of s))

unfoldable pub carries_value : List Row → Succ → Bool
carries_value rs s = any (λ r. eqb (value_of r) (carried_of s)) (rows_with rs (succ_of s))
