-- The rules of checks 4, 6 and 7, put together from the parts that the code decides.
use Rattle.std.specs.Prelude.{if◌then◌else◌}
use mathlib.Core.Path.{◌≡◌, refl}
use mathlib.Core.Bool.{◌&&◌}
use mathlib.Core.List.{List}
use lib.Dec.{leb, eqb}
use Rattle.model.specs.Sizes.{max_key}
use Rattle.model.specs.Id.{is_id, head}
use Rattle.model.specs.Row.{Row, object_of, named_of, key_length_of, is_insert, rows_with}
use Rattle.model.specs.Malformed.{list_key_fits, map_key_fits, value_fits, row_fits}
use Rattle.model.specs.Refusal.{has_make, object_fits, element_fits}
use Rattle.checks.specs.Fits.{is_object, is_key_kind, is_action, key_zero_past, key_zero, key_fits, insert_fits, start_fits}
use Rattle.checks.specs.Refers.{makes_object, object_in, insert_on, element_in}

module _ (r : Row) where
  pub list_key_parts : list_key_fits r ≡ ((eqb 0 (key_length_of r) && key_zero r) && (if eqb (named_of r) head then is_insert r else is_id (named_of r)))
  unfolding list_key_fits key_zero
  list_key_parts = refl

  pub map_key_parts : map_key_fits r ≡ (eqb (named_of r) 0 && leb (key_length_of r) max_key && key_zero_past r)
  unfolding map_key_fits key_zero_past
  map_key_parts = refl

  pub row_parts : row_fits r ≡ (start_fits r && key_fits r && value_fits r && insert_fits r)
  unfolding row_fits start_fits is_object is_key_kind is_action key_fits insert_fits
  row_parts = refl

  -- 6 and 7 look at the rows with one id
  pub object_parts : (rs : List Row) → object_fits rs r ≡ object_in (rows_with rs (object_of r)) r
  unfolding object_fits has_make object_in makes_object
  object_parts rs = refl

  pub element_parts : (rs : List Row) → element_fits rs r ≡ element_in (rows_with rs (named_of r)) r
  unfolding element_fits element_in insert_on
  element_parts rs = refl
