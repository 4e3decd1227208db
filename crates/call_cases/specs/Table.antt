-- All cases of the calls as one table with a single claim.
use Rattle.std.specs.Prelude.{◌≡◌, Bool, true, List, [], ◌∷◌}
use Rattle.model.specs.Basic.{all}
use Rattle.call_cases.specs.Merge.{merge_cases, merge-right, full_cases, full-right}
use Rattle.call_cases.specs.Views.{picture_cases, picture-right, spot_cases, spot-right}

abbrev pub table : List (List Bool)
table = merge_cases ∷ full_cases ∷ picture_cases ∷ spot_cases ∷ []

pub all_right : all (all (λ t. t)) table ≡ true
all_right = rw (merge-right, full-right, picture-right, spot-right)
