use mathlib.Core.Path.{refl}
use Rattle.model.specs.Sizes.{max_rows}
use Rattle.refusal.specs.Slots.{slots}
use Rattle.refusal.proofs.known.no_marks.Goals as goal

pub returns : goal.returns
unfolding slots max_rows
returns c = refl
