use mathlib.Core.Path.{sym, ◌∙◌}
use Rattle.batch.proofs.walk_list.step.Goals as goal

pub step_waiting-requires : goal.step_waiting-requires
step_waiting-requires c = let s = c in (s.requires.0, s.requires.1, s.requires.2, c.if-at.false, sym c.wait_first.ensures ∙ c.if-wait_first.true)

pub step_row-requires : goal.step_row-requires
step_row-requires c = let s = c in (s.requires.0, s.requires.1, s.requires.2, c.if-at.false, sym c.wait_first.ensures ∙ c.if-wait_first.false)
