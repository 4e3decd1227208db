use mathlib.Core.Path.{ap, ◌∙◌}
use Rattle.std.specs.Option.{is_some}
use Rattle.refusal.proofs.Bearers.{some-with}
use Rattle.refusal.proofs.taken.op_has.Goals as goal

pub returns : goal.returns
returns c = c.is_some.ensures ∙ ap is_some c.with_id.ensures ∙ some-with c.args.id c.args.ops.now
