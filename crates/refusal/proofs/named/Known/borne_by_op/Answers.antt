use Rattle.std.proofs.Common.{rules, tests}
use mathlib.Core.Path.{sym, ◌∙◌}
use Rattle.model.specs.Row.{row_of}
use Rattle.ids.proofs.Chains.{any-ran}
use Rattle.refusal.specs.Checks.{check_number}
use Rattle.refusal.specs.Bearing.{bearing}
use Rattle.refusal.proofs.Bearers.{first_bears, none-bears}
use Rattle.refusal.proofs.named.Known.borne_by_op.Goals as goal

pub returns-in_default : goal.returns-in_default
returns-in_default c =
    let a = c.args in
    none-bears (check_number a.check) a.x.now a.id a.self.now.ops (sym c.with_id.ensures ∙ c.in_default.is)

pub returns-then-bears : goal.returns-then-bears
returns-then-bears c =
    let a = c.args in
    c.if-bears.true ∙ first_bears (check_number a.check) a.x.now a.id a.self.now.ops (sym c.with_id.ensures ∙ c.in-Some.is) (rw (← c.row.ensures) (sym c.bears.ensures ∙ c.if-bears.true))

pub returns-else-bears : goal.returns-else-bears
returns-else-bears c =
    let a = c.args in
    any-ran (λ o. bearing (check_number a.check) a.x.now a.id (row_of o)) a.self.now.ops c.iter.ensures.same c.any.ensures.ran (λ x b q k. search (rules, tests))
