use Rattle.std.proofs.Common.{rules, tests}
use mathlib.Core.Path.{sym, ◌∙◌}
use Rattle.laws.proofs.Tests.{or-true, or-false}
use Rattle.ids.proofs.Chains.{any-ran}
use Rattle.refusal.specs.Checks.{check_number}
use Rattle.refusal.specs.Bearing.{bearing, bearer_in}
use Rattle.refusal.proofs.named.Known.borne.Goals as goal

pub returns-then-borne_by_op : goal.returns-then-borne_by_op
returns-then-borne_by_op c =
    let a = c.args in
    rw (sym c.borne_by_op.ensures ∙ c.if-borne_by_op.true, or-true (bearer_in (check_number a.check) a.x.now a.id a.self.now.rows)) c.if-borne_by_op.true

pub returns-else-borne_by_op : goal.returns-else-borne_by_op
unfolding bearer_in
returns-else-borne_by_op c =
    let a = c.args in
    let of-row = any-ran (bearing (check_number a.check) a.x.now a.id) a.self.now.rows c.iter.ensures.same c.any.ensures.ran (λ x b q k. search (rules, tests)) in
    rw (sym c.borne_by_op.ensures ∙ c.if-borne_by_op.false, or-false (bearer_in (check_number a.check) a.x.now a.id a.self.now.rows)) of-row
