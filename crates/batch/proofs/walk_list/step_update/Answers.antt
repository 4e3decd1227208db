use native.Mathlib.Omega.{arith}
use mathlib.Core.Path.{sym, ◌∙◌}
use Rattle.batch.proofs.Walking.{keeps, puts-update}
use Rattle.batch.proofs.walk_list.step_update.Goals as goal

pub returns-then-row_first : goal.returns-then-row_first
returns-then-row_first c =
    let s = c in
    let a = s.args in
    let k = keeps a.list.now.rows.now a.list.now.a a.list.now.z a.list.now.ops.now a.list.now.group.now a.list.now.tags.now s.requires.0 s.requires.1 s.requires.2 s.requires.3 (sym c.row_first.ensures ∙ c.if-row_first.true) in
    (k.1, omega (arith, k.0))

pub returns : goal.returns
returns c =
    let s = c in
    let a = s.args in
    (puts-update a.list.now.rows.now a.list.now.a a.list.now.z a.list.now.ops.now a.list.now.group.now a.list.now.tags.now s.requires.0 s.requires.1 s.requires.2 s.requires.3 (sym c.row_first.ensures ∙ c.if-row_first.false), omega (arith, s.requires.2))
