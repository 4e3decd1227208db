use native.Mathlib.Omega.{arith}
use Rattle.batch.proofs.Stacked.{popped-run, popped-one}
use Rattle.batch.proofs.stack.pop.Goals as goal

pub returns-then-more-eq0 : goal.returns-then-more-eq0
returns-then-more-eq0 c =
    let a = c.args in
    (popped-run a.stack.now a.depth c.requires.0 c.if-more-eq0.true, omega arith)

pub returns : goal.returns
returns c =
    let a = c.args in
    (popped-one a.stack.now a.depth c.requires.0 c.requires.1 c.if-more-eq0.false, omega arith)
