use native.Mathlib.Omega.{arith}
use Rattle.batch.proofs.Stacked.{pushed_none, pushed}
use Rattle.batch.proofs.stack.push.Goals as goal

pub returns-then-to-from : goal.returns-then-to-from
returns-then-to-from c = let a = c.args in (pushed_none a.stack.now a.depth a.from a.to c.if-to-from.true, omega arith)

pub returns : goal.returns
returns c = let a = c.args in (pushed a.stack.now a.depth a.from a.to c.requires c.if-to-from.false, omega arith)
