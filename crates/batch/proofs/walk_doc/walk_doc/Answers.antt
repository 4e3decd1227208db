use native.Mathlib.Omega.{arith}
use Rattle.batch.proofs.Grouping.{group-starts, group-ends}
use Rattle.batch.proofs.walk_doc.walk_doc.Goals as goal

pub loop-lo-init : goal.loop-lo-init
loop-lo-init c = let s = c in group-starts s.requires.0.0 s.args.order.now s.args.places.now s.requires.3 s.requires.4

pub walk_next-lo-requires : goal.walk_next-lo-requires
walk_next-lo-requires c =
    let s = c in
    (s.requires.0, omega (arith, s.requires.1), omega (arith, s.requires.2), c.loop-lo-test.true, c.loop-lo.invariant)

pub loop-lo-preserved : goal.loop-lo-preserved
loop-lo-preserved c = c.walk_next-lo.ensures.0

pub returns : goal.returns
returns c = group-ends c.requires.0.0 c.loop-lo.invariant c.loop-lo-test.false
