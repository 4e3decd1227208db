use Rattle.visible.proofs.Searches.{halving_end}
use Rattle.visible.proofs.entries.first_of.Goals as goal

pub returns : goal.returns
returns c = halving_end c.loop-low.invariant c.loop-low-test.false
