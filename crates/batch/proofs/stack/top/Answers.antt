use native.Mathlib.Omega.{arith}
use mathlib.Core.Path.{ap}
use Prim.Native.Nat.{ℕ}
use lib.ListN.{get_or}
use Rattle.batch.proofs.Stacked.{top-is, top_in}
use Rattle.batch.proofs.stack.top.Goals as goal

pub overflow_add-j-2 : goal.overflow_add-j-2
overflow_add-j-2 c =
    let a = c.args in let s = c.requires in omega (arith, top-is a.stack.now a.depth s.0, top_in a.stack.now a.depth _ s.0 s.2)

pub offset_bounds-group-j : goal.offset_bounds-group-j
offset_bounds-group-j c =
    let a = c.args in let s = c.requires in omega (arith, top-is a.stack.now a.depth s.0, top_in a.stack.now a.depth _ s.0 s.2)

pub bounds-group-j : goal.bounds-group-j
bounds-group-j c =
    let a = c.args in let s = c.requires in omega (arith, top-is a.stack.now a.depth s.0, top_in a.stack.now a.depth _ s.0 s.2)

pub returns : goal.returns
returns c =
    let a = c.args in
    ap (λ (j : ℕ). get_or a.group.now j 0) (top-is a.stack.now a.depth c.requires.0)
