use native.Mathlib.Omega.{arith}
use Prim.Native.Nat.{◌-◌}
use Rattle.batch.proofs.PlacedWords.{insert-start, insert-old, insert-new, insert-end}
use Rattle.batch.proofs.place.place.Goals as goal

pub loop-j-init : goal.loop-j-init
loop-j-init c = insert-start c.requires.0 c.requires.1

pub loop-j-preserved-then-p-s : goal.loop-j-preserved-then-p-s
loop-j-preserved-then-p-s c =
    let l = c.loop-j in
    insert-old (l.s - 1) (l.j - 1) l.invariant (omega arith) (omega arith) c.if-p-s.true (omega arith) c.copy_within.ensures.after

pub loop-j-preserved : goal.loop-j-preserved
loop-j-preserved c =
    let l = c.loop-j in
    insert-new (l.j - 1) l.invariant (omega arith) c.if-p-s.false (omega arith) (omega arith) c.copy_from_slice.ensures.after

pub returns : goal.returns
returns c = insert-end c.loop-j.invariant c.loop-j-test.false
