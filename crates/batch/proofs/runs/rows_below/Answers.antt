use mathlib.Core.Path.{subst}
use mathlib.Core.List.{map}
use native.Mathlib.Omega.{arith}
use Prim.Native.Nat.{◌+◌, ◌-◌, ◌/◌, ◌<◌}
use Rattle.model.specs.Row.{object_of}
use Rattle.batch.specs.Walk.{doc_from}
use Rattle.batch.specs.Groups.{below}
use Rattle.batch.proofs.Halving.{Halving, halve-start, halve-up, halve-down, halve-end, length-objects, object-at}
use Rattle.batch.proofs.runs.rows_below.Goals as goal

pub loop-from-init : goal.loop-from-init
loop-from-init c = let a = c.args in subst (Halving a.object (map object_of (doc_from a.rows.now a.n 0)) 0) (length-objects a.rows.now a.n) (halve-start c.requires)

pub loop-from-preserved-then-object : goal.loop-from-preserved-then-object
loop-from-preserved-then-object c =
    let a = c.args in
    let l = c.loop-from in
    let mid = l.from + (l.to - l.from) / 2 in
    let k : mid < a.n = omega (arith, l.invariant.to_in, length-objects a.rows.now a.n) in
    halve-up l.invariant (omega arith) (omega arith) (rw (object-at a.rows.now a.n mid k, ← c.nth.ensures, ← c.object.ensures) c.if-object.true)

pub loop-from-preserved : goal.loop-from-preserved
loop-from-preserved c =
    let a = c.args in
    let l = c.loop-from in
    let mid = l.from + (l.to - l.from) / 2 in
    let k : mid < a.n = omega (arith, l.invariant.to_in, length-objects a.rows.now a.n) in
    halve-down l.invariant (omega arith) (omega arith) (rw (object-at a.rows.now a.n mid k, ← c.nth.ensures, ← c.object.ensures) c.if-object.false)

pub returns : goal.returns
unfolding below
returns c = halve-end c.loop-from.invariant c.loop-from-test.false
