use native.Mathlib.Omega.{arith}
use mathlib.Core.Path.{ap₂, ◌∙◌}
use mathlib.Core.List.{append-nil}
use Prim.Native.Nat.{ℕ, ◌-◌}
use Rattle.batch.specs.Walk.{fall}
use Rattle.batch.proofs.Walking.{walk-starts, walk_ends}
use Rattle.batch.proofs.walk_list.walk_list.Goals as goal

pub lower-head-requires : goal.lower-head-requires
lower-head-requires c = c.requires.0.rising

pub lower-requires : goal.lower-requires
lower-requires c = c.requires.0.rising

pub push-depth-requires : goal.push-depth-requires
push-depth-requires c = omega (arith, c.requires.1)

pub loop-at-init : goal.loop-at-init
loop-at-init c =
    let s = c in
    let a = s.args in
    let p = c.push-depth.ensures in
    let q = c.lower-head.ensures in
    let r = c.lower.ensures in
    walk-starts a.list.now.rows.now a.list.now.a a.list.now.z a.list.now.ops.now a.list.now.group.now a.list.now.tags.now s.requires.0 c.push-depth.new.stack a.order.now a.places.now c.push-depth.result (p.0 ∙ append-nil (fall c.lower-head.result (c.lower.result - c.lower-head.result)) ∙ ap₂ (λ (i j : ℕ). fall i (j - i)) q r) p.1 (omega (arith, s.requires.1)) s.requires.2 s.requires.3

pub step-at-requires : goal.step-at-requires
step-at-requires c = (c.requires.0, c.loop-at.invariant, c.loop-at-test.true)

pub loop-at-preserved : goal.loop-at-preserved
loop-at-preserved c = c.step-at.ensures.0

pub returns : goal.returns
returns c =
    let s = c in
    let a = s.args in
    walk_ends a.list.now.rows.now a.list.now.a a.list.now.z a.list.now.ops.now a.list.now.group.now a.list.now.tags.now s.requires.0 c.loop-at.invariant c.loop-at-test.false
