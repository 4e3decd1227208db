use native.Mathlib.Omega.{arith}
use mathlib.Core.Path.{sym, ◌∙◌}
use Rattle.batch.proofs.MapWalking.{map-starts, keeps-row, puts-row, map-ends}
use Rattle.batch.proofs.walk_map.walk_map.Goals as goal

pub loop-o-init : goal.loop-o-init
loop-o-init c = let s = c in map-starts s.args.rows.now s.args.a s.args.z s.args.ops.now s.args.group.now s.requires.0 s.args.order.now s.args.places.now s.requires.1 s.requires.2

pub loop-o-smaller-then-map_first : goal.loop-o-smaller-then-map_first
loop-o-smaller-then-map_first c =
    let s = c in
    let a = s.args in
    omega (arith, (keeps-row a.rows.now a.a a.z a.ops.now a.group.now s.requires.0 c.loop-o.invariant c.loop-o-test.true (sym c.map_first.ensures ∙ c.if-map_first.true)).0)

pub loop-o-preserved-then-map_first : goal.loop-o-preserved-then-map_first
loop-o-preserved-then-map_first c =
    let s = c in
    let a = s.args in
    (keeps-row a.rows.now a.a a.z a.ops.now a.group.now s.requires.0 c.loop-o.invariant c.loop-o-test.true (sym c.map_first.ensures ∙ c.if-map_first.true)).1

pub loop-o-preserved : goal.loop-o-preserved
loop-o-preserved c =
    let s = c in
    let a = s.args in
    puts-row a.rows.now a.a a.z a.ops.now a.group.now s.requires.0 c.loop-o.invariant c.loop-o-test.true (sym c.map_first.ensures ∙ c.if-map_first.false)

pub returns : goal.returns
returns c =
    let s = c in
    let a = s.args in
    map-ends a.rows.now a.a a.z a.ops.now a.group.now s.requires.0 c.loop-o.invariant c.loop-o-test.false
