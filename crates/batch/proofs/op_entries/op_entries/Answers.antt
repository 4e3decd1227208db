use mathlib.Core.Path.{ap}
use lib.ListN.{length}
use native.Mathlib.Omega.{arith}
use Rattle.batch.specs.Entries.{counter_among}
use Rattle.batch.proofs.Adding.{enter-start, enter-turn, enter-end}
use Rattle.batch.proofs.op_entries.op_entries.Goals as goal

pub loop-q-init : goal.loop-q-init
loop-q-init c = enter-start (counter_among c.args.rows.now c.args.ops.now) c.args.op.now c.requires

pub loop-q-preserved : goal.loop-q-preserved
loop-q-preserved c =
    let a = c.args in
    enter-turn (counter_among a.rows.now a.ops.now) a.op.now c.loop-q.invariant (omega (arith, ap length c.preds-count.ensures)) c.word-p.ensures _ c.counter_for.ensures c.write_entry.ensures

pub returns : goal.returns
returns c =
    let a = c.args in
    enter-end (counter_among a.rows.now a.ops.now) a.op.now c.loop-q.invariant (omega (arith, ap length c.preds-count.ensures)) (omega (arith, ap length c.preds-count.ensures))
