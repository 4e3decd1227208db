use native.Mathlib.Omega.{arith}
use Rattle.batch.specs.Groups.{tags_of}
use Rattle.batch.proofs.Columns.{numbers-start, numbers-turn, numbers-end, tag-made, tag-small}
use Rattle.batch.proofs.group_words.write_tags.Goals as goal

pub loop-j-init : goal.loop-j-init
loop-j-init c = numbers-start c.requires.1

pub overflow_mul-tags : goal.overflow_mul-tags
overflow_mul-tags c =
    let a = c.args in
    let k = tag-small a.ops.now a.group.now c.loop-j.j c.loop-j-test.true c.op_row-row.ensures c.named.ensures c.insert-insert.ensures c.requires.0 in
    omega arith

pub overflow_add-tags : goal.overflow_add-tags
overflow_add-tags c =
    let a = c.args in
    let k = tag-small a.ops.now a.group.now c.loop-j.j c.loop-j-test.true c.op_row-row.ensures c.named.ensures c.insert-insert.ensures c.requires.0 in
    omega arith

pub loop-j-preserved : goal.loop-j-preserved
loop-j-preserved c =
    let a = c.args in
    numbers-turn c.loop-j.invariant c.loop-j-test.true _ (tag-made a.ops.now a.group.now c.loop-j.j c.loop-j-test.true c.op_row-row.ensures c.named.ensures c.insert-insert.ensures)

pub returns : goal.returns
unfolding tags_of
returns c = numbers-end c.loop-j.invariant c.loop-j-test.false
