use native.Mathlib.Omega.{arith}
use mathlib.Core.Path.{sym, ◌∙◌}
use Rattle.laws.proofs.Members.{get_or-mem}
use Rattle.batch.proofs.FoundWords.{words-start, there-is, words-past, words-here, words-end}
use Rattle.batch.proofs.find_places.find_places.Goals as goal

pub loop-j-init : goal.loop-j-init
loop-j-init c = words-start c.requires.1

pub old_next-requires : goal.old_next-requires
old_next-requires c =
    let s = c in
    (s.requires.0, s.requires.3 _ (get_or-mem s.args.order.now c.loop-j.j 0 (omega arith)), s.requires.2)

pub overflow_add-s : goal.overflow_add-s
overflow_add-s c =
    let l = there-is c.loop-j.invariant (sym c.if-old_next.true ∙ c.old_next.ensures) in
    omega arith

pub loop-j-preserved-then-old_next : goal.loop-j-preserved-then-old_next
loop-j-preserved-then-old_next c = words-past c.loop-j.invariant c.loop-j-test.true (sym c.if-old_next.true ∙ c.old_next.ensures)

pub loop-j-preserved : goal.loop-j-preserved
loop-j-preserved c = words-here c.loop-j.invariant c.loop-j-test.true (sym c.if-old_next.false ∙ c.old_next.ensures)

pub returns : goal.returns
returns c = words-end c.loop-j.invariant c.loop-j-test.false
