use Rattle.found_op.specs.Group.{row_shown}
use Rattle.found_op.specs.Page.{page}
use Rattle.found_op.proofs.Shows.{Showing}
use Rattle.found_op.proofs.picture.show_group.Given as goal

abbrev pub invariant-loop-row : goal.invariant-loop-row
invariant-loop-row l = Showing (row_shown l.clock l.succs l.found) l.group l.row-iterator (page l.initial.out l.k) l.out l.next
