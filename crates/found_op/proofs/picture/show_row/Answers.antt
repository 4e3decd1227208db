use Rattle.std.proofs.Common.{◌∙◌, sym, arith}
use Rattle.found_op.proofs.Entries.{length-entry}
use Rattle.found_op.proofs.Shows.{shows_nothing, shows_entry, written}
use Rattle.found_op.proofs.picture.show_row.Goals as goal

pub returns-in_default : goal.returns-in_default
returns-in_default c = shows_nothing _ _ _ _ c.scope_to_clock.ensures _ (sym c.transpose.ensures ∙ c.in_default.is)

pub returns : goal.returns
returns c =
    let w = written c.args.out.now _ (omega arith) (c.copy_from_slice.ensures.after ∙ c.entry.ensures) (length-entry _ _ _) c.requires in
    shows_entry _ _ _ _ c.scope_to_clock.ensures _ _ (sym c.transpose.ensures ∙ c.in-Some.is) w
