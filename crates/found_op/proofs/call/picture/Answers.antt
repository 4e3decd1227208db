use Rattle.std.proofs.Common.{sym, ◌∙◌, rules}
use Rattle.found_op.proofs.Calls.{unformed_is, showable, shown-is}
use Rattle.found_op.proofs.call.picture.Goals as goal

pub returns-then-not-check_document : goal.returns-then-not-check_document
returns-then-not-check_document c =
    let sized = sym c.sized.ensures ∙ c.if-not-sized.false in
    unformed_is _ _ _ _ _ _ _ sized c.check_document.ensures c.if-not-check_document.true (search rules) (search rules)

pub show-requires : goal.show-requires
show-requires c =
    let sized = sym c.sized.ensures ∙ c.if-not-sized.false in
    showable _ c.args.rows.now _ _ _ _ _ sized c.check_document.ensures c.if-not-check_document.false (λ j. (c.type_inv.rows j).fits) c.new.ensures c.new-2.ensures

pub returns : goal.returns
returns c =
    let sized = sym c.sized.ensures ∙ c.if-not-sized.false in
    shown-is _ _ _ _ _ _ _ sized c.check_document.ensures c.if-not-check_document.false (rw (c.new.ensures, c.new-2.ensures) at c.show.ensures)
