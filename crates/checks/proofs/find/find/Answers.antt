use Rattle.std.proofs.Common.{rules, tests}
use mathlib.Core.Path.{◌≡◌, sym, ap, ◌∙◌}
use lib.ListN.{get_or}
use Rattle.std.specs.Prelude.{[], Some, None, option_map}
use Rattle.checks.proofs.FirstRow.{found_is}
use Rattle.checks.proofs.find.find.Goals as goal

pub returns-in_err-i : goal.returns-in_err-i
returns-in_err-i c =
    let a = c.args in
    let none : c.find_row.result ≡ None = search (rules, tests) in
    let given : c.from_residual.result ≡ None = search (rules, tests) in
    given ∙ sym (found_is a.rows.now a.id ∙ ap (option_map (λ i. get_or a.rows.now i [])) (sym c.find_row.ensures ∙ none))

pub returns : goal.returns
returns c =
    let a = c.args in
    let some : c.find_row.result ≡ Some c.in_ok-i.i = search (rules, tests) in
    ap Some c.get.ensures ∙ sym (found_is a.rows.now a.id ∙ ap (option_map (λ i. get_or a.rows.now i [])) (sym c.find_row.ensures ∙ some))
