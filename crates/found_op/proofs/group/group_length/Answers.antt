use Rattle.std.proofs.Common.{◌∙◌, ap, not, rules, tests}
use Rattle.std.specs.List.{prefix_len}
use Rattle.ids.specs.Words.{same_words}
use Rattle.ids.proofs.Chains.{position-ran}
use Rattle.ids.proofs.Prefixes.{prefix-is}
use Rattle.found_op.specs.Group.{group_length}
use Rattle.found_op.proofs.group.group_length.Goals as goal

pub returns : goal.returns
unfolding group_length
returns c =
    let rows = c.args.rows.now in
    let first = c.get-first.result in
    let other = position-ran (λ x. not (same_words first x)) _ c.iter.ensures.same c.position-other.ensures.ran (λ x b q k. search (rules, tests)) in
    c.unwrap_or.ensures ∙ rw (other, c.len.ensures) (prefix-is (same_words first) rows) ∙ ap (λ r. prefix_len (same_words r) rows) c.get-first.ensures
