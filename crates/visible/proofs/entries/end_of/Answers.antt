use Rattle.std.proofs.Common.{◌+◌, ◌∙◌, ap, arith, eqb, not, drop, rules, tests}
use Rattle.std.proofs.lemmas.List.{take_all}
use Rattle.model.specs.Row.{Succ, owner_of}
use Rattle.ids.proofs.Chains.{position-ran}
use Rattle.ids.proofs.Prefixes.{prefix-is}
use Rattle.visible.specs.Entries.{run}
use Rattle.visible.proofs.entries.end_of.Goals as goal

pub returns : goal.returns
unfolding run
returns c =
    let a = c.args in
    let rest = c.part-rest.result in
    let mine = λ (s : Succ). eqb (owner_of s) a.id in
    let other = position-ran (λ s. not (mine s)) _ c.iter.ensures.same c.position-other.ensures.ran (λ x b q k. search (rules, tests)) in
    let all = take_all c.len.result a.succs.now (omega (arith, c.len.ensures)) in
    ap (λ k. a.from + k) (c.unwrap_or.ensures ∙ rw (other, c.len-2.ensures) (prefix-is mine rest) ∙ ap (run a.id) (c.part-rest.ensures ∙ ap (drop a.from) all))
