use Rattle.std.proofs.Common.{rules, tests}
use mathlib.Core.Path.{◌≡◌, sym, ◌∙◌}
use Rattle.refusal.specs.declared.check.Check.TheVariants.{Id}
use Rattle.refusal.proofs.KnownIds.{fresh}
use Rattle.refusal.proofs.named.Known.first_refused.Goals as goal

pub returns-then-unknown : goal.returns-then-unknown
returns-then-unknown c =
    let k = c.args.self.now in
    let id : c.args.check ≡ Id = search (rules, tests) in
    c.first_failing.ensures ∙ rw (c.new.ensures, c.new-then-unknown.ensures, c.iter.ensures.same, id) (fresh k.rows k.succs k.ops (sym c.unknown.ensures ∙ c.if-unknown.true))
