use Rattle.std.proofs.Common.{sym, ◌∙◌, ap, arith, ◌≤◌, ◌<◌, ◌≡◌, ◌+◌, ◌-◌, ◌*◌}
use lib.ListN.{length, get_or, take, drop, get_or-eq_default}
use mathlib.Core.List.{[]}
use Rattle.laws.proofs.Pieces.{length-pieces}
use Rattle.ids.specs.Words.{piece_at}
use Rattle.ids.proofs.Cut.{take-none}
use Rattle.ids.proofs.Pieces.{piece-at}
use Rattle.ids.proofs.table.Table.get.Goals as goal

pub returns-then-i-self : goal.returns-then-i-self
unfolding piece_at
returns-then-i-self g c =
    let i = c.args.i in
    let xs = c.self.inside.words.now in
    let there : i < c.self.inside.whole + c.self.inside.short = omega (arith, c.if-i-self.true) in
    let wide : i * g.row.W + g.row.W - i * g.row.W ≡ g.row.W = omega arith in
    ap (λ k. take k (drop (i * g.row.W) xs)) wide ∙ sym (piece-at _ _ xs i there) ∙ ap (λ t. get_or t i []) c.self.view_is

pub returns-then-i-self-2 : goal.returns-then-i-self-2
returns-then-i-self-2 g c =
    c.nth.ensures ∙ sym (piece-at _ _ c.self.inside.words.now c.args.i c.if-i-self-2.true) ∙ ap (λ t. get_or t c.args.i []) c.self.view_is

pub returns-else-i-self-2 : goal.returns-else-i-self-2
returns-else-i-self-2 g c =
    let len = ap length (sym c.self.view_is) ∙ length-pieces _ _ c.self.inside.words.now in
    let past : length c.args.self.now ≤ c.args.i = omega (arith, len, c.if-i-self-2.false) in
    c.at.ensures ∙ take-none _ ∙ sym (get_or-eq_default c.args.self.now [] past)
