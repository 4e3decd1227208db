use Rattle.std.proofs.Common.{◌∙◌, ap, arith, ◌<◌, ◌≡◌, ◌+◌, ◌-◌, ◌*◌, rules}
use lib.ListN.{length, take, drop}
use Rattle.ids.specs.Words.{piece_at}
use Rattle.ids.proofs.Cut.{drop-min, drop-saturated}
use Rattle.ids.proofs.piece.Piece.nth.Goals as goal

pub returns : goal.returns
unfolding piece_at
returns g c =
    let fits : length c.args.words.now < 18446744073709551616 = search rules in
    c.at.ensures ∙ ap (take _) (ap (λ k. drop k c.args.words.now) c.min.ensures ∙ drop-min _ c.args.words.now ∙ ap (λ k. drop k c.args.words.now) c.saturating_mul.ensures ∙ drop-saturated _ c.args.words.now fits)

pub returns-then-i-words : goal.returns-then-i-words
unfolding piece_at
returns-then-i-words g c =
    let wide : c.args.i * g.row.W + g.row.W - c.args.i * g.row.W ≡ g.row.W = omega arith in
    ap (λ k. take k (drop (c.args.i * g.row.W) c.args.words.now)) wide
