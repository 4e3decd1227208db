use Rattle.std.proofs.Common.{◌∙◌, ap, sym, arith, ◌<◌, ◌+◌}
use Prim.Native.Nat.{min}
use lib.ListN.{length, take, drop}
use Rattle.ids.proofs.Cut.{drop-min, drop-saturated, part-pieces}
use Rattle.ids.proofs.table.Table.part.Goals as goal

pub returns : goal.returns
returns g c =
    let n = c.self.inside.whole + c.self.inside.short in
    let xs = c.self.inside.words.now in
    let fits : length xs < 18446744073709551616 = omega (arith, c.self.told) in
    let starts = c.min-start.ensures ∙ ap (min c.args.from) c.min-end.ensures in
    let skips = ap (λ k. drop k xs) c.min-skipped.ensures ∙ drop-min _ xs ∙ ap (λ k. drop k xs) c.saturating_mul.ensures ∙ drop-saturated _ xs fits in
    c.new.ensures ∙ rw (c.split_at.ensures.back, skips, starts, c.min-end.ensures) (sym (part-pieces _ n xs c.args.from c.args.to) ∙ ap (λ t. drop c.args.from (take c.args.to t)) c.self.view_is)
