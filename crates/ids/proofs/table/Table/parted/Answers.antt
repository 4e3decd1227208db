use mathlib.Core.Path.{sym, ap, ◌∙◌}
use mathlib.Core.List.{◌++◌}
use Prim.Native.Nat.{◌+◌, ◌*◌}
use native.Mathlib.Nat.{add-zero, zero-add}
use lib.ListN.{drop}
use Rattle.model.specs.Basic.{pieces}
use Rattle.laws.proofs.Pieces.{pieces-add}
use Rattle.ids.proofs.table.Table.parted.Goals as goal

pub returns : goal.returns
returns g c =
    let w = g.row.W in
    let n = c.self.inside.whole in
    let m = c.self.inside.short in
    let xs = c.self.inside.words.now in
    ap (λ r. pieces w (n + 0) xs ++ pieces w (0 + m) r) c.split_at.ensures.back
    ∙ ap (λ k. pieces w k xs ++ pieces w (0 + m) (drop (n * w) xs)) (add-zero n)
    ∙ ap (λ k. pieces w n xs ++ pieces w k (drop (n * w) xs)) (zero-add m)
    ∙ sym (pieces-add w n m xs)
    ∙ c.self.view_is
