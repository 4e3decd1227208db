use Rattle.std.proofs.Common.{sym, ◌∙◌, ap, arith}
use lib.ListN.{length}
use Rattle.laws.proofs.Pieces.{length-pieces}
use Rattle.ids.proofs.table.Table.len.Goals as goal

pub returns : goal.returns
returns g c =
    let len = ap length (sym c.self.view_is) ∙ length-pieces _ _ c.self.inside.words.now in
    omega (arith, len)
