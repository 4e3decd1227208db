use mathlib.Core.Path.{◌∙◌}
use Prim.Native.Nat.{◌*◌}
use borrow.Author.Tests.{le-ltb}
use Rattle.model.specs.Sizes.{row_words, op_words}
use Rattle.batch.specs.Parts.{part}
use Rattle.batch.proofs.WalkTests.{none-mapped, first-mapped}
use Rattle.batch.proofs.walk_map.map_first.Goals as goal

pub returns-then-d-z : goal.returns-then-d-z
returns-then-d-z c =
    let a = c.args in
    rw (c.rank_before.ensures, c.op_row.ensures, c.nth.ensures) (first-mapped a.rows.now a.z a.d (part row_words a.ops.now (a.x * op_words)) c.if-d-z.true)

pub returns-else-d-z : goal.returns-else-d-z
returns-else-d-z c =
    let a = c.args in
    le-ltb a.d a.z c.if-d-z.false ∙ none-mapped a.rows.now a.z a.d (part row_words a.ops.now (a.x * op_words)) c.if-d-z.false
