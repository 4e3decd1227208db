use mathlib.Core.Path.{◌∙◌}
use native.Mathlib.Omega.{arith}
use Prim.Native.Nat.{◌*◌}
use Rattle.model.specs.Sizes.{succ_words}
use Rattle.batch.specs.Entries.{entry_by}
use Rattle.batch.proofs.Copies.{stored}
use Rattle.batch.proofs.Adding.{entry-wide}
use Rattle.batch.proofs.entries.write_entry.Goals as goal

pub returns : goal.returns
returns c =
    let a = c.args in
    let l = entry-wide a.counter a.op.now a.p in
    stored a.out.now (a.t * succ_words) (entry_by a.counter a.op.now a.p) (omega (arith, l)) (omega (arith, l)) (c.copy_from_slice.ensures.after ∙ c.entry_by.ensures)
