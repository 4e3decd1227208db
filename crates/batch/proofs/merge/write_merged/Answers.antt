use borrow.Author.Rules.{rules}
use native.Mathlib.Omega.{arith}
use mathlib.Core.Path.{ap, ◌∙◌}
use Prim.Native.Nat.{ℕ}
use lib.ListN.{replicate}
use Rattle.model.specs.Calls.{over}
use Rattle.batch.proofs.Merging.{few-ops, mergeable, rows_are, succs-are, stack-fits}
use Rattle.batch.proofs.merge.write_merged.Goals as goal

pub write_rows-requires : goal.write_rows-requires
write_rows-requires c =
    let s = c in
    let a = s.args in (
      s.requires.fitting.ops-in,
      few-ops a.n a.rows.now a.m a.succs.now a.k a.ops.now a.room.now s.requires (λ j. search rules) (λ j. search rules),
      mergeable a.n a.rows.now a.m a.succs.now a.k a.ops.now a.room.now s.requires (λ j. search rules) (λ j. search rules),
      omega (arith, stack-fits a.n a.rows.now a.m a.succs.now a.k a.ops.now a.room.now s.requires (λ j. search rules) (λ j. search rules)),
    )

pub returns : goal.returns
returns c =
    let s = c in
    let a = s.args in (
      c.write_rows.ensures ∙ ap (over a.rows.now) (rows_are a.n a.rows.now a.m a.succs.now a.k a.ops.now a.room.now s.requires (λ j. search rules) (λ j. search rules)),
      c.write_succs.ensures ∙ ap (over a.succs.now) (succs-are a.n a.rows.now a.m a.succs.now a.k a.ops.now a.room.now s.requires (λ j. search rules) (λ j. search rules)),
      c.clear.ensures ∙ ap (λ (n : ℕ). replicate n 0) (omega arith),
    )
