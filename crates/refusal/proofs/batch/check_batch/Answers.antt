use mathlib.Core.Path.{sym, ◌∙◌}
use native.Mathlib.Omega.{arith}
use Rattle.model.specs.Sizes.{max_batch}
use Rattle.refusal.proofs.LentHolds.{lent-holds}
use Rattle.refusal.proofs.Sums.{countable}
use Rattle.refusal.proofs.batch.check_batch.Goals as goal

pub first_refusal-requires : goal.first_refusal-requires
unfolding max_batch
first_refusal-requires c =
    let a = c.args in
    let lent = lent-holds a.n a.rows.now a.m a.succs.now a.k a.ops.now (sym c.lent_fits.ensures ∙ c.if-not-lent_fits.false) in
    rw (c.new-rows.ensures, c.new.ensures, c.new-2.ensures) (countable a.n a.rows.now a.m a.succs.now a.k a.ops.now lent (omega arith) (omega arith) c.if-k-gt-MAX_BATCH.false)
