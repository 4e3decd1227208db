use Rattle.std.proofs.lemmas.Result.{err_from_is_err_and}
use borrow.Author.Rules.{rules}
use Rattle.batch.proofs.MergeCalls.{refused-so, may-merge, accepted-so}
use Rattle.batch.proofs.merge.merge_or_refuse.Goals as goal

pub write_merged-requires : goal.write_merged-requires
write_merged-requires c =
    let a = c.args in
    may-merge a.n a.rows.now a.m a.succs.now a.k a.ops.now a.room.now c.requires.0 (λ j. search rules) (λ j. search rules) c.in_ok-counts.ensures

pub returns : goal.returns
returns c =
    let a = c.args in
    let w = c.write_merged.ensures in
    accepted-so a.n a.rows.now a.m a.succs.now a.k a.ops.now a.room.now c.requires.0 (λ j. search rules) (λ j. search rules) c.in_ok-counts.ensures w.0 w.1 w.2

pub returns-in_err-counts : goal.returns-in_err-counts
returns-in_err-counts c =
    let a = c.args in
    let p = err_from_is_err_and c.from_residual.result c.from_residual.ensures.1 in
    rw (p.1, p.2) (refused-so a.n a.rows.now a.m a.succs.now a.k a.ops.now a.room.now c.requires.0 (λ j. search rules) (λ j. search rules) c.in_err-counts.ensures c.requires.1)
