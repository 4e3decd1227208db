use mathlib.Core.Path.{ap, ◌∙◌}
use native.Mathlib.Omega.{arith}
use lib.ListN.{length}
use Rattle.model.specs.Sizes.{succ_words}
use Rattle.batch.proofs.OrderedSuccs.{length-sorted, sorted-known, merged_by}
use borrow.Author.Rules.{rules}
use Rattle.batch.proofs.merge_entries.merge_by.Goals as goal

pub merge_succs-requires : goal.merge_succs-requires
merge_succs-requires c =
    let s = c in
    let new = s.args.new.now in
    let t = length s.args.order.now in
    let f = s.requires.0 in
    let e = c.order_succs.ensures in
    let l = ap length e ∙ length-sorted succ_words t new in
    (omega (arith, f.room), search rules, rw e (sorted-known succ_words t new f.there))

pub returns : goal.returns
returns c =
    let s = c in
    let e = c.merge_succs.ensures in
    merged_by s.args.m (length s.args.order.now) s.args.new.now s.args.succs.now s.requires.0 c.order_succs.ensures e.0 e.1
