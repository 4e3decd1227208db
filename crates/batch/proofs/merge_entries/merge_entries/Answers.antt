use mathlib.Core.Path.{◌≡◌, sym, subst}
use native.Mathlib.Omega.{arith}
use lib.ListN.{length, take}
use lib.Seq.{length-take-le}
use Rattle.batch.specs.MergedEntries.{EntriesFit}
use Rattle.batch.proofs.OrderedSuccs.{batch-size, merged-count}
use Rattle.batch.proofs.merge_entries.merge_entries.Goals as goal

pub merge_by-requires : goal.merge_by-requires
merge_by-requires c =
    let s = c in
    let a = s.args in
    let l : length (take a.t c.zeros-order.result) ≡ a.t = length-take-le a.t c.zeros-order.result (omega (arith, batch-size)) in
    (subst (λ t. EntriesFit a.m t a.new.now a.succs.now) (sym l) s.requires.0, omega (arith, batch-size))

pub returns : goal.returns
returns c =
    let s = c in
    let a = s.args in
    let l : length (take a.t c.zeros-order.result) ≡ a.t = length-take-le a.t c.zeros-order.result (omega (arith, batch-size)) in
    merged-count l c.merge_by.ensures
