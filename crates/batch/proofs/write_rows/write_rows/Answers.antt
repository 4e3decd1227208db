use native.Mathlib.Omega.{arith}
use mathlib.Core.Path.{sym, ap, subst, ◌∙◌}
use mathlib.Core.List.{List, map}
use Prim.Native.Nat.{ℕ}
use lib.ListN.{length}
use lib.Seq.{length-take-le}
use Rattle.model.specs.Calls.{over}
use Rattle.laws.proofs.Untangle.{row_in}
use Rattle.batch.specs.Walk.{doc_from, new_rows_of}
use Rattle.batch.specs.Groups.{doc_out, Mergeable}
use Rattle.batch.proofs.OrderedSuccs.{batch-size}
use Rattle.batch.proofs.RowsWritten.{numbers-few, numbers-front}
use Rattle.batch.proofs.write_rows.write_rows.Goals as goal

pub place_rows-requires : goal.place_rows-requires
place_rows-requires c =
    let s = c in
    let a = s.args in
    let r = c.sort_rows-t.ensures in
    let few = numbers-few a.k a.ops.now r.0 in
    let f = numbers-front a.k a.ops.now r.0 _ r.1 in
    let n = ap length f ∙ sym r.0 in (
      subst (Mergeable a.rows.now a.n a.ops.now) (sym f) s.requires.2,
      omega (arith, n, few, s.requires.1, s.requires.3),
      length-take-le c.sort_rows-t.result c.zeros-objects.result (omega (arith, few, s.requires.1, batch-size)) ∙ sym n,
      length-take-le c.sort_rows-t.result c.zeros-tags.result (omega (arith, few, s.requires.1, batch-size)) ∙ sym n,
      length-take-le c.sort_rows-t.result c.zeros-order.result (omega (arith, few, s.requires.1, batch-size)) ∙ sym n,
      length-take-le c.sort_rows-t.result c.zeros-places.result (omega (arith, few, s.requires.1, batch-size)) ∙ sym n,
    )

pub returns : goal.returns
returns c =
    let s = c in
    let a = s.args in
    let r = c.sort_rows-t.ensures in
    let few = numbers-few a.k a.ops.now r.0 in
    let f = numbers-front a.k a.ops.now r.0 _ r.1 in
    c.place_rows.ensures ∙ ap (λ (l : List ℕ). over a.rows.now (map row_in (doc_out (new_rows_of a.ops.now l) (doc_from a.rows.now a.n 0)))) f
