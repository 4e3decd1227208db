use native.Mathlib.Omega.{arith}
use Rattle.batch.proofs.SuccsMerged.{succs-asked, succs-merged}
use borrow.Author.Rules.{rules}
use Rattle.batch.proofs.merge_succs.merge_succs.Goals as goal

pub place-requires : goal.place-requires
place-requires c =
    let s = c in
    (search rules, succs-asked s.args.m s.args.succs.now s.args.new.now s.args.order.now s.args.places.now s.requires.2 c.find_places.ensures)

pub returns : goal.returns
returns c =
    let s = c in
    (succs-merged s.args.m s.args.succs.now s.args.new.now s.args.order.now s.args.places.now s.requires.2 c.find_places.ensures (omega arith) c.place.ensures.0, c.place.ensures.1)
