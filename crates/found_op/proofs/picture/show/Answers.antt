use Rattle.std.proofs.Common.{ℕ, List}
use Rattle.std.proofs.Common.{arith}
use Rattle.std.proofs.lemmas.List.{nil_from_length}
use Rattle.laws.proofs.Tests.{of-true}
use Rattle.laws.proofs.Formed.{formed}
use Rattle.found_op.specs.Showable.{Showable, document}
use Rattle.found_op.proofs.Keyed.{Keyed, formed-keyed}
use Rattle.found_op.proofs.Picturing.{picturing-start, picturing-turn, picturing-smaller, picturing-end}
use Rattle.found_op.proofs.picture.show.Goals as goal

keyed : {rows succs : List (List ℕ)} {out : List ℕ} → Showable rows succs out → Keyed (document rows succs)
keyed {rows} {succs} s = formed-keyed ((formed (document rows succs)).0 (of-true s.formed)) s.whole

pub loop-rest-init : goal.loop-rest-init
loop-rest-init c = picturing-start (keyed c.requires) (λ r m. (c.requires.whole r m).wide) c.iter-rest.ensures.same

pub loop-rest-smaller : goal.loop-rest-smaller
loop-rest-smaller c =
    picturing-smaller (keyed c.requires) (λ r m. (c.requires.whole r m).wide) _ c.loop-rest.invariant (omega arith) c.group_length-size.ensures c.len-in-loop-rest.ensures c.part-rest.ensures

pub loop-rest-preserved : goal.loop-rest-preserved
loop-rest-preserved c =
    picturing-turn (keyed c.requires) (λ r m. (c.requires.whole r m).wide) _ c.loop-rest.invariant (omega arith) c.group_length-size.ensures c.part-group.ensures c.show_group-k.ensures c.len-in-loop-rest.ensures c.part-rest.ensures

pub returns : goal.returns
returns c = picturing-end (keyed c.requires) (λ r m. (c.requires.whole r m).wide) c.loop-rest.invariant (nil_from_length _ (omega arith)) c.requires.holds
