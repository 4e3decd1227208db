use Rattle.std.proofs.Common.{◌∙◌, sym, ap, arith, ◌≡◌, ◌+◌, ◌-◌}
use Prim.Native.Nat.{suc}
use lib.ListN.{length}
use Rattle.ids.proofs.Cut.{take-min, drop-min, pieces-cut}
use Rattle.ids.proofs.table.TableIterator.next.Goals as goal

pub returns-then-self-gt0-clause-steps : goal.returns-then-self-gt0-clause-steps
returns-then-self-gt0-clause-steps g c =
    let s = c.self.inside in
    let more : s.whole + s.short ≡ suc (s.whole - 1 + s.short) = omega (arith, c.if-self-gt0.true) in
    rw (c.split_at.ensures.front, c.split_at.ensures.back) (sym c.self.view_is ∙ pieces-cut _ _ _ s.words.now more)

pub returns-then-self-gt0-clause-goes : goal.returns-then-self-gt0-clause-goes
returns-then-self-gt0-clause-goes g c =
    let less = ap length (returns-then-self-gt0-clause-steps g c) in
    record { on = λ h. (tt, h, omega (arith, less)); keeps = tt; rests = λ h. tt }

pub returns-clause-steps : goal.returns-clause-steps
returns-clause-steps g c =
    let s = c.self.inside in
    let more : s.whole + s.short ≡ suc (s.whole + (s.short - 1)) = omega (arith, c.if-self-eq0.false) in
    rw (c.split_at-2.ensures.front, c.split_at-2.ensures.back, c.min.ensures, take-min _ s.words.now, drop-min _ s.words.now) (sym c.self.view_is ∙ pieces-cut _ _ _ s.words.now more)

pub returns-clause-goes : goal.returns-clause-goes
returns-clause-goes g c =
    let less = ap length (returns-clause-steps g c) in
    record { on = λ h. (tt, h, omega (arith, less)); keeps = tt; rests = λ h. tt }
