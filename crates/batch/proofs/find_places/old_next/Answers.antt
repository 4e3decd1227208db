use native.Mathlib.Omega.{arith}
use mathlib.Core.Path.{◌∙◌}
use Rattle.laws.proofs.Pieces.{slot-in}
use Rattle.batch.proofs.FoundWords.{next-none, next-words}
use Rattle.batch.proofs.find_places.old_next.Goals as goal

pub returns-then-n-s : goal.returns-then-n-s
returns-then-n-s c =
    let a = c.args in
    next-none a.w a.n a.key a.old.now a.s _ c.if-n-s.true

pub lex_before-requires : goal.lex_before-requires
lex_before-requires c =
    let a = c.args in
    let l = slot-in a.w a.s a.n _ c.if-n-s.false c.requires.0 in
    omega arith

pub returns : goal.returns
returns c =
    let a = c.args in
    c.lex_before.ensures ∙ next-words a.w a.n a.key a.old.now a.s a.new.now _ c.requires.2 c.if-n-s.false
