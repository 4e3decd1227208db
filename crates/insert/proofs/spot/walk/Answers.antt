use Rattle.model.specs.Basic.{flag}
use Rattle.model.specs.Row.{id_of, is_insert}
use Rattle.insert.proofs.Walking.{rows_start, rows-turn, walking_start, walking-found, walking-next, walking_ends}
use native.Mathlib.Omega.{arith}
use Prim.Native.Nat.{ℕ, ◌-◌}
use mathlib.Core.Path.{refl, sym, ap, ◌∙◌}
use Rattle.insert.proofs.spot.walk.Goals as goal
use Rattle.insert.proofs.spot.walk.Goals.{then-shows, else-shows, else-loop-place-test, then-loop-place-test+then-is_insert+else-less-eq0, else-walk-test, then-walk-test+then-loop-place-test+then-is_insert+then-less-eq0}

pub walk-init : goal.walk-init
walk-init c = walking_start c.requires.walkable _ c.requires.some

pub loop-place-init : goal.loop-place-init
loop-place-init c = (rows_start c.walk-test.true c.requires.walkable.finish.within c.get-row.ensures c.is_visible-shows.ensures, refl)

pub loop-place-preserved : goal.loop-place-preserved
loop-place-preserved c =
    let i = sym c.is_insert.ensures ∙ c.if-is_insert.false in (
      rows-turn c.loop-place.invariant.0 c.loop-place-test.true c.requires.walkable.finish.within c.get-next.ensures i
          (elim c.if-shows.branch [
            | then-shows w ↦ w.shows-is ∙ rw w.if-shows.true
            | else-shows w ↦ rw w.if-shows.false (w.shows-is ∙ w.is_visible-shows-else-shows.ensures)
          ]),
      c.loop-place.invariant.1,
    )

pub walk-preserved : goal.walk-preserved
walk-preserved c =
    let z = c.less-left.ensures ∙ ap (λ (x : ℕ). x - flag c.loop-place.shows) c.loop-place.invariant.1 in
    let el = c.id-element.ensures ∙ ap id_of c.get-row.ensures in
    elim c.loop-place-test.branch [
      | else-loop-place-test w ↦
          walking-next c.requires.walkable c.walk.invariant c.walk-test.true c.loop-place.invariant.0
          (λ h. absurd (omega (arith, w.loop-place-test.false))) el z (λ h. absurd (omega (arith, w.loop-place-test.false)))
      | then-loop-place-test+then-is_insert+else-less-eq0 w ↦
          walking-next c.requires.walkable c.walk.invariant c.walk-test.true c.loop-place.invariant.0
          (λ h. ap is_insert (sym w.get-next.ensures) ∙ sym w.is_insert.ensures ∙ w.if-is_insert.true) el z (λ h. omega (arith, w.if-less-eq0.false, w.less.ensures, c.less-left.ensures))
    ]

pub returns : goal.returns
returns c =
    c.then_some.ensures
    ∙ elim c.walk-test.branch [
      | else-walk-test w ↦ rw (w.left-is, w.element-is, w.place-is) (walking_ends c.requires.walkable c.walk.invariant w.walk-test.false)
      | then-walk-test+then-loop-place-test+then-is_insert+then-less-eq0 w ↦
          rw (w.left-is, w.element-is, w.place-is)
          (walking-found c.requires.walkable c.walk.invariant w.walk-test.true w.loop-place.invariant.0
          (λ h. ap is_insert (sym w.get-next.ensures) ∙ sym w.is_insert.ensures ∙ w.if-is_insert.true) (w.id-element.ensures ∙ ap id_of w.get-row.ensures)
          (ap (λ (x : ℕ). x - flag w.loop-place.shows) (sym w.loop-place.invariant.1) ∙ sym w.less.ensures ∙ w.if-less-eq0.true))
    ]
