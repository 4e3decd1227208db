use mathlib.Core.Path.{ap₂, ◌∙◌}
use mathlib.Core.List.{◌++◌}
use Prim.Native.Nat.{ℕ, ◌-◌}
use Rattle.batch.specs.Walk.{fall, stacked}
use Rattle.batch.proofs.walk_list.open_element.Goals as goal

pub returns : goal.returns
returns c =
    let a = c.args in
    let q = c.lower-end.ensures in
    let r = c.lower-last.ensures in (
      c.lower-first.ensures,
      q,
      c.push.ensures.0 ∙ ap₂ (λ (i j : ℕ). fall i (j - i) ++ stacked a.stack.now a.depth) q r,
      c.push.ensures.1,
    )
