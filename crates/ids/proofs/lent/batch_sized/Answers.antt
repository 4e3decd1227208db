use native.Mathlib.Omega.{arith}
use mathlib.Core.Path.{◌≡◌, sym, ◌∙◌}
use mathlib.Core.Bool.{false}
use Prim.Native.Nat.{ℕ, ◌*◌, ◌/◌, ◌%◌}
use borrow.Author.Tests.{eq-eqb, ne_eqb}
use lib.Dec.{eqb}
use lib.ListN.{length}
use Rattle.model.specs.Sizes.{op_words}
use Rattle.model.specs.Calls.{batch_sized}
use Rattle.laws.proofs.Tests.{by-eq}
use Rattle.ids.proofs.lent.batch_sized.Goals as goal

ragged : (l k : ℕ) → (l % op_words ≡ 0 → ⊥) → eqb l (k * op_words) ≡ false
ragged l k ne = ne_eqb l (k * op_words) (λ e. ne (omega arith))

divided : (l k : ℕ) → l % op_words ≡ 0 → eqb (l / op_words) k ≡ eqb l (k * op_words)
divided l k e =
    by-eq (l / op_words) k (λ q. eq-eqb (l / op_words) k q ∙ sym (eq-eqb l (k * op_words) (omega arith)))
    (λ ne. ne_eqb (l / op_words) k ne ∙ sym (ne_eqb l (k * op_words) (λ q. ne (omega arith))))

pub returns-then-batch-eq0 : goal.returns-then-batch-eq0
unfolding batch_sized
returns-then-batch-eq0 c = divided (length c.args.batch.now) c.args.k c.if-batch-eq0.true

pub returns-else-batch-eq0 : goal.returns-else-batch-eq0
unfolding batch_sized
returns-else-batch-eq0 c = ne_eqb _ _ c.if-batch-eq0.false ∙ sym (ragged (length c.args.batch.now) c.args.k c.if-batch-eq0.false)
