-- What the check's answer means to a call: refusal 2 is given exactly where it is false, and a document that passes is formed.
use Rattle.std.specs.Prelude.{if◌then◌else◌}
use Prim.Native.Nat.{ℕ}
use mathlib.Core.Path.{◌≡◌, refl, ap, ◌∙◌}
use mathlib.Core.Bool.{Bool, true, false, not, ◌&&◌, ◌||◌}
use mathlib.Core.List.{List, []}
use lib.Dec.{ltb}
use Rattle.model.specs.Sizes.{max_rows, max_succs}
use Rattle.model.specs.Answer.{Answer, accepted, refused, ◌otherwise◌, refuse}
use Rattle.model.specs.Calls.{document_in, document_sized, cleared, claim_refusal, document_refusal}
use Rattle.model.specs.WellFormed.{well_formed}
use Rattle.laws.proofs.Tests.{T_and, by-test, of-true, is_true, is_false}
use Rattle.laws.proofs.Formed.{formed}
use Rattle.wellformed.specs.Document.{CheckBack, fits_claims, back, check_call}

both : (over formed : Bool) (next : Answer) → (refuse 2 over otherwise refuse 2 (not formed) otherwise next) ≡ (if not over && formed then next else refused 2 0)
both true formed next = refl
both false true next = refl
both false false next = refl

alone : (over formed : Bool) → (refuse 2 over otherwise refuse 2 (not formed)) ≡ (if not over && formed then accepted [] else refused 2 0)
alone true formed = refl
alone false true = refl
alone false false = refl

module _ (n : ℕ) (rows : List ℕ) (m : ℕ) (succs : List ℕ) where
  pub refusal-2 : (next : Answer) → (claim_refusal n m otherwise document_refusal (document_in n rows m succs) otherwise next) ≡ (if fits_claims n rows m succs then next else refused 2 0)
  unfolding claim_refusal document_refusal fits_claims
  refusal-2 next = both (ltb max_rows n || ltb max_succs m) (well_formed (document_in n rows m succs)) next

  -- where nothing else is checked
  pub refusal-2-alone : (claim_refusal n m otherwise document_refusal (document_in n rows m succs)) ≡ (if fits_claims n rows m succs then accepted [] else refused 2 0)
  unfolding claim_refusal document_refusal fits_claims
  refusal-2-alone = alone (ltb max_rows n || ltb max_succs m) (well_formed (document_in n rows m succs))

  pub fits-limits : fits_claims n rows m succs ≡ true → (ltb max_rows n || ltb max_succs m) ≡ false
  unfolding fits_claims
  fits-limits e =
      let over = ltb max_rows n || ltb max_succs m in
      by-test over (λ t. absurd (of-true (rw (is_true over t) at e))) (λ t. is_false over t)

  pub fits-well : fits_claims n rows m succs ≡ true → well_formed (document_in n rows m succs) ≡ true
  unfolding fits_claims
  fits-well e =
      let d = document_in n rows m succs in
      is_true (well_formed d) ((T_and (not (ltb max_rows n || ltb max_succs m)) (well_formed d)).0 (of-true e)).1

  -- what the check tells a call whose slices fit, and what it leaves of the room
  module _ (room : List ℕ) {left : List ℕ} {answer : Bool} (sized : document_sized rows succs room ≡ true) (e : back answer left ≡ check_call n rows m succs room) where
    checked : back answer left ≡ back (fits_claims n rows m succs) (cleared room)
    unfolding check_call
    checked = e ∙ rw sized

    pub tells : answer ≡ fits_claims n rows m succs
    tells = ap (λ (b : CheckBack). b.answer) checked

    pub leaves : left ≡ cleared room
    leaves = ap (λ (b : CheckBack). b.room) checked
