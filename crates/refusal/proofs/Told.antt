-- What the checks' answer tells the merge.
use Prim.Native.Nat.{ℕ, ◌<◌}
use mathlib.Core.Path.{◌≡◌, sym, ap, ◌∙◌}
use mathlib.Core.List.{List, [], ◌∷◌}
use lib.Dec.{T}
use lib.ListN.{length, get_or}
use Rattle.model.specs.Sizes.{word_range}
use Rattle.model.specs.Document.{all_rows, all_succs}
use Rattle.model.specs.Answer.{Answer, accepted, refused, is_accepted, ◌otherwise◌}
use Rattle.model.specs.Refusal.{batch_refusal}
use Rattle.model.specs.Calls.{document_in, batch_in}
use Rattle.model.specs.WellFormed.{well_formed}
use Rattle.laws.proofs.Tests.{of-true}
use Rattle.refusal.specs.LentFits.{Lent}
use Rattle.refusal.specs.CheckedBatch.{checked}
use Rattle.refusal.proofs.Defined.{checked-defined}

abbrev values_of : Answer → List ℕ
values_of (accepted values) = values
values_of (refused number place) = []

yes-from : (x : Answer) {vs ws : List ℕ} → accepted vs ≡ (x otherwise accepted ws) → T (is_accepted x) × (vs ≡ ws)
yes-from (accepted v) e = (tt, ap values_of e)
yes-from (refused n p) e = absurd (of-true (sym (ap is_accepted e)))

no-from : (x : Answer) {number place : ℕ} (ws : List ℕ) → refused number place ≡ (x otherwise accepted ws) → x ≡ refused number place
no-from (accepted v) ws e = absurd (of-true (ap is_accepted e))
no-from (refused n p) ws e = sym e

module _ (n : ℕ) (rows : List ℕ) (m : ℕ) (succs : List ℕ) (k : ℕ) (ops : List ℕ) (well : T (well_formed (document_in n rows m succs))) (lent : Lent n rows m succs k ops) (range-rows : (j : ℕ) → get_or rows j 0 < word_range) (range-ops : (j : ℕ) → get_or ops j 0 < word_range) where
  pub refused-is : {number place : ℕ} → refused number place ≡ checked n rows m succs k ops → batch_refusal (document_in n rows m succs) (batch_in k ops) ≡ refused number place
  refused-is e = no-from (batch_refusal (document_in n rows m succs) (batch_in k ops)) _ (e ∙ checked-defined n rows m succs k ops well lent range-rows range-ops)

  told : {a c : ℕ} → accepted (a ∷ c ∷ []) ≡ checked n rows m succs k ops
      → T (is_accepted (batch_refusal (document_in n rows m succs) (batch_in k ops)))
      × (a ∷ c ∷ [] ≡ length (all_rows (document_in n rows m succs) (batch_in k ops)) ∷ length (all_succs (document_in n rows m succs) (batch_in k ops)) ∷ [])
  told e = yes-from (batch_refusal (document_in n rows m succs) (batch_in k ops)) (e ∙ checked-defined n rows m succs k ops well lent range-rows range-ops)

  pub accepted-is : {a c : ℕ} → accepted (a ∷ c ∷ []) ≡ checked n rows m succs k ops → T (is_accepted (batch_refusal (document_in n rows m succs) (batch_in k ops)))
  accepted-is e = (told e).0

  pub accepted-rows : {a c : ℕ} → accepted (a ∷ c ∷ []) ≡ checked n rows m succs k ops → a ≡ length (all_rows (document_in n rows m succs) (batch_in k ops))
  accepted-rows e = ap (λ (l : List ℕ). get_or l 0 0) (told e).1

  pub accepted-succs : {a c : ℕ} → accepted (a ∷ c ∷ []) ≡ checked n rows m succs k ops → c ≡ length (all_succs (document_in n rows m succs) (batch_in k ops))
  accepted-succs e = ap (λ (l : List ℕ). get_or l 1 0) (told e).1
