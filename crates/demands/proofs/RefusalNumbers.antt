-- No check but that of the sizes answers 1: who gets 1 knows that nothing was touched.
use mathlib.Core.Path.{◌≡◌}
use mathlib.Core.Bool.{Bool, true, false, not, cond, ◌&&◌, ◌||◌}
use mathlib.Core.List.{List, [], ◌∷◌, ◌++◌}
use Prim.Native.Nat.{ℕ}
use native.Mathlib.Omega.{arith}
use lib.Dec.{ltb}
use lib.ListN.{length}
use Rattle.model.specs.Sizes.{max_rows, max_succs, max_batch}
use Rattle.model.specs.Row.{Op}
use Rattle.model.specs.Document.{Document, all_rows}
use Rattle.model.specs.Answer.{Answer, accepted, refused, ◌otherwise◌, refuse, refuse_after, refuse_op}
use Rattle.model.specs.Malformed.{row_fits, preds_fit}
use Rattle.model.specs.Refusal.{id_taken, object_fits, element_fits, preds_exist, too_many, batch_refusal}
use Rattle.model.specs.WellFormed.{well_formed}
use Rattle.model.specs.Order.{elements}
use Rattle.model.specs.Spot.{is_list_of, width, widths, spot_element, spot_place, spot_refusal}
use Rattle.model.specs.Calls.{claim_refusal, document_refusal, merge_refusal, spot_answer}
use Rattle.model.specs.Exports.{number_of}

-- accepted, or refused with another number
abbrev pub NotOne : Answer → Type 0
NotOne a = number_of a ≡ 1 → ⊥

pub accepted-not-one : (values : List ℕ) → NotOne (accepted values)
unfolding number_of
accepted-not-one values e = omega (arith, e)

refused-not-one : (number place : ℕ) → (number ≡ 1 → ⊥) → NotOne (refused number place)
unfolding number_of
refused-not-one number place ne = ne

otherwise-not-one : (a b : Answer) → NotOne a → NotOne b → NotOne (a otherwise b)
otherwise-not-one (accepted values) b p q = q
otherwise-not-one (refused number place) b p q = p

-- one check, of the whole or of each operation
module _ (number : ℕ) (ne : number ≡ 1 → ⊥) where
  whole : (fails : Bool) → NotOne (refuse number fails)
  whole true = refused-not-one number 0 ne
  whole false = accepted-not-one []

  after : (fails : List Op → Op → Bool) (earlier b : List Op) → NotOne (refuse_after earlier number fails b)
  after fails earlier [] = accepted-not-one []
  after fails earlier (o ∷ os) = go (fails earlier o) (after fails (earlier ++ o ∷ []) os)
    where
      go : (t : Bool) → NotOne (refuse_after (earlier ++ o ∷ []) number fails os) → NotOne (cond t (refused number (length earlier)) (refuse_after (earlier ++ o ∷ []) number fails os))
      go true rest = refused-not-one number (length earlier) ne
      go false rest = rest

  each : (fails : List Op → Op → Bool) (b : List Op) → NotOne (refuse_op number fails b)
  each fails b = after fails [] b

-- ── the calls' checks behind that of the sizes
pub claim-not-one : (n m : ℕ) → NotOne (claim_refusal n m)
unfolding claim_refusal
claim-not-one n m = whole 2 (λ e. omega (arith, e)) (ltb max_rows n || ltb max_succs m)

pub document-not-one : (d : Document) → NotOne (document_refusal d)
unfolding document_refusal
document-not-one d = whole 2 (λ e. omega (arith, e)) (not (well_formed d))

batch-not-one : (d : Document) (b : List Op) → NotOne (batch_refusal d b)
unfolding batch_refusal
batch-not-one d b =
    let rs = all_rows d b in
    let c4 = refuse_op 4 (λ earlier o. not (row_fits o && preds_fit o)) b in
    let c5 = refuse_op 5 (id_taken d) b in
    let c6 = refuse_op 6 (λ earlier o. not (object_fits rs o)) b in
    let c7 = refuse_op 7 (λ earlier o. not (element_fits rs o)) b in
    let c8 = refuse_op 8 (λ earlier o. not (preds_exist rs o)) b in
    let c9 = refuse 9 (too_many d b) in
    otherwise-not-one (refuse 3 (ltb max_batch (length b))) (c4 otherwise c5 otherwise c6 otherwise c7 otherwise c8 otherwise c9) (whole 3 (λ e. omega (arith, e)) (ltb max_batch (length b)))
    (otherwise-not-one c4 (c5 otherwise c6 otherwise c7 otherwise c8 otherwise c9) (each 4 (λ e. omega (arith, e)) (λ earlier o. not (row_fits o && preds_fit o)) b)
    (otherwise-not-one c5 (c6 otherwise c7 otherwise c8 otherwise c9) (each 5 (λ e. omega (arith, e)) (id_taken d) b)
    (otherwise-not-one c6 (c7 otherwise c8 otherwise c9) (each 6 (λ e. omega (arith, e)) (λ earlier o. not (object_fits rs o)) b)
    (otherwise-not-one c7 (c8 otherwise c9) (each 7 (λ e. omega (arith, e)) (λ earlier o. not (element_fits rs o)) b)
    (otherwise-not-one c8 c9 (each 8 (λ e. omega (arith, e)) (λ earlier o. not (preds_exist rs o)) b)
    (whole 9 (λ e. omega (arith, e)) (too_many d b)))))))

pub merge-not-one : (n m : ℕ) (d : Document) (b : List Op) → NotOne (claim_refusal n m otherwise merge_refusal d b)
unfolding merge_refusal
merge-not-one n m d b =
    otherwise-not-one (claim_refusal n m) (document_refusal d otherwise batch_refusal d b) (claim-not-one n m)
    (otherwise-not-one (document_refusal d) (batch_refusal d b) (document-not-one d) (batch-not-one d b))

pub picture-not-one : (n m : ℕ) (d : Document) → NotOne (claim_refusal n m otherwise document_refusal d)
picture-not-one n m d = otherwise-not-one (claim_refusal n m) (document_refusal d) (claim-not-one n m) (document-not-one d)

spot-refusal-not-one : (clock : List ℕ) (d : Document) (object target : ℕ) → NotOne (spot_refusal clock d object target)
unfolding spot_refusal
spot-refusal-not-one clock d object target =
    let above = ltb (widths (width clock d object) (elements d.rows object)) target in
    otherwise-not-one (refuse 12 (not (is_list_of d object))) (refuse 10 above) (whole 12 (λ e. omega (arith, e)) (not (is_list_of d object))) (whole 10 (λ e. omega (arith, e)) above)

pub spot-not-one : (n m : ℕ) (clock : List ℕ) (d : Document) (object target : ℕ) → NotOne (claim_refusal n m otherwise spot_answer clock d object target)
unfolding spot_answer
spot-not-one n m clock d object target =
    let e = spot_element clock d object target in
    let found = accepted (e ∷ spot_place d object e ∷ []) in
    otherwise-not-one (claim_refusal n m) (document_refusal d otherwise spot_refusal clock d object target otherwise found) (claim-not-one n m)
    (otherwise-not-one (document_refusal d) (spot_refusal clock d object target otherwise found) (document-not-one d)
    (otherwise-not-one (spot_refusal clock d object target) found (spot-refusal-not-one clock d object target) (accepted-not-one (e ∷ spot_place d object e ∷ []))))
