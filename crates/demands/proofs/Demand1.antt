-- THEOREMS merge-demand-1, picture-demand-1, spot-demand-1: for every input of an exported call, whatever the lengths and words of the slices and
-- whatever is claimed,
--     exists, only       there is an outcome that meets the contract, and it is the only one
--     refused-keeps      a refusal (any answer but 0) leaves document, batch, clock and output as they were
--     room-zero          the working room is zero after every answer but 1
--     misfit-keeps       after the answer 1 nothing lent has changed, not even the room
--     short-answer       a slice for the answer that has not three words is answered with 1 alone, and it too is as it was
use mathlib.Core.Path.{◌≡◌, refl}
use mathlib.Core.Bool.{Bool, true, false, not, cond, ◌&&◌}
use mathlib.Core.List.{List, [], ◌∷◌, ◌++◌}
use Prim.Native.Nat.{ℕ}
use lib.ListN.{length, take, drop, replicate}
use lib.Seq.{take-append_seam, drop-append_seam, drop_at}
use lib.Dec.{T, eqb, eqb→eq}
use Rattle.model.specs.Sizes.{answer_width}
use Rattle.model.specs.Document.{Document, merged}
use Rattle.model.specs.Picture.{picture}
use Rattle.model.specs.Answer.{Answer, accepted, refused, ◌otherwise◌}
use Rattle.model.specs.Calls.{MergeBack, PictureBack, SpotBack, document_in, batch_in, document_sized, batch_sized, clock_sized, out_sized, claim_refusal, document_refusal, merge_refusal, spot_answer, over, misfit, merge_end, merge_call, picture_end, picture_call, spot_call}
use Rattle.model.specs.Exports.{Exported, number_of, answer_words, answer_sized, exported, merge_exported, picture_exported, spot_exported}
use Rattle.laws.proofs.Tests.{split}
use Rattle.demands.proofs.RefusalNumbers.{NotOne, accepted-not-one, merge-not-one, picture-not-one, spot-not-one}

-- What is asked of a call: `meets` is its contract, `kept` are the slices that it is lent before its room, as they were.
pub record Demand1 (meets : Exported → Type 0) (kept : List (List ℕ)) (room answer : List ℕ) : Type 0 where
  pub outcome : Exported
  pub exists : meets outcome
  pub only : (other : Exported) → meets other → other ≡ outcome
  pub refused-keeps : (outcome.returned ≡ 0 → ⊥) → take (length kept) outcome.lent ≡ kept
  pub room-zero : (outcome.returned ≡ 1 → ⊥) → drop (length kept) outcome.lent ≡ replicate (length room) 0 ∷ []
  pub misfit-keeps : outcome.returned ≡ 1 → outcome.lent ≡ kept ++ room ∷ []
  pub short-answer : (length answer ≡ answer_width → ⊥) → (outcome.returned ≡ 1) × (outcome.answer ≡ answer)

-- ── how a call ends
-- the answer, and what is lent, as it is at the end
pub record Ended (given : Answer) (kept : List (List ℕ)) (room : List ℕ) (after : List (List ℕ)) : Type 0 where
  pub refused-keeps : (number_of given ≡ 0 → ⊥) → take (length kept) after ≡ kept
  pub room-zero : (number_of given ≡ 1 → ⊥) → drop (length kept) after ≡ replicate (length room) 0 ∷ []
  pub misfit-keeps : number_of given ≡ 1 → after ≡ kept ++ room ∷ []

-- of an end to the demand: the layer that writes the answer's words
told : (answer : List ℕ) (given : Answer) (kept : List (List ℕ)) (room : List ℕ) (after : List (List ℕ)) → Ended given kept room after
    → Demand1 (λ back. back ≡ exported answer given (kept ++ room ∷ []) after) kept room answer
unfolding exported answer_sized
told answer given kept room after end = go (eqb (length answer) answer_width) (eqb→eq (length answer) answer_width)
  where
    untold : Exported
    untold = record { returned = 1; answer = answer; lent = kept ++ room ∷ [] }

    words : Exported
    words = record { returned = number_of given; answer = answer_words given; lent = after }

    go : (sized : Bool) → (T sized → length answer ≡ answer_width) → Demand1 (λ back. back ≡ cond (not sized) untold words) kept room answer
    go true three =
        record {
          outcome = words;
          exists = refl;
          only = λ other e. e;
          refused-keeps = end.refused-keeps;
          room-zero = end.room-zero;
          misfit-keeps = end.misfit-keeps;
          short-answer = λ ne. absurd (ne (three tt));
        }
    go false three =
        record {
          outcome = untold;
          exists = refl;
          only = λ other e. e;
          refused-keeps = λ r. take-append_seam kept (room ∷ []);
          room-zero = λ r. absurd (r refl);
          misfit-keeps = λ e. refl;
          short-answer = λ ne. (refl, refl);
        }

-- sizes that do not fit: nothing is touched
unfit : (kept : List (List ℕ)) (room : List ℕ) → Ended misfit kept room (kept ++ room ∷ [])
unfolding number_of
unfit kept room =
    record { refused-keeps = λ r. take-append_seam kept (room ∷ []); room-zero = λ r. absurd (r refl); misfit-keeps = λ e. refl }

-- a check refuses, or the call answers without a write: only the room is zero
unwritten : (given : Answer) → NotOne given → (kept : List (List ℕ)) (room : List ℕ) → Ended given kept room (kept ++ replicate (length room) 0 ∷ [])
unwritten given other kept room =
    record {
      refused-keeps = λ r. take-append_seam kept (replicate (length room) 0 ∷ []);
      room-zero = λ r. drop-append_seam kept (replicate (length room) 0 ∷ []);
      misfit-keeps = λ e. absurd (other e);
    }

-- accepted, and something is written: what it is does not matter here
written : (values : List ℕ) (kept new : List (List ℕ)) (room : List ℕ) → length new ≡ length kept → Ended (accepted values) kept room (new ++ replicate (length room) 0 ∷ [])
unfolding number_of
written values kept new room e =
    record {
      refused-keeps = λ r. absurd (r refl);
      room-zero = λ r. drop_at new (replicate (length room) 0 ∷ []) (length kept) e;
      misfit-keeps = λ one. absurd (accepted-not-one values one);
    }

-- ── the merge
module _ (n : ℕ) (rows : List ℕ) (m : ℕ) (succs : List ℕ) (k : ℕ) (batch room : List ℕ) where
  abbrev MergeEnded : MergeBack → Type 0
  MergeEnded back = Ended back.answer (rows ∷ succs ∷ batch ∷ []) room (back.rows ∷ back.succs ∷ back.batch ∷ back.room ∷ [])

  merge-end : (given : Answer) → NotOne given → (new : Document) → MergeEnded (merge_end given new rows succs batch room)
  merge-end (refused number place) other new = unwritten (refused number place) other (rows ∷ succs ∷ batch ∷ []) room
  merge-end (accepted values) other new =
      written (length new.rows ∷ length new.succs ∷ []) (rows ∷ succs ∷ batch ∷ []) (over rows new.rows ∷ over succs new.succs ∷ batch ∷ []) room refl

  merge-ended : MergeEnded (merge_call n rows m succs k batch room)
  unfolding merge_call
  merge-ended =
      let d = document_in n rows m succs in
      let b = batch_in k batch in
      split MergeEnded (not (document_sized rows succs room && batch_sized k batch)) (λ t. unfit (rows ∷ succs ∷ batch ∷ []) room)
      (λ t. merge-end (claim_refusal n m otherwise merge_refusal d b) (merge-not-one n m d b) (merged d b))

  pub merge-demand-1 : (answer : List ℕ) → Demand1 (λ back. back ≡ merge_exported n rows m succs k batch room answer) (rows ∷ succs ∷ batch ∷ []) room answer
  unfolding merge_exported
  merge-demand-1 answer =
      let b = merge_call n rows m succs k batch room in
      told answer b.answer (rows ∷ succs ∷ batch ∷ []) room (b.rows ∷ b.succs ∷ b.batch ∷ b.room ∷ []) merge-ended

-- ── the picture
module _ (n : ℕ) (rows : List ℕ) (m : ℕ) (succs clock out room : List ℕ) where
  abbrev PictureEnded : PictureBack → Type 0
  PictureEnded back = Ended back.answer (rows ∷ succs ∷ clock ∷ out ∷ []) room (back.rows ∷ back.succs ∷ back.clock ∷ back.out ∷ back.room ∷ [])

  picture-end : (given : Answer) → NotOne given → (shown : List (List ℕ)) → PictureEnded (picture_end given shown rows succs clock out room)
  picture-end (refused number place) other shown = unwritten (refused number place) other (rows ∷ succs ∷ clock ∷ out ∷ []) room
  picture-end (accepted values) other shown = written (length shown ∷ []) (rows ∷ succs ∷ clock ∷ out ∷ []) (rows ∷ succs ∷ clock ∷ over out shown ∷ []) room refl

  picture-ended : PictureEnded (picture_call n rows m succs clock out room)
  unfolding picture_call
  picture-ended =
      let d = document_in n rows m succs in
      split PictureEnded (not (document_sized rows succs room && clock_sized clock && out_sized n out)) (λ t. unfit (rows ∷ succs ∷ clock ∷ out ∷ []) room)
      (λ t. picture-end (claim_refusal n m otherwise document_refusal d) (picture-not-one n m d) (picture clock d))

  pub picture-demand-1 : (answer : List ℕ) → Demand1 (λ back. back ≡ picture_exported n rows m succs clock out room answer) (rows ∷ succs ∷ clock ∷ out ∷ []) room answer
  unfolding picture_exported
  picture-demand-1 answer =
      let b = picture_call n rows m succs clock out room in
      told answer b.answer (rows ∷ succs ∷ clock ∷ out ∷ []) room (b.rows ∷ b.succs ∷ b.clock ∷ b.out ∷ b.room ∷ []) picture-ended

-- ── the spot
module _ (n : ℕ) (rows : List ℕ) (m : ℕ) (succs clock : List ℕ) (object target : ℕ) (room : List ℕ) where
  abbrev SpotEnded : SpotBack → Type 0
  SpotEnded back = Ended back.answer (rows ∷ succs ∷ clock ∷ []) room (back.rows ∷ back.succs ∷ back.clock ∷ back.room ∷ [])

  spot-ended : SpotEnded (spot_call n rows m succs clock object target room)
  unfolding spot_call
  spot-ended =
      let d = document_in n rows m succs in
      split SpotEnded (not (document_sized rows succs room && clock_sized clock)) (λ t. unfit (rows ∷ succs ∷ clock ∷ []) room)
      (λ t. unwritten (claim_refusal n m otherwise spot_answer clock d object target) (spot-not-one n m clock d object target) (rows ∷ succs ∷ clock ∷ []) room)

  pub spot-demand-1 : (answer : List ℕ) → Demand1 (λ back. back ≡ spot_exported n rows m succs clock object target room answer) (rows ∷ succs ∷ clock ∷ []) room answer
  unfolding spot_exported
  spot-demand-1 answer =
      let b = spot_call n rows m succs clock object target room in
      told answer b.answer (rows ∷ succs ∷ clock ∷ []) room (b.rows ∷ b.succs ∷ b.clock ∷ b.room ∷ []) spot-ended
