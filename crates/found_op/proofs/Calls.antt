-- The picture's call is the definition's: slices that do not fit, a document that is not well-formed, and the pass over the rows.
use mathlib.Core.Path.{◌≡◌, sym, ap, ◌∙◌}
use mathlib.Core.Bool.{Bool, true, false, ◌&&◌}
use mathlib.Core.List.{List, [], ◌∷◌}
use Prim.Native.Nat.{ℕ, ◌*◌, ◌≤◌, ◌<◌}
use native.Mathlib.Omega.{arith}
use lib.Dec.{eqb, eqb→eq}
use lib.ListN.{length, get_or}
use borrow.Author.Tests.{le-ltb, leb-true}
use Rattle.model.specs.Basic.{pieces}
use Rattle.model.specs.Sizes.{max_rows, max_succs, row_words, succ_words, entry_words, room_words, word_range}
use Rattle.model.specs.Answer.{refused, accepted}
use Rattle.model.specs.Calls.{document_in, document_sized, clock_sized, out_sized, cleared, picture_call}
use Rattle.model.specs.Picture.{picture}
use Rattle.laws.proofs.Tests.{T_and, of-true, is_true}
use Rattle.laws.proofs.Members.{All}
use Rattle.laws.proofs.Pieces.{length-pieces}
use Rattle.ids.proofs.ByIndex.{whole_row}
use Rattle.ids.proofs.KeyWords.{Whole}
use Rattle.ids.proofs.Ranges.{range-mem}
use Rattle.wellformed.specs.Document.{fits_claims, back as checked, check_call}
use Rattle.wellformed.proofs.Whole.{within}
use Rattle.wellformed.proofs.Refusal.{refusal-2-alone, fits-limits, fits-well, tells, leaves}
use Rattle.found_op.specs.Answers.{back}
use Rattle.found_op.specs.Page.{Page, page, shown}
use Rattle.found_op.specs.Showable.{Showable}

module _ (n : ℕ) (rows : List ℕ) (m : ℕ) (succs clock out room : List ℕ) where
  abbrev pub sized : Bool
  sized = document_sized rows succs room && clock_sized clock && out_sized n out

  pub misfit_is : {number place : ℕ} → sized ≡ false → number ≡ 1 → place ≡ 0 → back (refused number place) rows succs clock out room ≡ picture_call n rows m succs clock out room
  unfolding picture_call
  misfit_is e f g = rw (e, f, g)

  module _ (e : sized ≡ true) {left : List ℕ} {answer : Bool} (a : checked answer left ≡ check_call n rows m succs room) where
    documents : document_sized rows succs room ≡ true
    documents =
        let u = (T_and (document_sized rows succs room && clock_sized clock) (out_sized n out)).0 (of-true e) in
        is_true (document_sized rows succs room) ((T_and (document_sized rows succs room) (clock_sized clock)).0 u.0).0

    told : answer ≡ fits_claims n rows m succs
    told = tells n rows m succs room documents a

    left-is : left ≡ cleared room
    left-is = leaves n rows m succs room documents a

    pub unformed_is : {number place : ℕ} → answer ≡ false → number ≡ 2 → place ≡ 0 → back (refused number place) rows succs clock out left ≡ picture_call n rows m succs clock out room
    unfolding picture_call
    unformed_is f g h = rw (g, h, e, left-is, refusal-2-alone n rows m succs, sym told ∙ f)

    module _ (t : answer ≡ true) where
      fits : fits_claims n rows m succs ≡ true
      fits = sym told ∙ t

      pub shown-is : {new : List ℕ} {k : ℕ} → page new k ≡ shown (picture clock (document_in n rows m succs)) out → back (accepted (k ∷ [])) rows succs clock new left ≡ picture_call n rows m succs clock out room
      unfolding picture_call
      shown-is q = ap (λ (p : Page). back (accepted (p.count ∷ [])) rows succs clock p.out left) q ∙ rw (e, left-is, refusal-2-alone n rows m succs, fits)

      few : n ≤ max_rows
      few = (within n m (fits-limits n rows m succs fits)).0

      long : n * row_words ≤ length rows
      unfolding document_sized max_rows
      long =
          let b = eqb (length rows) (max_rows * row_words) in
          let c = eqb (length succs) (max_succs * succ_words) in
          let u = (T_and (b && c) (eqb (length room) room_words)).0 (of-true documents) in
          let r = eqb→eq (length rows) (max_rows * row_words) ((T_and b c).0 u.0).0 in
          let h = few in
          omega arith

      holds : n * entry_words ≤ length out
      unfolding out_sized
      holds =
          let u = (T_and (document_sized rows succs room && clock_sized clock) (out_sized n out)).0 (of-true e) in
          leb-true (n * entry_words) (length out) (rw (le-ltb max_rows n few) at (is_true (out_sized n out) u.1))

      whole : ((k : ℕ) → get_or rows k 0 < word_range) → All Whole (pieces row_words n rows)
      whole r x i =
          let j = range-mem row_words rows 0 n i in
          let l = long in
          rw j.3 (whole_row rows j.0 (omega (arith, j.2)) r)

      pub showable : ((k : ℕ) → get_or rows k 0 < word_range) → {ps qs : List (List ℕ)} → ps ≡ pieces row_words n rows → qs ≡ pieces succ_words m succs → Showable ps qs out
      showable r f g = rw (f, g) record { whole = whole r; formed = fits-well n rows m succs fits; holds = rw (length-pieces row_words n rows) holds }
