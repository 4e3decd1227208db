-- One call of a course: when it is accepted, and that what it leaves is the merged document.
use mathlib.Core.Path.{◌≡◌, refl, sym, ap, subst, ◌∙◌}
use mathlib.Core.Bool.{Bool, true, false, not, ◌&&◌}
use mathlib.Core.List.{List}
use Prim.Native.Nat.{ℕ}
use native.Mathlib.Omega.{arith}
use lib.ListN.{length, length-take}
use lib.Dec.{T}
use Rattle.model.specs.Basic.{any}
use Rattle.model.specs.Sizes.{row_words, succ_words}
use Rattle.model.specs.Row.{Row, Op, Succ, is_increment, is_counter, rows_with}
use Rattle.model.specs.Document.{Document, all_rows, entry, merged}
use Rattle.model.specs.Answer.{Answer, accepted, refused, is_accepted, ◌otherwise◌}
use Rattle.model.specs.Calls.{MergeBack, document_in, batch_in, document_sized, batch_sized, claim_refusal, merge_refusal, over, merge_end, merge_call}
use Rattle.laws.proofs.Tests.{split, is_true}
use Rattle.laws.proofs.Members.{All}
use Rattle.laws.proofs.Accepted.{otherwise-accepted}
use Rattle.laws.proofs.Together.{on_row}
use Rattle.demands.proofs.MergedRows.{row_out, on-succ, succ-out}
use Rattle.demands.proofs.Courses.{Full}
use Rattle.demands.specs.CallCourse.{Held, Call, back_of, held_of, held_after}

-- ── widths
-- each row and each successor has its width
pub record Widths (d : Document) : Type 0 where
  pub rows : All (λ r. length r ≡ row_words) d.rows
  pub succs : All (λ s. length s ≡ succ_words) d.succs

entry-wide : (rs : List Row) (o : Op) (p : ℕ) → length (entry rs o p) ≡ succ_words
unfolding entry
entry-wide rs o p = split (λ (s : Succ). length s ≡ succ_words) (is_increment o && any is_counter (rows_with rs p)) (λ t. refl) (λ t. refl)

pub merged-widths : (d : Document) (b : List Op) → Widths d → Full b → Widths (merged d b)
merged-widths d b w full =
    record {
      rows = λ r m. on_row d b (row_out d b m) (w.rows r) (λ o i t e. ap length e ∙ length-take row_words o ∙ omega (arith, full o i));
      succs = λ s m. on-succ d b (succ-out d b m) (w.succs s) (λ o p i j e. ap length e ∙ entry-wide (all_rows d b) o p);
    }

-- ── when a call is accepted
module _ (h : Held) (c : Call) where
  abbrev pub document : Document
  document = document_in h.row_count h.rows h.succ_count h.succs

  abbrev pub operations : List Op
  operations = batch_in c.count c.batch

  abbrev pub sized : Bool
  sized = document_sized h.rows h.succs c.room && batch_sized c.count c.batch

  abbrev verdict : Answer
  verdict = claim_refusal h.row_count h.succ_count otherwise merge_refusal document operations

  abbrev end : Answer → MergeBack
  end a = merge_end a (merged document operations) h.rows h.succs c.batch c.room

  end-accepted : (a : Answer) → is_accepted (end a).answer ≡ is_accepted a
  end-accepted (accepted values) = refl
  end-accepted (refused number place) = refl

  when-sized : T sized → back_of h c ≡ end verdict
  unfolding merge_call
  when-sized t = rw (is_true sized t)

  pub accepted-sized : T (is_accepted (back_of h c).answer) → T sized
  unfolding merge_call
  accepted-sized = split (λ (back : MergeBack). T (is_accepted back.answer) → T sized) (not sized) (λ t a. absurd a) (λ t a. positive sized t)
    where
      positive : (b : Bool) → T (not (not b)) → T b
      positive true t = tt
      positive false t = t

  pub accepted-both : T (is_accepted (back_of h c).answer) → T (is_accepted (claim_refusal h.row_count h.succ_count)) × T (is_accepted (merge_refusal document operations))
  accepted-both t =
      (otherwise-accepted (claim_refusal h.row_count h.succ_count) (merge_refusal document operations)).0
      (subst T (ap (λ (back : MergeBack). is_accepted back.answer) (when-sized (accepted-sized t)) ∙ end-accepted verdict) t)

  pub call-accepts : T sized → T (is_accepted (claim_refusal h.row_count h.succ_count)) → T (is_accepted (merge_refusal document operations)) → T (is_accepted (back_of h c).answer)
  call-accepts t claims merges =
      subst T (sym (ap (λ (back : MergeBack). is_accepted back.answer) (when-sized t) ∙ end-accepted verdict))
      ((otherwise-accepted (claim_refusal h.row_count h.succ_count) (merge_refusal document operations)).1 (claims, merges))

  -- what it leaves
  abbrev pub left : Held
  left =
      record {
        row_count = length (merged document operations).rows;
        rows = over h.rows (merged document operations).rows;
        succ_count = length (merged document operations).succs;
        succs = over h.succs (merged document operations).succs;
      }

  pub accepted-leaves : T (is_accepted (back_of h c).answer) → held_after h c ≡ left
  accepted-leaves t =
      let both = (otherwise-accepted (claim_refusal h.row_count h.succ_count) (merge_refusal document operations)).1 (accepted-both t) in
      ap (held_of h) (when-sized (accepted-sized t)) ∙ go verdict both
    where
      go : (a : Answer) → T (is_accepted a) → held_of h (end a) ≡ left
      go (accepted values) u = refl
      go (refused number place) u = absurd u
