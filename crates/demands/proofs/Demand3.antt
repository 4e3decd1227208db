-- Courses of merge calls on lent slices, with any words in them, counts 0 and 0 at the start (../specs/CallCourse.antt).
-- THEOREM demand-3: of a course of calls, none refused,
--     one-document    it ends with the counts and the words in use of another such course exactly when both merged the same set of operations
--     every-cutting   every other cutting of its operations (each exactly once, any order) into batches of at most 256 in which what an operation
--                     refers to comes in an earlier batch or its own, on slices of their documented sizes, is accepted too
-- THEOREM calls-end: it ends with the document of all its operations at once, row after row and successor after successor.
-- Sizes are asked only where acceptance is to be shown: a call whose slices have other sizes is refused.
use mathlib.Core.Path.{◌≡◌, sym, ap, subst, ◌∙◌}
use mathlib.Core.Logic.{◌↔◌}
use mathlib.Core.Bool.{Bool, ◌&&◌}
use mathlib.Core.List.{List, [], ◌∷◌, ◌++◌}
use Prim.Native.Nat.{ℕ, ◌*◌}
use native.Mathlib.Omega.{arith}
use lib.ListN.{length}
use lib.Dec.{T, ltb, eqb, ltb→lt, eqb→eq}
use Rattle.model.specs.Basic.{all, concat}
use Rattle.model.specs.Sizes.{op_words, row_words, succ_words, word_range}
use Rattle.model.specs.Document.{Document, empty, merged}
use Rattle.model.specs.Answer.{is_accepted}
use Rattle.model.specs.Calls.{document_in, document_sized, batch_sized}
use Rattle.model.specs.Course.{course, course_accepted, cut_well, shaped, shaped_ops}
use Rattle.laws.proofs.Tests.{T_and}
use Rattle.laws.proofs.Members.{Same, all_append, all_from, all_in}
use Rattle.laws.proofs.Perms.{Perm}
use Rattle.laws.proofs.Pieces.{length-pieces, concat-pieces}
use Rattle.laws.proofs.Laid.{laid_same}
use Rattle.laws.proofs.Shaped.{cut-shaped}
use Rattle.demands.proofs.Courses.{course-ends, same-set-same-document}
use Rattle.demands.proofs.ReadBack.{same-document-same-set}
use Rattle.demands.proofs.Cuttings.{every-cutting-accepted}
use Rattle.demands.proofs.CallSteps.{sized, operations, accepted-sized}
use Rattle.demands.proofs.CallCourses.{Holds, holds-empty, calls-accepted, calls-accept}
use Rattle.demands.specs.CallCourse.{Held, Call, empty_in, back_of, held_after, call_course, call_course_accepted, batches_of, merged_ops, rows_in_use, succs_in_use, sizes_fit, words_fit}

-- ── what is said
-- equal counts and equal words in use
pub record SameEnd (g h : Held) : Type 0 where
  pub counts_rows : g.row_count ≡ h.row_count
  pub succ-count : g.succ_count ≡ h.succ_count
  pub rows : rows_in_use g ≡ rows_in_use h
  pub succs : succs_in_use g ≡ succs_in_use h

pub record Demand3 (rows succs : List ℕ) (cs : List Call) : Type 0 where
  pub one-document : (rows' succs' : List ℕ) (cs' : List Call) → T (words_fit cs') → T (call_course_accepted (empty_in rows' succs') cs')
      → SameEnd (call_course (empty_in rows succs) cs) (call_course (empty_in rows' succs') cs') ↔ Same (merged_ops cs) (merged_ops cs')
  pub every-cutting : (rows' succs' : List ℕ) (cs' : List Call) → T (sizes_fit (empty_in rows' succs') cs') → Perm (merged_ops cs) (merged_ops cs') → T (cut_well [] (batches_of cs'))
      → T (call_course_accepted (empty_in rows' succs') cs')

-- a document as it lies in its slices, and is cut from them again
pub record Lies (h : Held) (d : Document) : Type 0 where
  pub counts_rows : h.row_count ≡ length d.rows
  pub succ-count : h.succ_count ≡ length d.succs
  pub rows : rows_in_use h ≡ concat d.rows
  pub succs : succs_in_use h ≡ concat d.succs
  pub cut : document_in h.row_count h.rows h.succ_count h.succs ≡ d

-- ── what is held lies in its slices
lies : {h : Held} {d : Document} → Holds h d → Lies h d
lies {h} {d} i =
    record {
      counts_rows = sym (length-pieces row_words h.row_count h.rows) ∙ ap length i.rows;
      succ-count = sym (length-pieces succ_words h.succ_count h.succs) ∙ ap length i.succs;
      rows = sym (concat-pieces row_words h.row_count h.rows) ∙ ap concat i.rows;
      succs = sym (concat-pieces succ_words h.succ_count h.succs) ∙ ap concat i.succs;
      cut = λ j. record { rows = i.rows j; succs = i.succs j };
    }

-- and no two documents lie there alike
same_end : {g h : Held} {d e : Document} → Holds g d → Holds h e → SameEnd g h ↔ (d ≡ e)
same_end {g} {h} {d} {e} i j = (to, from)
  where
    p : Lies g d
    p = lies i

    q : Lies h e
    q = lies j

    to : SameEnd g h → d ≡ e
    to s = λ k. record { rows = one-rows k; succs = one-succs k }
      where
        one-rows : d.rows ≡ e.rows
        one-rows =
            laid_same row_words d.rows e.rows i.wide.rows j.wide.rows (sym p.counts_rows ∙ s.counts_rows ∙ q.counts_rows)
            (sym p.rows ∙ s.rows ∙ q.rows)

        one-succs : d.succs ≡ e.succs
        one-succs =
            laid_same succ_words d.succs e.succs i.wide.succs j.wide.succs (sym p.succ-count ∙ s.succ-count ∙ q.succ-count)
            (sym p.succs ∙ s.succs ∙ q.succs)

    from : d ≡ e → SameEnd g h
    from o =
        record {
          counts_rows = p.counts_rows ∙ ap (λ (x : Document). length x.rows) o ∙ sym q.counts_rows;
          succ-count = p.succ-count ∙ ap (λ (x : Document). length x.succs) o ∙ sym q.succ-count;
          rows = p.rows ∙ ap (λ (x : Document). concat x.rows) o ∙ sym q.rows;
          succs = p.succs ∙ ap (λ (x : Document). concat x.succs) o ∙ sym q.succs;
        }

-- ── what is cut from the batches has its shape
shaped-append : (width : ℕ) (a b : List (List ℕ)) → T (shaped width a) → T (shaped width b) → T (shaped width (a ++ b))
unfolding shaped
shaped-append width a b t u =
    let p : List ℕ → Bool = λ ws. eqb (length ws) width && all (λ w. ltb w word_range) ws in
    all_in p (a ++ b) (all_append (λ ws. T (p ws)) a (all_from p a t) (all_from p b u))

ops-shaped : (h : Held) (c : Call) → T (sized h c) → T (all (λ w. ltb w word_range) c.batch) → T (shaped_ops (operations h c))
unfolding batch_sized
ops-shaped h c t u =
    let e = eqb→eq (length c.batch) (c.count * op_words) ((T_and (document_sized h.rows h.succs c.room) (eqb (length c.batch) (c.count * op_words))).0 t).1 in
    cut-shaped op_words c.count c.batch (omega (arith, e)) (λ w m. ltb→lt w word_range (all_from (λ w. ltb w word_range) c.batch u w m))

calls-shaped : (h : Held) (cs : List Call) → T (words_fit cs) → T (call_course_accepted h cs) → T (shaped_ops (merged_ops cs))
calls-shaped h [] f t = unfold shaped in tt
calls-shaped h (c ∷ cs) f t =
    let u = (T_and (is_accepted (back_of h c).answer) (call_course_accepted (held_after h c) cs)).0 t in
    let v = (T_and (all (λ w. ltb w word_range) c.batch) (words_fit cs)).0 f in
    shaped-append op_words (operations h c) (merged_ops cs) (ops-shaped h c (accepted-sized h c u.0) v.0) (calls-shaped (held_after h c) cs v.1 u.1)

-- ── the theorems
module _ (rows succs : List ℕ) (cs : List Call) (f : T (words_fit cs)) (t : T (call_course_accepted (empty_in rows succs) cs)) where
  pub shapes : T (shaped_ops (merged_ops cs))
  shapes = calls-shaped (empty_in rows succs) cs f t

  pub as-course : T (course_accepted empty (batches_of cs)) × Holds (call_course (empty_in rows succs) cs) (course empty (batches_of cs))
  as-course = calls-accepted (empty_in rows succs) empty cs (holds-empty rows succs) t

  pub calls-end : Lies (call_course (empty_in rows succs) cs) (merged empty (merged_ops cs))
  calls-end = lies (subst (Holds (call_course (empty_in rows succs) cs)) (course-ends (batches_of cs) shapes as-course.0) as-course.1)

module _ (rows succs : List ℕ) (cs : List Call) (f : T (words_fit cs)) (t : T (call_course_accepted (empty_in rows succs) cs)) where
  pub demand-3 : Demand3 rows succs cs
  demand-3 =
      record {
        one-document = λ rows' succs' cs' f' t'.
            let s = shapes rows succs cs f t in
            let s' = shapes rows' succs' cs' f' t' in
            let a = as-course rows succs cs f t in
            let a' = as-course rows' succs' cs' f' t' in
            let end = same_end a.1 a'.1 in (
              λ e. same-document-same-set (batches_of cs) (batches_of cs') s s' a.0 a'.0 (end.0 e),
              λ e. end.1 (same-set-same-document (batches_of cs) (batches_of cs') s s' a.0 a'.0 e),
            );
        every-cutting = λ rows' succs' cs' fits p cut.
            calls-accept (empty_in rows' succs') empty cs' (holds-empty rows' succs') fits
            (every-cutting-accepted (batches_of cs) (batches_of cs') (shapes rows succs cs f t) (as-course rows succs cs f t).0 p cut);
      }
