-- THEOREM course-ends: a course of batches from the empty document, none refused, ends in the document of all its operations at once.
-- THEOREM same-set-same-document: two such courses with the same set of operations end in the same rows and successors.
use mathlib.Core.Path.{◌≡◌, refl, sym, ap, subst, ◌∙◌}
use mathlib.Core.Bool.{Bool, not}
use mathlib.Core.List.{List, [], ◌∷◌, ◌++◌, map, append_assoc, append-nil}
use Prim.Native.Nat.{◌≤◌}
use native.Mathlib.Omega.{arith}
use lib.ListN.{length}
use lib.Dec.{T}
use Rattle.model.specs.Basic.{concat}
use Rattle.model.specs.Sizes.{max_batch, op_words}
use Rattle.model.specs.Row.{Row, Op, id_of, is_delete, row_of, preds_of}
use Rattle.model.specs.Document.{Document, empty, new_rows, all_rows, entry, new_succs, all_succs, succ_before, merged}
use Rattle.model.specs.Answer.{is_accepted}
use Rattle.model.specs.Refusal.{batch_refusal}
use Rattle.model.specs.WellFormed.{well_formed}
use Rattle.model.specs.Calls.{document_refusal, merge_refusal}
use Rattle.model.specs.Course.{course, course_accepted, shaped_ops}
use Rattle.model.specs.Rules.{computes}
use Rattle.laws.proofs.Tests.{T_and}
use Rattle.laws.proofs.Members.{not-nil, All, Same, append_left, append_right, all_append}
use Rattle.laws.proofs.Pairs.{key-distinct-nodup}
use Rattle.laws.proofs.Perms.{Perm, perm-filter, perm-map, perm-concat_map, perm-trans, perm-eq, perm_same, sort-perm, nodup-same-perm}
use Rattle.laws.proofs.RowOrder.{SuccsApart, pair_of, succ-order, order-perm}
use Rattle.laws.proofs.Accepted.{Sound, otherwise-accepted, refuse-accepted, batch-accepted}
use Rattle.laws.proofs.Formed.{Formed, formed}
use Rattle.laws.proofs.Entries.{new-succs-apart}
use Rattle.laws.proofs.Shaped.{shape}
use Rattle.laws.proofs.Together.{new-rows-apart}
use Rattle.demands.proofs.Joined.{joined, joined-sound, new-succs-by, with-same}

-- each operation has its width
abbrev pub Full : List Op → Type 0
Full b = All (λ o. length o ≡ op_words) b

pub full : (b : List Op) → T (shaped_ops b) → Full b
full b h o m = (shape op_words b h o m).full

-- ── the empty document
pub empty-formed : Formed empty
empty-formed = (formed empty).0 wf
  where
    wf : T (well_formed empty)
    wf = unfold computes in tt

pub empty-sound : Sound empty []
empty-sound =
    record {
      rows_fit = λ o m. absurd (not-nil m);
      preds-fit = λ o m. absurd (not-nil m);
      apart = tt;
      new = λ o m. absurd (not-nil m);
      objects = λ o m. absurd (not-nil m);
      elements = λ o m. absurd (not-nil m);
      preds = λ o m. absurd (not-nil m);
      rows_few = unfold all_rows new_rows in omega arith;
      succs-few = unfold all_succs new_succs in omega arith;
    }

pub empty-merged : merged empty [] ≡ empty
unfolding computes
empty-merged = refl

-- ── a step of a course
pub step-accepted : (d : Document) (b : List Op) → T (is_accepted (merge_refusal d b)) → (length b ≤ max_batch) × Sound d b
unfolding merge_refusal
step-accepted d b t = (batch-accepted d b).0 ((otherwise-accepted (document_refusal d) (batch_refusal d b)).0 t).1

pub step-accepts : (d : Document) (b : List Op) → Formed d → length b ≤ max_batch → Sound d b → T (is_accepted (merge_refusal d b))
unfolding merge_refusal document_refusal
step-accepts d b f n s =
    (otherwise-accepted (document_refusal d) (batch_refusal d b)).1
    ((refuse-accepted 2 (not (well_formed d))).1 (not-not (well_formed d) ((formed d).1 f)), (batch-accepted d b).1 (n, s))
  where
    not-not : (b : Bool) → T b → T (not (not b))
    not-not b t = lib.Dec.not_T (not b) (λ u. lib.Dec.T_not b u t)

-- Behind the operations of `a`, a course merges the rest.
module _ (d : Document) (f : Formed d) where
  course-joined : (a : List Op) (bs : List (List Op)) → Full a → Full (concat bs) → Sound d a → T (course_accepted (merged d a) bs)
      → Sound d (a ++ concat bs) × (course (merged d a) bs ≡ merged d (a ++ concat bs))
  course-joined a [] fa fb s t = rw (append-nil a) (s, refl)
  course-joined a (b ∷ bs) fa fb s t =
      let u = (T_and (is_accepted (merge_refusal (merged d a) b)) (course_accepted (merged (merged d a) b) bs)).0 t in
      let one = (step-accepted (merged d a) b u.0).1 in
      let e = joined d a b f fa s one in
      let r = course-joined (a ++ b) bs (all_append (λ o. length o ≡ op_words) a fa (λ o m. fb o (append_left (concat bs) m))) (λ o m. fb o (append_right b m))
      (joined-sound d a b f fa s one) (subst (λ x. T (course_accepted x bs)) e u.1) in (
        subst (Sound d) (append_assoc a b (concat bs)) r.0,
        ap (λ x. course x bs) e ∙ r.1 ∙ ap (merged d) (append_assoc a b (concat bs)),
      )

pub course-sound : (bs : List (List Op)) → T (shaped_ops (concat bs)) → T (course_accepted empty bs) → Sound empty (concat bs)
course-sound bs h t =
    (course-joined empty empty-formed [] bs (λ o m. absurd (not-nil m)) (full (concat bs) h) empty-sound (subst (λ d. T (course_accepted d bs)) (sym empty-merged) t)).0

pub course-ends : (bs : List (List Op)) → T (shaped_ops (concat bs)) → T (course_accepted empty bs) → course empty bs ≡ merged empty (concat bs)
course-ends bs h t =
    ap (λ d. course d bs) (sym empty-merged)
    ∙ (course-joined empty empty-formed [] bs (λ o m. absurd (not-nil m)) (full (concat bs) h) empty-sound (subst (λ d. T (course_accepted d bs)) (sym empty-merged) t)).1

-- ── from the empty document, only the set of operations matters
pub rows-shuffled : {a b : List Op} → Perm a b → Perm (all_rows empty a) (all_rows empty b)
unfolding all_rows new_rows
rows-shuffled p = perm-map row_of (perm-filter (λ o. not (is_delete o)) p)

pub succs-shuffled : {a b : List Op} → Perm a b → Perm (all_succs empty a) (all_succs empty b)
unfolding all_succs
succs-shuffled {a} {b} p =
    perm-trans
    (perm-eq (new-succs-by (all_rows empty a) (all_rows empty b) a (λ o m i n. with-same (all_rows empty a) (all_rows empty b) i (perm_same (rows-shuffled p)))))
    (entries (all_rows empty b))
  where
    entries : (rs : List Row) → Perm (new_succs rs a) (new_succs rs b)
    entries rs = unfold new_succs in perm-concat_map (λ o. map (entry rs o) (preds_of o)) p

pub merged-shuffled : (a b : List Op) → Sound empty a → Perm a b → merged empty a ≡ merged empty b
merged-shuffled a b s p = λ i. record { rows = rows-one i; succs = succs-one i }
  where
    rows-one : (merged empty a).rows ≡ (merged empty b).rows
    rows-one = unfold merged in order-perm (all_rows empty a) (all_rows empty b) (unfold all_rows in new-rows-apart a s.apart) (rows-shuffled p)

    apart : SuccsApart (all_succs empty a)
    apart = unfold all_succs in new-succs-apart (all_rows empty a) a s.apart s.preds-fit

    succs-one : (merged empty a).succs ≡ (merged empty b).succs
    succs-one = unfold merged in
        sort-perm succ_before (all_succs empty a) (all_succs empty b) (succ-order (all_succs empty a) apart) (key-distinct-nodup pair_of (all_succs empty a) apart) (succs-shuffled p)

pub same-set-same-document : (bs cs : List (List Op)) → T (shaped_ops (concat bs)) → T (shaped_ops (concat cs)) → T (course_accepted empty bs) → T (course_accepted empty cs)
    → Same (concat bs) (concat cs) → course empty bs ≡ course empty cs
same-set-same-document bs cs h k t u s =
    let x = course-sound bs h t in
    let y = course-sound cs k u in
    course-ends bs h t
    ∙ merged-shuffled (concat bs) (concat cs) x
    (nodup-same-perm (concat bs) (concat cs) (key-distinct-nodup id_of (concat bs) x.apart) (key-distinct-nodup id_of (concat cs) y.apart) s)
    ∙ sym (course-ends cs k u)
