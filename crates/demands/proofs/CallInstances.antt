-- Demands 1 and 3, used on calls: their hypotheses are met by real slices of the documented sizes.
use mathlib.Core.Path.{◌≡◌, refl, ap, ◌∙◌}
use mathlib.Core.Bool.{Bool, true, ◌&&◌}
use mathlib.Core.List.Permᴰ
use mathlib.Core.List.{List, [], ◌∷◌, ◌++◌}
use Prim.Native.Nat.{ℕ, suc, ◌*◌}
use lib.ListN.{length, take, drop, replicate, length-replicate}
use native.Mathlib.Omega.{arith}
use lib.Dec.{T, ltb, eqb, lt→ltb}
use Rattle.model.specs.Basic.{concat}
use Rattle.model.specs.Sizes.{max_rows, max_succs, row_words, op_words, succ_words, room_words}
use Rattle.model.specs.Row.{Op}
use Rattle.model.specs.Document.{empty}
use Rattle.model.specs.Calls.{document_sized, batch_sized, claim_refusal, merge_call}
use Rattle.model.specs.Exports.{Exported, number_of, answer_sized, exported, merge_exported}
use Rattle.model.specs.Course.{course_accepted, cut_well}
use Rattle.model.specs.Cases.{p1, p2}
use Rattle.model.specs.Rules.{computes}
use Rattle.laws.proofs.Tests.{T_and, is_true, eq→eqb}
use Rattle.laws.proofs.Members.{Same}
use Rattle.laws.proofs.Perms.{Perm, perm_same}
use Rattle.demands.proofs.Demand1.{merge-demand-1}
use Rattle.demands.proofs.CallCourses.{calls-batches}
use Rattle.demands.proofs.Demand3.{SameEnd, demand-3}
use Rattle.demands.specs.CallCourse.{Call, empty_in, call_course, call_course_accepted, batches_of, merged_ops, sizes_fit}

-- ── slices of their documented sizes, full of nines
abbrev nines : ℕ → List ℕ
nines n = replicate n 9

nines-length : (n : ℕ) → length (nines n) ≡ n
nines-length n = let nine : ℕ = 9 in length-replicate n nine

abbrev rows : List ℕ
rows = nines (max_rows * row_words)

abbrev succs : List ℕ
succs = nines (max_succs * succ_words)

abbrev call : List Op → Call
call b = record { count = length b; batch = concat b; room = nines room_words }

abbrev fits : List Op → Bool
fits b = document_sized rows succs (nines room_words) && batch_sized (length b) (concat b)

call_fits : (b : List Op) → length (concat b) ≡ length b * op_words → T (fits b)
unfolding document_sized batch_sized
call_fits b e =
    let r = eqb (length rows) (max_rows * row_words) in
    let s = eqb (length succs) (max_succs * succ_words) in
    let w = eqb (length (nines room_words)) room_words in
    (T_and (r && s && w) (eqb (length (concat b)) (length b * op_words))).1 (
      (T_and (r && s) w).1 (
        (T_and r s).1 (
          eq→eqb (length rows) (max_rows * row_words) (nines-length (max_rows * row_words)),
          eq→eqb (length succs) (max_succs * succ_words) (nines-length (max_succs * succ_words)),
        ),
        eq→eqb (length (nines room_words)) room_words (nines-length room_words),
      ),
      eq→eqb (length (concat b)) (length b * op_words) e,
    )

-- ── demand 1: a call that is lent too little leaves all of it
short-kept : (merge-demand-1 1 (9 ∷ []) 0 [] 0 [] (9 ∷ []) (9 ∷ 9 ∷ 9 ∷ [])).outcome.lent ≡ (9 ∷ []) ∷ [] ∷ [] ∷ (9 ∷ []) ∷ []
short-kept =
    let d = merge-demand-1 1 (9 ∷ []) 0 [] 0 [] (9 ∷ []) (9 ∷ 9 ∷ 9 ∷ []) in
    d.misfit-keeps (ap (λ (o : Exported). o.returned) d.exists ∙ misfit)
  where
    misfit : (merge_exported 1 (9 ∷ []) 0 [] 0 [] (9 ∷ []) (9 ∷ 9 ∷ 9 ∷ [])).returned ≡ 1
    misfit = unfold computes in refl

-- a claim of one row too many is refused with 2: all is as it was, but the room is zero
claim-refused : (merge_exported (suc max_rows) rows 0 succs 0 [] (nines room_words) (9 ∷ 9 ∷ 9 ∷ [])).returned ≡ 2
unfolding merge_exported exported answer_sized merge_call claim_refusal number_of
claim-refused = rw (is_true (fits []) (call_fits [] refl), is_true (ltb max_rows (suc max_rows)) (lt→ltb max_rows (suc max_rows) (omega arith)))

claim-keeps :
    let claimed = (merge-demand-1 (suc max_rows) rows 0 succs 0 [] (nines room_words) (9 ∷ 9 ∷ 9 ∷ [])).outcome.lent in
    (take 3 claimed ≡ rows ∷ succs ∷ [] ∷ []) × (drop 3 claimed ≡ replicate (length (nines room_words)) 0 ∷ [])
claim-keeps =
    let d = merge-demand-1 (suc max_rows) rows 0 succs 0 [] (nines room_words) (9 ∷ 9 ∷ 9 ∷ []) in
    let two : d.outcome.returned ≡ 2 = ap (λ (o : Exported). o.returned) d.exists ∙ claim-refused in
    (d.refused-keeps (λ e. omega (arith, two, e)), d.room-zero (λ e. omega (arith, two, e)))

-- ── demand 3: P1 and P2 in two calls, and in one that names P2's operation first
abbrev two : List Call
two = call p1 ∷ call p2 ∷ []

abbrev one : List Call
one = call (p2 ++ p1) ∷ []

two-fit : T (sizes_fit (empty_in rows succs) two)
two-fit = (T_and (fits p1) (fits p2 && true)).1 (call_fits p1 refl, (T_and (fits p2) true).1 (call_fits p2 refl, tt))

one-fits : T (sizes_fit (empty_in rows succs) one)
one-fits = (T_and (fits (p2 ++ p1)) true).1 (call_fits (p2 ++ p1) refl, tt)

batches-accepted : T (course_accepted empty (batches_of two))
unfolding computes
batches-accepted = tt

two-accepted : T (call_course_accepted (empty_in rows succs) two)
two-accepted = (calls-batches rows succs two two-fit).1 batches-accepted

one-cut-well : T (cut_well [] (batches_of one))
unfolding computes
one-cut-well = tt

shuffled : Perm (merged_ops two) (merged_ops one)
shuffled = Permᴰ.append_comm p1 p2

one-accepted : T (call_course_accepted (empty_in rows succs) one)
one-accepted = (demand-3 rows succs two tt two-accepted).every-cutting rows succs one one-fits shuffled one-cut-well

same-words : SameEnd (call_course (empty_in rows succs) two) (call_course (empty_in rows succs) one)
same-words = ((demand-3 rows succs two tt two-accepted).one-document rows succs one tt one-accepted).1 (perm_same shuffled)

same-operations : Same (merged_ops two) (merged_ops one)
same-operations = ((demand-3 rows succs two tt two-accepted).one-document rows succs one tt one-accepted).0 same-words
