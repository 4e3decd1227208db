-- A course of calls does to the document that it is held in what a course of batches does to the document.
--     calls-accepted   if every call is accepted, so is the course of the batches cut from the slices, and its document is what is held
--     calls-accept     if that course is accepted and the slices have their documented sizes, every call is accepted
--     calls-batches    so, on slices of their documented sizes, the calls are accepted exactly when the batches are
use mathlib.Core.Path.{◌≡◌, refl, sym, ap, ap₂, subst}
use mathlib.Core.Logic.{⊎_elim, ◌↔◌}
use mathlib.Core.Bool.{Bool, true, false, not, ◌&&◌, ◌||◌}
use mathlib.Core.List.{List, [], ◌∷◌}
use Prim.Native.Nat.{ℕ, ◌*◌, ◌≤◌}
use native.Mathlib.Omega.{arith}
use lib.ListN.{length, drop, length-append, length-drop}
use lib.Dec.{T, T_not, not_T, ltb, eqb, eqb→eq}
use Rattle.model.specs.Basic.{all, concat, pieces}
use Rattle.model.specs.Sizes.{max_rows, max_succs, row_words, op_words, succ_words, room_words}
use Rattle.model.specs.Row.{Op}
use Rattle.model.specs.Document.{Document, empty, merged}
use Rattle.model.specs.Answer.{is_accepted}
use Rattle.model.specs.Refusal.{batch_refusal}
use Rattle.model.specs.WellFormed.{well_formed}
use Rattle.model.specs.Calls.{document_sized, batch_sized, claim_refusal, document_refusal, merge_refusal, over}
use Rattle.model.specs.Course.{course, course_accepted}
use Rattle.laws.proofs.Tests.{T_and, T-or}
use Rattle.laws.proofs.Members.{not-nil}
use Rattle.laws.proofs.Pieces.{length-pieces}
use Rattle.laws.proofs.Laid.{cut-wide, laid-length, cut-laid}
use Rattle.laws.proofs.Accepted.{otherwise-accepted, refuse-accepted, not-above}
use Rattle.laws.proofs.Formed.{Formed, formed}
use Rattle.demands.proofs.MergedWellFormed.{merged-formed}
use Rattle.demands.proofs.Courses.{Full, step-accepted}
use Rattle.demands.proofs.CallSteps.{Widths, merged-widths, document, operations, sized, accepted-sized, accepted-both, call-accepts, left, accepted-leaves}
use Rattle.demands.specs.CallCourse.{Held, Call, empty_in, back_of, held_after, call_course, call_course_accepted, batches_of, sizes_fit}

-- ── the document that is held
pub record Holds (h : Held) (d : Document) : Type 0 where
  pub rows : pieces row_words h.row_count h.rows ≡ d.rows
  pub succs : pieces succ_words h.succ_count h.succs ≡ d.succs
  pub wide : Widths d

pub holds-empty : (rows succs : List ℕ) → Holds (empty_in rows succs) empty
holds-empty rows succs = record { rows = refl; succs = refl; wide = record { rows = λ r m. absurd (not-nil m); succs = λ s m. absurd (not-nil m) } }

module _ (h : Held) (c : Call) (d : Document) (i : Holds h d) where
  as-document : document h c ≡ d
  as-document = λ j. record { rows = i.rows j; succs = i.succs j }

  sized-full : T (sized h c) → Full (operations h c)
  unfolding batch_sized
  sized-full t =
      let batch-fits = eqb (length c.batch) (c.count * op_words) in
      let e = eqb→eq (length c.batch) (c.count * op_words) ((T_and (document_sized h.rows h.succs c.room) batch-fits).0 t).1 in
      cut-wide op_words c.count c.batch (omega (arith, e))

  left-holds : T (sized h c) → Holds (left h c) (merged (document h c) (operations h c))
  left-holds t =
      let new = merged (document h c) (operations h c) in
      let w = merged-widths (document h c) (operations h c) (subst Widths (sym as-document) i.wide) (sized-full t) in
      record {
        rows = cut-laid row_words new.rows (drop (length (concat new.rows)) h.rows) w.rows;
        succs = cut-laid succ_words new.succs (drop (length (concat new.succs)) h.succs) w.succs;
        wide = w;
      }

  pub holds-merged : T (is_accepted (back_of h c).answer) → Holds (held_after h c) (merged d (operations h c))
  holds-merged t =
      subst (λ x. Holds (held_after h c) (merged x (operations h c))) as-document
      (subst (λ g. Holds g (merged (document h c) (operations h c))) (sym (accepted-leaves h c t)) (left-holds (accepted-sized h c t)))

  pub batch-merges : T (is_accepted (back_of h c).answer) → T (is_accepted (merge_refusal d (operations h c)))
  batch-merges t = subst (λ x. T (is_accepted (merge_refusal x (operations h c)))) as-document (accepted-both h c t).1

-- ── calls to batches
pub calls-accepted : (h : Held) (d : Document) (cs : List Call) → Holds h d → T (call_course_accepted h cs)
    → T (course_accepted d (batches_of cs)) × Holds (call_course h cs) (course d (batches_of cs))
calls-accepted h d [] i t = (tt, i)
calls-accepted h d (c ∷ cs) i t =
    let b = operations h c in
    let u = (T_and (is_accepted (back_of h c).answer) (call_course_accepted (held_after h c) cs)).0 t in
    let r = calls-accepted (held_after h c) (merged d b) cs (holds-merged h c d i u.0) u.1 in (
      (T_and (is_accepted (merge_refusal d b)) (course_accepted (merged d b) (batches_of cs))).1 (batch-merges h c d i u.0, r.0),
      r.1,
    )

-- ── batches to calls
-- a document that a batch is merged into is well-formed
merges-formed : (d : Document) (b : List Op) → T (is_accepted (merge_refusal d b)) → Formed d
unfolding merge_refusal document_refusal
merges-formed d b t =
    (formed d).0 (positive (well_formed d) ((refuse-accepted 2 (not (well_formed d))).0 ((otherwise-accepted (document_refusal d) (batch_refusal d b)).0 t).0))
  where
    positive : (b : Bool) → T (not (not b)) → T b
    positive true t = tt
    positive false t = t

claims-fit : (n m : ℕ) → n ≤ max_rows → m ≤ max_succs → T (is_accepted (claim_refusal n m))
unfolding claim_refusal
claims-fit n m p q =
    let r = ltb max_rows n in
    let s = ltb max_succs m in
    (refuse-accepted 2 (r || s)).1
    (not_T (r || s) (λ u. ⊎_elim (T_not r ((not-above max_rows n).1 p)) (T_not s ((not-above max_succs m).1 q)) ((T-or r s).0 u)))

-- new words at the start of a slice that has room for them leave its length
over-length : (xs : List ℕ) (new : List (List ℕ)) → length (concat new) ≤ length xs → length (over xs new) ≡ length xs
over-length xs new h =
    omega (arith, length-append (concat new) (drop (length (concat new)) xs), length-drop (length (concat new)) xs, h)

-- sizes speak of lengths alone
sizes-kept : (g h : Held) (cs : List Call) → length g.rows ≡ length h.rows → length g.succs ≡ length h.succs → T (sizes_fit h cs) → T (sizes_fit g cs)
unfolding document_sized
sizes-kept g h cs p q t =
    subst T
    (ap₂
    (λ r s.
    all (λ c. eqb r (max_rows * row_words) && eqb s (max_succs * succ_words) && eqb (length c.room) room_words && batch_sized c.count c.batch) cs)
    (sym p) (sym q)) t

module _ (h : Held) (c : Call) (d : Document) (i : Holds h d) (fits : T (sized h c)) (merges : T (is_accepted (merge_refusal d (operations h c)))) where
  old : Formed d
  old = merges-formed d (operations h c) merges

  pub call-accepted : T (is_accepted (back_of h c).answer)
  call-accepted =
      call-accepts h c fits
      (claims-fit h.row_count h.succ_count
      (omega (arith, old.rows_few, length-pieces row_words h.row_count h.rows, ap length i.rows))
      (omega (arith, old.succs-few, length-pieces succ_words h.succ_count h.succs, ap length i.succs)))
      (subst (λ x. T (is_accepted (merge_refusal x (operations h c)))) (sym (as-document h c d i)) merges)

  new-formed : Formed (merged (document h c) (operations h c))
  new-formed =
      subst (λ x. Formed (merged x (operations h c))) (sym (as-document h c d i))
      (merged-formed d (operations h c) old (step-accepted d (operations h c) merges).1 (sized-full h c d i fits))

  -- the slices are as long as they were
  slices-sized : (length h.rows ≡ max_rows * row_words) × (length h.succs ≡ max_succs * succ_words)
  unfolding document_sized
  slices-sized =
      let r = eqb (length h.rows) (max_rows * row_words) in
      let s = eqb (length h.succs) (max_succs * succ_words) in
      let w = eqb (length c.room) room_words in
      let t = (T_and r s).0 ((T_and (r && s) w).0 ((T_and (r && s && w) (batch_sized c.count c.batch)).0 fits).0).0 in
      (eqb→eq (length h.rows) (max_rows * row_words) t.0, eqb→eq (length h.succs) (max_succs * succ_words) t.1)

  rows-length : length (left h c).rows ≡ length h.rows
  rows-length =
      let new = (merged (document h c) (operations h c)).rows in
      over-length h.rows new (omega (arith, laid-length row_words new (left-holds h c d i fits).wide.rows, new-formed.rows_few, slices-sized.0))

  succs-length : length (left h c).succs ≡ length h.succs
  succs-length =
      let new = (merged (document h c) (operations h c)).succs in
      over-length h.succs new (omega (arith, laid-length succ_words new (left-holds h c d i fits).wide.succs, new-formed.succs-few, slices-sized.1))

  pub sizes-stay : (cs : List Call) → T (sizes_fit h cs) → T (sizes_fit (held_after h c) cs)
  sizes-stay cs t = subst (λ g. T (sizes_fit g cs)) (sym (accepted-leaves h c call-accepted)) (sizes-kept (left h c) h cs rows-length succs-length t)

pub calls-accept : (h : Held) (d : Document) (cs : List Call) → Holds h d → T (sizes_fit h cs) → T (course_accepted d (batches_of cs)) → T (call_course_accepted h cs)
calls-accept h d [] i fits t = tt
calls-accept h d (c ∷ cs) i fits t =
    let b = operations h c in
    let u = (T_and (is_accepted (merge_refusal d b)) (course_accepted (merged d b) (batches_of cs))).0 t in
    let f = (T_and (sized h c) (sizes_fit h cs)).0 fits in
    let one = call-accepted h c d i f.0 u.0 in
    (T_and (is_accepted (back_of h c).answer) (call_course_accepted (held_after h c) cs)).1
    (one, calls-accept (held_after h c) (merged d b) cs (holds-merged h c d i one) (sizes-stay h c d i f.0 u.0 cs f.1) u.1)

pub calls-batches : (rows succs : List ℕ) (cs : List Call) → T (sizes_fit (empty_in rows succs) cs) → T (call_course_accepted (empty_in rows succs) cs) ↔ T (course_accepted empty (batches_of cs))
calls-batches rows succs cs fits = (
  λ t. (calls-accepted (empty_in rows succs) empty cs (holds-empty rows succs) t).0,
  calls-accept (empty_in rows succs) empty cs (holds-empty rows succs) fits,
)
