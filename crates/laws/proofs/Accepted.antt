-- What it means that a batch is not refused: `Sound d b` says each check's fact by its name.
use mathlib.Core.Path.{◌≡◌, refl, sym, ap, ◌∙◌}
use mathlib.Core.Logic.{◌↔◌, ⊎_elim, inl, inr}
use mathlib.Core.Bool.{Bool, true, false, not, cond, ◌&&◌, ◌||◌}
use mathlib.Core.List.{List, [], ◌∷◌, ◌++◌, map}
use Prim.Native.Nat.{ℕ, ◌≤◌}
use native.Mathlib.Omega.{arith}
use lib.ListN.{length}
use lib.Dec.{T, T_not, not_T, ltb, ltb→lt, nltb→le}
use Rattle.model.specs.Basic.{member}
use Rattle.model.specs.Sizes.{max_rows, max_succs, max_batch}
use Rattle.model.specs.Row.{Op, id_of, succ_of}
use Rattle.model.specs.Document.{Document, all_rows, all_succs}
use Rattle.model.specs.Answer.{Answer, accepted, refused, is_accepted, ◌otherwise◌, refuse, refuse_after, refuse_op}
use Rattle.model.specs.Malformed.{row_fits, preds_fit}
use Rattle.model.specs.Refusal.{id_taken, object_fits, element_fits, preds_exist, too_many, batch_refusal}
use Rattle.laws.proofs.Tests.{T_and, T-or}
use Rattle.laws.proofs.Members.{Mem, here, there, not-nil, append_left, append_right, mem-map, mem-cast, All, on-mem, on-append, map-from, member-mem}
use Rattle.laws.proofs.Pairs.{KeyDistinct}

not-not : (b : Bool) → T (not (not b)) ↔ T b
not-not true = (λ t. t, λ t. t)
not-not false = (λ t. t, λ t. t)

pub not-above : (limit n : ℕ) → T (not (ltb limit n)) ↔ (n ≤ limit)
not-above limit n = (nltb→le limit n, λ h. not_T (ltb limit n) (λ t. omega (arith, ltb→lt limit n t)))

-- ── answers
pub otherwise-accepted : (a b : Answer) → T (is_accepted (a otherwise b)) ↔ (T (is_accepted a) × T (is_accepted b))
otherwise-accepted (accepted vs) b = (λ t. (tt, t), λ t. t.1)
otherwise-accepted (refused n p) b = (λ t. absurd t, λ t. t.0)

pub refuse-accepted : (n : ℕ) (fails : Bool) → T (is_accepted (refuse n fails)) ↔ T (not fails)
refuse-accepted n true = (λ t. t, λ t. t)
refuse-accepted n false = (λ t. t, λ t. t)

module _ (n : ℕ) (fails : List Op → Op → Bool) where
  -- no operation fails, each asked with those before it
  abbrev Steps : List Op → List Op → Type 0
  Steps earlier [] = Unit {0}
  Steps earlier (o ∷ os) = T (not (fails earlier o)) × Steps (earlier ++ o ∷ []) os

  steps-accepted : (earlier os : List Op) → T (is_accepted (refuse_after earlier n fails os)) ↔ Steps earlier os
  steps-accepted earlier [] = (λ t. tt, λ s. tt)
  steps-accepted earlier (o ∷ os) = go (fails earlier o) (steps-accepted (earlier ++ o ∷ []) os)
    where
      go : (b : Bool) → T (is_accepted (refuse_after (earlier ++ o ∷ []) n fails os)) ↔ Steps (earlier ++ o ∷ []) os
          → T (is_accepted (cond b (refused n (length earlier)) (refuse_after (earlier ++ o ∷ []) n fails os))) ↔ (T (not b) × Steps (earlier ++ o ∷ []) os)
      go true ih = (λ t. absurd t, λ s. s.0)
      go false ih = (λ t. (tt, ih.0 t), λ s. ih.1 s.1)

-- a test that asks the operation alone
module _ (n : ℕ) (p : Op → Bool) where
  plain-steps : (earlier os : List Op) → Steps n (λ e o. not (p o)) earlier os ↔ All (λ o. T (p o)) os
  plain-steps earlier [] = (λ s o m. absurd (not-nil m), λ a. tt)
  plain-steps earlier (o ∷ os) =
      let ih = plain-steps (earlier ++ o ∷ []) os in (
        λ s x m. on-mem m (λ e. rw e ((not-not (p o)).0 s.0)) (ih.0 s.1 x),
        λ a. ((not-not (p o)).1 (a o (here refl)), ih.1 (λ x m. a x (there m))),
      )

  pub all-accepted : (os : List Op) → T (is_accepted (refuse_op n (λ e o. not (p o)) os)) ↔ All (λ o. T (p o)) os
  all-accepted os =
      let s = steps-accepted n (λ e o. not (p o)) [] os in
      let t = plain-steps [] os in
      (λ a. t.0 (s.0 a), λ a. s.1 (t.1 a))

-- check 5
module _ (d : Document) where
  -- an id that is neither a row's nor a successor's
  abbrev pub New : ℕ → Type 0
  New i = All (λ r. i ≡ id_of r → ⊥) d.rows × All (λ s. i ≡ succ_of s → ⊥) d.succs

  not_taken : (earlier : List Op) (o : Op) → T (not (id_taken d earlier o)) ↔ (All (λ x. id_of o ≡ id_of x → ⊥) earlier × New (id_of o))
  unfolding id_taken
  not_taken earlier o =
      let ids = map id_of earlier ++ map id_of d.rows ++ map succ_of d.succs in (
        λ t.
            let out : (i : ℕ) → Mem i ids → id_of o ≡ i → ⊥ = λ i m e. T_not (member (id_of o) ids) t ((member-mem (id_of o) ids).1 (mem-cast e m)) in (
              λ x m e. out (id_of x) (append_left (map succ_of d.succs) (append_left (map id_of d.rows) (mem-map id_of m))) e,
              (
                λ r m e. out (id_of r) (append_left (map succ_of d.succs) (append_right (map id_of earlier) (mem-map id_of m))) e,
                λ s m e. out (succ_of s) (append_right (map id_of earlier ++ map id_of d.rows) (mem-map succ_of m)) e,
              ),
            ),
        λ f. not_T (member (id_of o) ids)
            (λ u.
            on-append (map id_of earlier ++ map id_of d.rows) ((member-mem (id_of o) ids).0 u)
            (λ m.
            on-append (map id_of earlier) m
            (λ i. let r = map-from id_of earlier i in f.0 r.0 r.1 r.2)
            (λ i. let r = map-from id_of d.rows i in f.1.0 r.0 r.1 r.2))
            (λ m. let r = map-from succ_of d.succs m in f.1.1 r.0 r.1 r.2)),
      )

  -- what is asked of the rest of a batch, behind `earlier`
  abbrev NewIds : List Op → List Op → Type 0
  NewIds earlier os = KeyDistinct id_of os × All (λ o. All (λ x. id_of o ≡ id_of x → ⊥) earlier) os × All (λ o. New (id_of o)) os

  id-steps : (earlier os : List Op) → Steps 5 (id_taken d) earlier os ↔ NewIds earlier os
  id-steps earlier [] = (λ s. (tt, λ o m. absurd (not-nil m), λ o m. absurd (not-nil m)), λ a. tt)
  id-steps earlier (o ∷ os) =
      let ih = id-steps (earlier ++ o ∷ []) os in
      let taken = not_taken earlier o in (
        λ s.
            let r = ih.0 s.1 in
            let f = taken.0 s.0 in (
              (λ x m e. r.1 x m o (append_right earlier (here refl)) (sym e), r.0),
              λ x m. on-mem m (λ e. rw e f.0) (λ i y n. r.1 x i y (append_left (o ∷ []) n)),
              λ x m. on-mem m (λ e. rw e f.1) (r.2 x),
            ),
        λ a. (
          taken.1 (a.1 o (here refl), a.2 o (here refl)),
          ih.1 (
            a.0.1,
            λ x m y n. on-append earlier n (a.1 x (there m) y) (λ i e. on-mem i (λ q. a.0.0 x m (sym (e ∙ ap id_of q))) (λ j. not-nil j)),
            λ x m. a.2 x (there m),
          ),
        ),
      )

  pub ids-accepted : (os : List Op) → T (is_accepted (refuse_op 5 (id_taken d) os)) ↔ (KeyDistinct id_of os × All (λ o. New (id_of o)) os)
  ids-accepted os =
      let s = steps-accepted 5 (id_taken d) [] os in
      let t = id-steps [] os in (
        λ a. let r = t.0 (s.0 a) in (r.0, r.2),
        λ a. s.1 (t.1 (a.0, λ o m x n. absurd (not-nil n), a.1)),
      )

-- ── the whole batch
pub record Sound (d : Document) (b : List Op) : Type 0 where
  pub rows_fit : All (λ o. T (row_fits o)) b
  pub preds-fit : All (λ o. T (preds_fit o)) b
  pub apart : KeyDistinct id_of b
  pub new : All (λ o. New d (id_of o)) b
  pub objects : All (λ o. T (object_fits (all_rows d b) o)) b
  pub elements : All (λ o. T (element_fits (all_rows d b) o)) b
  pub preds : All (λ o. T (preds_exist (all_rows d b) o)) b
  pub rows_few : length (all_rows d b) ≤ max_rows
  pub succs-few : length (all_succs d b) ≤ max_succs

few : (d : Document) (b : List Op) → T (not (too_many d b)) ↔ ((length (all_rows d b) ≤ max_rows) × (length (all_succs d b) ≤ max_succs))
unfolding too_many
few d b =
    let r = ltb max_rows (length (all_rows d b)) in
    let s = ltb max_succs (length (all_succs d b)) in (
      λ t. (
        (not-above max_rows (length (all_rows d b))).0 (not_T r (λ u. T_not (r || s) t ((T-or r s).1 (inl u)))),
        (not-above max_succs (length (all_succs d b))).0 (not_T s (λ u. T_not (r || s) t ((T-or r s).1 (inr u)))),
      ),
      λ h. not_T (r || s)
          (λ u. ⊎_elim (T_not r ((not-above max_rows (length (all_rows d b))).1 h.0)) (T_not s ((not-above max_succs (length (all_succs d b))).1 h.1)) ((T-or r s).0 u)),
    )

pub batch-accepted : (d : Document) (b : List Op) → T (is_accepted (batch_refusal d b)) ↔ ((length b ≤ max_batch) × Sound d b)
unfolding batch_refusal
batch-accepted d b =
    let rs = all_rows d b in
    let c3 = refuse 3 (ltb max_batch (length b)) in
    let c4 = refuse_op 4 (λ earlier o. not (row_fits o && preds_fit o)) b in
    let c5 = refuse_op 5 (id_taken d) b in
    let c6 = refuse_op 6 (λ earlier o. not (object_fits rs o)) b in
    let c7 = refuse_op 7 (λ earlier o. not (element_fits rs o)) b in
    let c8 = refuse_op 8 (λ earlier o. not (preds_exist rs o)) b in
    let c9 = refuse 9 (too_many d b) in
    let a3 = otherwise-accepted c3 (c4 otherwise c5 otherwise c6 otherwise c7 otherwise c8 otherwise c9) in
    let a4 = otherwise-accepted c4 (c5 otherwise c6 otherwise c7 otherwise c8 otherwise c9) in
    let a5 = otherwise-accepted c5 (c6 otherwise c7 otherwise c8 otherwise c9) in
    let a6 = otherwise-accepted c6 (c7 otherwise c8 otherwise c9) in
    let a7 = otherwise-accepted c7 (c8 otherwise c9) in
    let a8 = otherwise-accepted c8 c9 in
    let f4 = all-accepted 4 (λ o. row_fits o && preds_fit o) b in
    let f5 = ids-accepted d b in
    let f6 = all-accepted 6 (object_fits rs) b in
    let f7 = all-accepted 7 (element_fits rs) b in
    let f8 = all-accepted 8 (preds_exist rs) b in (
      λ t3.
          let t4 = (a3.0 t3).1 in
          let t5 = (a4.0 t4).1 in
          let t6 = (a5.0 t5).1 in
          let t7 = (a6.0 t6).1 in
          let t8 = (a7.0 t7).1 in
          let t9 = (a8.0 t8).1 in
          let both = f4.0 (a4.0 t4).0 in
          let ids = f5.0 (a5.0 t5).0 in
          let limits = (few d b).0 ((refuse-accepted 9 (too_many d b)).0 t9) in (
            (not-above max_batch (length b)).0 ((refuse-accepted 3 (ltb max_batch (length b))).0 (a3.0 t3).0),
            record {
              rows_fit = λ o m. ((T_and (row_fits o) (preds_fit o)).0 (both o m)).0;
              preds-fit = λ o m. ((T_and (row_fits o) (preds_fit o)).0 (both o m)).1;
              apart = ids.0;
              new = ids.1;
              objects = f6.0 (a6.0 t6).0;
              elements = f7.0 (a7.0 t7).0;
              preds = f8.0 (a8.0 t8).0;
              rows_few = limits.0;
              succs-few = limits.1;
            },
          ),
      λ h.
          let s = h.1 in
          a3.1 (
            (refuse-accepted 3 (ltb max_batch (length b))).1 ((not-above max_batch (length b)).1 h.0),
            a4.1 (
              f4.1 (λ o m. (T_and (row_fits o) (preds_fit o)).1 (s.rows_fit o m, s.preds-fit o m)),
              a5.1 (
                f5.1 (s.apart, s.new),
                a6.1 (f6.1 s.objects, a7.1 (f7.1 s.elements, a8.1 (f8.1 s.preds, (refuse-accepted 9 (too_many d b)).1 ((few d b).1 (s.rows_few, s.succs-few))))),
              ),
            ),
          ),
    )
