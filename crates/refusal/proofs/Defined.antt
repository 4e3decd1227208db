-- Of a well-formed document the checks give the model's refusal, or the counts of the merged document.
use Prim.Native.Nat.{ℕ, ◌*◌, ◌≤◌, ◌<◌}
use mathlib.Core.Path.{◌≡◌, refl, sym, ap, ◌∙◌}
use mathlib.Core.Bool.{not, ◌&&◌}
use mathlib.Core.List.{List, [], ◌∷◌}
use native.Mathlib.Omega.{arith}
use lib.Dec.{T, ltb}
use lib.ListN.{length, get_or}
use Rattle.model.specs.Basic.{pieces}
use Rattle.model.specs.Sizes.{word_range, max_batch, row_words, op_words}
use Rattle.model.specs.Row.{Op, row_of}
use Rattle.model.specs.Document.{Document, all_rows, all_succs}
use Rattle.model.specs.Malformed.{row_fits, preds_fit}
use Rattle.model.specs.Answer.{Answer, accepted, refused, is_accepted, ◌otherwise◌, refuse, refuse_op}
use Rattle.model.specs.Refusal.{id_taken, object_fits, element_fits, preds_exist, too_many, batch_refusal}
use Rattle.model.specs.Calls.{document_in, batch_in}
use Rattle.model.specs.WellFormed.{well_formed}
use Rattle.laws.proofs.Tests.{T_and}
use Rattle.laws.proofs.Members.{All}
use Rattle.laws.proofs.Pieces.{length-pieces, slot-in}
use Rattle.laws.proofs.Accepted.{all-accepted}
use Rattle.laws.proofs.Formed.{formed}
use Rattle.ids.specs.Words.{piece_at}
use Rattle.ids.proofs.Ranges.{range-mem}
use Rattle.checks.proofs.OneKey.{Plain, row_plain, row-in-plain}
use Rattle.checks.proofs.OfOps.{op_row, op_fits}
use Rattle.refusal.specs.LentFits.{Lent}
use Rattle.refusal.specs.Failing.{malformed, fails}
use Rattle.refusal.specs.CheckedBatch.{ops_refusal, first_refusal, checked}
use Rattle.refusal.proofs.LentHolds.{lent-true}
use Rattle.refusal.proofs.Firsts.{after-ext}
use Rattle.refusal.proofs.ByModel.{taken_is, object-is, element-is, preds-are}
use Rattle.refusal.proofs.Counted.{limited-is}

-- ---- refusals that agree

on : (a : Answer) {x y : Answer} → (T (is_accepted a) → x ≡ y) → (a otherwise x) ≡ (a otherwise y)
on (accepted v) h = h tt
on (refused n p) h = refl

swap : {a b x y : Answer} → a ≡ b → (T (is_accepted b) → x ≡ y) → (a otherwise x) ≡ (b otherwise y)
swap {a} {b} {x} {y} e h = ap (λ (v : Answer). v otherwise x) e ∙ on b h

assoc : (a b c : Answer) → ((a otherwise b) otherwise c) ≡ (a otherwise (b otherwise c))
assoc (accepted v) b c = refl
assoc (refused n p) b c = refl

-- ---- rows whose words may be trusted

module _ (n : ℕ) (rows : List ℕ) (range : (j : ℕ) → get_or rows j 0 < word_range) (there : n * row_words ≤ length rows) where
  rows-plain : All (λ r. T (row_fits r)) (pieces row_words n rows) → All Plain (pieces row_words n rows)
  rows-plain fit r m =
      let p = range-mem row_words rows 0 n m in
      rw p.3 (row-in-plain n rows p.0 range there p.2 (rw p.3 at (fit r m)))

module _ (k : ℕ) (ops : List ℕ) (range : (j : ℕ) → get_or ops j 0 < word_range) (there : k * op_words ≤ length ops) where
  op-plain : (j : ℕ) → j < k → T (row_fits (piece_at op_words ops j)) → Plain (row_of (piece_at op_words ops j))
  op-plain j h t =
      let l = slot-in op_words j k (length ops) h there in
      rw (op_row ops j) (row_plain ops (j * op_words) range (omega arith) (rw (op_fits ops j) at t))

  ops-plain : All (λ o. T (row_fits o)) (pieces op_words k ops) → All (λ o. Plain (row_of o)) (pieces op_words k ops)
  ops-plain fit o m =
      let p = range-mem op_words ops 0 k m in
      rw p.3 (op-plain p.0 p.2 (rw p.3 at (fit o m)))

-- ---- 4 to 8

module _ (d : Document) (b : List Op) where
  four : ops_refusal d.rows d.succs b 4 ≡ refuse_op 4 (λ earlier o. not (row_fits o && preds_fit o)) b
  unfolding ops_refusal fails malformed
  four = refl

  five : ops_refusal d.rows d.succs b 5 ≡ refuse_op 5 (id_taken d) b
  unfolding ops_refusal fails
  five = after-ext 5 (fails 5 d.rows d.succs b) (id_taken d) [] b (λ e o m. taken_is d e o)

  six : ops_refusal d.rows d.succs b 6 ≡ refuse_op 6 (λ earlier o. not (object_fits (all_rows d b) o)) b
  unfolding ops_refusal fails
  six = after-ext 6 (fails 6 d.rows d.succs b) (λ earlier o. not (object_fits (all_rows d b) o)) [] b (λ e o m. ap not (object-is d b o))

  seven : All (λ o. T (row_fits o)) b → ops_refusal d.rows d.succs b 7 ≡ refuse_op 7 (λ earlier o. not (element_fits (all_rows d b) o)) b
  unfolding ops_refusal fails
  seven fit =
      after-ext 7 (fails 7 d.rows d.succs b) (λ earlier o. not (element_fits (all_rows d b) o)) [] b (λ e o m. ap not (element-is d b fit o))

  eight : All Plain d.rows → All (λ o. Plain (row_of o)) b → ops_refusal d.rows d.succs b 8 ≡ refuse_op 8 (λ earlier o. not (preds_exist (all_rows d b) o)) b
  unfolding ops_refusal fails
  eight p q =
      after-ext 8 (fails 8 d.rows d.succs b) (λ earlier o. not (preds_exist (all_rows d b) o)) [] b (λ e o m. ap not (preds-are d b p q o m))

  -- the model's refusal and what comes after, one check after another
  spread : (next : Answer) → (batch_refusal d b otherwise next)
      ≡ (refuse 3 (ltb max_batch (length b))
      otherwise refuse_op 4 (λ earlier o. not (row_fits o && preds_fit o)) b
      otherwise refuse_op 5 (id_taken d) b
      otherwise refuse_op 6 (λ earlier o. not (object_fits (all_rows d b) o)) b
      otherwise refuse_op 7 (λ earlier o. not (element_fits (all_rows d b) o)) b
      otherwise refuse_op 8 (λ earlier o. not (preds_exist (all_rows d b) o)) b
      otherwise refuse 9 (too_many d b)
      otherwise next)
  unfolding batch_refusal
  spread next =
      let r3 = refuse 3 (ltb max_batch (length b)) in
      let r4 = refuse_op 4 (λ earlier o. not (row_fits o && preds_fit o)) b in
      let r5 = refuse_op 5 (id_taken d) b in
      let r6 = refuse_op 6 (λ earlier o. not (object_fits (all_rows d b) o)) b in
      let r7 = refuse_op 7 (λ earlier o. not (element_fits (all_rows d b) o)) b in
      let r8 = refuse_op 8 (λ earlier o. not (preds_exist (all_rows d b) o)) b in
      let r9 = refuse 9 (too_many d b) in
      assoc r3 (r4 otherwise r5 otherwise r6 otherwise r7 otherwise r8 otherwise r9) next
      ∙ on r3 (λ t3. assoc r4 (r5 otherwise r6 otherwise r7 otherwise r8 otherwise r9) next
      ∙ on r4 (λ t4. assoc r5 (r6 otherwise r7 otherwise r8 otherwise r9) next
      ∙ on r5 (λ t5. assoc r6 (r7 otherwise r8 otherwise r9) next
      ∙ on r6 (λ t6. assoc r7 (r8 otherwise r9) next
      ∙ on r7 (λ t7. assoc r8 r9 next)))))

-- ---- the whole

module _ (n : ℕ) (rows : List ℕ) (m : ℕ) (succs : List ℕ) (k : ℕ) (ops : List ℕ) where
  -- how many rows and successors there will be
  abbrev pub counted : Answer
  counted =
      accepted (length (all_rows (document_in n rows m succs) (batch_in k ops)) ∷ length (all_succs (document_in n rows m succs) (batch_in k ops)) ∷ [])

  pub checked-defined : T (well_formed (document_in n rows m succs)) → Lent n rows m succs k ops → ((j : ℕ) → get_or rows j 0 < word_range) → ((j : ℕ) → get_or ops j 0 < word_range)
      → checked n rows m succs k ops ≡ (batch_refusal (document_in n rows m succs) (batch_in k ops) otherwise counted)
  unfolding checked first_refusal
  checked-defined well lent range-rows range-ops =
      let d = document_in n rows m succs in
      let b = batch_in k ops in
      let plain = rows-plain n rows range-rows lent.rows-there ((formed d).0 well).rows_fit in
      let fit : T (is_accepted (refuse_op 4 (λ earlier o. not (row_fits o && preds_fit o)) b)) → All (λ o. T (row_fits o)) b =
      λ t o i. ((T_and (row_fits o) (preds_fit o)).0 ((all-accepted 4 (λ o. row_fits o && preds_fit o) b).0 t o i)).0 in
      let ops-fit : T (is_accepted (refuse_op 4 (λ earlier o. not (row_fits o && preds_fit o)) b)) → All (λ o. Plain (row_of o)) b = λ t. ops-plain k ops range-ops lent.ops-there (fit t) in
      rw (lent-true n rows m succs k ops lent)
      (swap (ap (λ (v : ℕ). refuse 3 (ltb max_batch v)) (sym (length-pieces op_words k ops)))
      (λ t3. swap (four d b) (λ t4. swap (five d b) (λ t5. swap (six d b) (λ t6. swap (seven d b (fit t4)) (λ t7. swap (eight d b plain (ops-fit t4)) (λ t8. limited-is d b))))))
      ∙ sym (spread d b counted))
