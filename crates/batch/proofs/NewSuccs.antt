-- The successor entries of a batch that is not refused: they are the definition's, few, apart, and merging them into the document's sorts both.
use mathlib.Core.Path.{◌≡◌, refl, sym, ap, ap₂, ◌∙◌}
use mathlib.Core.Bool.{Bool, not, ◌&&◌}
use mathlib.Core.List.{List, [], ◌∷◌, ◌++◌, map}
use Prim.Native.Nat.{ℕ, ◌+◌, ◌*◌, ◌≤◌}
use native.Mathlib.Omega.{arith}
use lib.Dec.{T, eqb, eqb→eq}
use lib.ListN.{length, length-append, length-map}
use Rattle.model.specs.Basic.{sort, concat_map}
use Rattle.model.specs.Sizes.{max_succs, max_batch, max_preds, succ_words, room_words}
use Rattle.model.specs.Kinds.{null_kind, delete}
use Rattle.model.specs.Row.{Row, Op, Succ, action_of, value_kind_of, value_of, is_delete, is_counter, preds_of, succ_of}
use Rattle.model.specs.Document.{Document, all_rows, entry, new_succs, all_succs, succ_before}
use Rattle.model.specs.Malformed.{value_fits, preds_fit}
use Rattle.laws.proofs.Tests.{T_and}
use Rattle.laws.proofs.Members.{All, here, there}
use Rattle.laws.proofs.Pairs.{key-distinct-nodup, pairwise_append}
use Rattle.laws.proofs.Sort.{Sorted, sort_sorted, sort-from}
use Rattle.laws.proofs.Perms.{perm-append, perm-refl, sort-perm-self, sort-perm}
use Rattle.laws.proofs.Placing.{merge-sort}
use Rattle.laws.proofs.RowOrder.{pair_of, SuccsApart, succ-order}
use Rattle.laws.proofs.RowFits.{fits}
use Rattle.laws.proofs.Accepted.{Sound}
use Rattle.laws.proofs.Formed.{Formed}
use Rattle.laws.proofs.Entries.{succ-of, preds-few, new-succs-from, new-succs-apart, succs-sorted, succs-apart, sorted_apart}
use Rattle.batch.specs.Merge.{merge}
use Rattle.batch.specs.Entries.{counter_among, entry_by, entries_of, new_entries, max_entries}
use Rattle.batch.proofs.EntriesDefined.{entries-defined}

-- ── how many
-- as many as the definition's, whoever is a counter
pub entries-count : (counter : ℕ → Bool) (rs : List Row) (b : List Op) → length (new_entries counter b) ≡ length (new_succs rs b)
unfolding new_entries new_succs entries_of
entries-count counter rs [] = refl
entries-count counter rs (o ∷ b) =
    let f : ℕ → Succ = λ p. entry_by (counter p) o p in
    length-append (map f (preds_of o)) (concat_map (entries_of counter) b)
    ∙ ap₂ ◌+◌ (length-map (preds_of o) f ∙ sym (length-map (preds_of o) (entry rs o))) (entries-count counter rs b)
    ∙ sym (length-append (map (entry rs o) (preds_of o)) (concat_map (λ c. map (entry rs c) (preds_of c)) b))

all-count : (d : Document) (b : List Op) → length (all_succs d b) ≡ length d.succs + length (new_succs (all_rows d b) b)
unfolding all_succs
all-count d b = length-append d.succs (new_succs (all_rows d b) b)

news-few : (rs : List Row) (b : List Op) → All (λ o. T (preds_fit o)) b → length (new_succs rs b) ≤ length b * max_preds
unfolding new_succs
news-few rs [] f = omega arith
news-few rs (o ∷ b) f =
    omega (
      arith,
      length-append (map (entry rs o) (preds_of o)) (concat_map (λ c. map (entry rs c) (preds_of c)) b),
      length-map (preds_of o) (entry rs o),
      preds-few o (f o (here refl)),
      news-few rs b (λ c m. f c (there m)),
    )

-- the working room holds them
pub room-enough : max_entries * succ_words ≤ room_words
unfolding max_batch room_words
room-enough = omega arith

-- ── a Delete has no value, so it is no counter
delete-plain : (o : Op) → T (value_fits o) → T (is_delete o) → T (not (is_counter o))
unfolding value_fits
delete-plain o v t =
    let e : action_of o ≡ delete = eqb→eq (action_of o) delete t in
    let u : T (eqb (value_kind_of o) null_kind && eqb (value_of o) 0) = rw e at v in
    let k : value_kind_of o ≡ null_kind = eqb→eq (value_kind_of o) null_kind ((T_and (eqb (value_kind_of o) null_kind) (eqb (value_of o) 0)).0 u).0 in
    rw k tt

module _ (d : Document) (b : List Op) (s : Sound d b) where
  pub entries-new : new_entries (counter_among d.rows b) b ≡ new_succs (all_rows d b) b
  unfolding all_rows
  entries-new = entries-defined d.rows b (λ o m. delete-plain o (fits o (s.rows_fit o m)).value)

  pub new-few : length b ≤ max_batch → length (new_succs (all_rows d b) b) ≤ max_entries
  new-few h = omega (arith, news-few (all_rows d b) b s.preds-fit)

  pub new_apart : SuccsApart (new_succs (all_rows d b) b)
  new_apart = new-succs-apart (all_rows d b) b s.apart s.preds-fit

  pub all-few : length d.succs + length (new_succs (all_rows d b) b) ≤ max_succs
  all-few = omega (arith, all-count d b, s.succs-few)

  -- ── merged
  pub merge-all : Formed d → merge succ_before d.succs (sort succ_before (new_succs (all_rows d b) b)) ≡ sort succ_before (all_succs d b)
  unfolding merge all_succs
  merge-all f =
      let xs = d.succs in
      let ys = new_succs (all_rows d b) b in
      let sorted : Sorted succ_before (sort succ_before ys) = sort_sorted succ_before ys (succ-order ys new_apart) (key-distinct-nodup pair_of ys new_apart) in
      let apart : SuccsApart (xs ++ sort succ_before ys) =
      pairwise_append xs (sort succ_before ys) (succs-apart xs f.ascend) (sorted_apart (sort succ_before ys) sorted)
      (λ x y m n e.
      let q = new-succs-from (all_rows d b) b (sort-from succ_before ys n) in
      (s.new q.0 q.2).1 x m (sym (ap (λ u. u.1) e ∙ ap succ_of q.4 ∙ succ-of (all_rows d b) q.0 q.1))) in
      let order = succ-order (xs ++ sort succ_before ys) apart in
      let once = key-distinct-nodup pair_of (xs ++ sort succ_before ys) apart in
      merge-sort succ_before xs (sort succ_before ys) order once (succs-sorted xs f.ascend) sorted
      ∙ sort-perm succ_before (xs ++ sort succ_before ys) (xs ++ ys) order once (perm-append (perm-refl xs) (sort-perm-self succ_before ys))
