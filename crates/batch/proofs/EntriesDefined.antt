-- The entries that the code writes are the definition's, where no Delete has a counter's kind of value (check 4).
use mathlib.Core.Path.{◌≡◌, refl, sym, ap, ◌∙◌}
use mathlib.Core.Bool.{Bool, false, not, ◌||◌}
use mathlib.Core.List.{List, [], ◌∷◌, ◌++◌, map}
use Prim.Native.Nat.{ℕ}
use lib.Dec.{T, eqb, lit<}
use Rattle.model.specs.Basic.{any}
use Rattle.model.specs.Row.{Row, Op, id_of, is_delete, is_counter, rows_with, row_of, preds_of}
use Rattle.model.specs.Document.{new_rows, entry, new_succs}
use Rattle.laws.proofs.Tests.{by-test, is_true, is_false, and-false}
use Rattle.laws.proofs.Members.{All, here, there, any_append, map-ext, concat_map-ext}
use Rattle.laws.proofs.RowWords.{word_of}
use Rattle.batch.specs.Entries.{counts, counter_in, counter_among, carried, entry_by, entries_of, new_entries}

module _ (p : ℕ) where
  named-counter : (l : List Row) → any is_counter (rows_with l p) ≡ any (counts p) l
  unfolding counts
  named-counter [] = refl
  named-counter (r ∷ l) =
      let rest = named-counter l in
      by-test (eqb (id_of r) p) (λ t. rw (is_true (eqb (id_of r) p) t, rest)) (λ t. rw (is_false (eqb (id_of r) p) t, rest))

  row_counts : (o : Op) → counts p (row_of o) ≡ counts p o
  unfolding counts
  row_counts o = rw (word_of o 0 (lit< tt), word_of o 10 (lit< tt))

  no-counts : (o : Op) → T (not (is_counter o)) → counts p o ≡ false
  unfolding counts
  no-counts o t = rw (is_false (is_counter o) t) (and-false (eqb (id_of o) p))

  new-counts : (b : List Op) → All (λ o. T (is_delete o) → T (not (is_counter o))) b → any (counts p) (new_rows b) ≡ any (counts p) b
  unfolding new_rows
  new-counts [] h = refl
  new-counts (o ∷ b) h =
      let rest = new-counts b (λ x m. h x (there m)) in
      by-test (is_delete o) (λ t. rw (is_true (is_delete o) t, no-counts o (h o (here refl) t)) rest) (λ t. rw (is_false (is_delete o) t, row_counts o) (ap (λ (v : Bool). counts p o || v) rest))

  among-all : (rs : List Row) (b : List Op) → All (λ o. T (is_delete o) → T (not (is_counter o))) b → counter_among rs b p ≡ any is_counter (rows_with (rs ++ new_rows b) p)
  unfolding counter_among counter_in
  among-all rs b h =
      ap (λ (v : Bool). any (counts p) rs || v) (sym (new-counts b h)) ∙ sym (any_append (counts p) rs (new_rows b)) ∙ sym (named-counter (rs ++ new_rows b))

entry-defined : (rs : List Row) (o : Op) (p : ℕ) (counter : Bool) → counter ≡ any is_counter (rows_with rs p) → entry_by counter o p ≡ entry rs o p
unfolding entry_by carried entry
entry-defined rs o p counter e = rw e

pub entries-defined : (rs : List Row) (b : List Op) → All (λ o. T (is_delete o) → T (not (is_counter o))) b → new_entries (counter_among rs b) b ≡ new_succs (rs ++ new_rows b) b
unfolding new_entries new_succs entries_of
entries-defined rs b h =
    concat_map-ext (λ o. map (λ p. entry_by (counter_among rs b p) o p) (preds_of o)) (λ o. map (entry (rs ++ new_rows b) o) (preds_of o)) b
    (λ o i. map-ext (λ p. entry_by (counter_among rs b p) o p) (entry (rs ++ new_rows b) o) (preds_of o) (λ p m. entry-defined (rs ++ new_rows b) o p (counter_among rs b p) (among-all p rs b h)))
