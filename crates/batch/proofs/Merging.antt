-- What the merge's parts rely on, from a well-formed document and a batch that passes its checks; and what they leave.
use Prim.Native.Nat.{ℕ, suc, ◌+◌, ◌*◌, ◌≤◌, ◌<◌}
use mathlib.Core.Path.{◌≡◌, refl, sym, ap, ap₂, subst, ◌∙◌}
use mathlib.Core.Bool.{not}
use mathlib.Core.List.{List, [], ◌∷◌, map}
use native.Mathlib.Nat.{mul-le-mul_right}
use native.Mathlib.Omega.{arith}
use lib.Dec.{T}
use lib.ListN.{length, get_or, length-append}
use Rattle.model.specs.Basic.{sort, pieces}
use Rattle.model.specs.Sizes.{max_rows, max_batch, row_words, op_words, room_words, word_range}
use Rattle.model.specs.Row.{Row, object_of, on_list}
use Rattle.model.specs.Order.{preorder, before, order}
use Rattle.model.specs.Document.{Document, new_rows, all_rows, all_succs, succ_before, merged}
use Rattle.model.specs.Calls.{document_in, batch_in}
use Rattle.laws.proofs.Members.{Mem, All, not-nil, on-mem}
use Rattle.laws.proofs.Pieces.{length-pieces}
use Rattle.laws.proofs.Sort.{sort-in, length-sort}
use Rattle.laws.proofs.Passes.{map_next}
use Rattle.laws.proofs.Formed.{Formed, formed}
use Rattle.laws.proofs.Accepted.{Sound, batch-accepted}
use Rattle.laws.proofs.Untangle.{row_in, olds}
use Rattle.checks.proofs.OneKey.{Plain}
use Rattle.batch.specs.Rank.{op_before, ordered}
use Rattle.batch.specs.Walk.{doc_from, new_rows_of}
use Rattle.batch.specs.Groups.{object_out, between, doc_out, Mergeable}
use Rattle.batch.specs.Answers.{Merging}
use Rattle.batch.proofs.MapRanks.{map-rank}
use Rattle.batch.proofs.GroupedRows.{doc-is, news-are, news-plain, grouped}
use Rattle.batch.proofs.RowsMerged.{ranked-maps, rows-kept, rows-merged, rows_stay}
use Rattle.batch.proofs.NewRows.{length-new}

-- words that are known by index
pub all_words : (b : ℕ) (l : List ℕ) → ((j : ℕ) → get_or l j 0 < b) → All (λ w. w < b) l
all_words b [] h = λ w m. absurd (not-nil m)
all_words b (x ∷ l) h = λ w m. on-mem m (λ e. rw e (h 0)) (all_words b l (λ j. h (suc j)) w)

-- the working room holds the walk's stack
stack-enough : (1 + max_rows + max_batch) * 2 ≤ room_words
unfolding max_rows max_batch room_words
stack-enough = omega arith

module _ (n : ℕ) (rows : List ℕ) (m : ℕ) (succs : List ℕ) (k : ℕ) (ops room : List ℕ) (g : Merging n rows m succs k ops room)
    (range-rows : (j : ℕ) → get_or rows j 0 < word_range) (range-ops : (j : ℕ) → get_or ops j 0 < word_range) where
  abbrev d : Document
  d = document_in n rows m succs

  abbrev b : List (List ℕ)
  b = batch_in k ops

  is-formed : Formed d
  is-formed = (formed d).0 g.fitting.well

  sound : Sound d b
  sound = ((batch-accepted d b).0 g.passes).1

  pub few-ops : k ≤ max_batch
  few-ops = subst (λ (l : ℕ). l ≤ max_batch) (length-pieces op_words k ops) ((batch-accepted d b).0 g.passes).0

  rows_words : All (λ w. w < word_range) rows
  rows_words = all_words word_range rows range-rows

  ops-words : All (λ w. w < word_range) ops
  ops-words = all_words word_range ops range-ops

  are-new : new_rows_of ops (ordered b) ≡ sort op_before (new_rows b)
  are-new = news-are k ops sound.apart

  is-doc : doc_from rows n 0 ≡ pieces row_words n rows
  is-doc = doc-is n rows

  plain : (r : Row) → Mem r (new_rows b) → Plain r
  plain r i = news-plain n rows m succs k ops is-formed sound g.fitting.rows_in g.fitting.ops-in rows_words ops-words r (subst (λ (l : List Row). Mem r l) (sym are-new) (sort-in op_before (new_rows b) i))

  ranked : (x y : Row) → Mem x (new_rows b) → Mem y (new_rows b) → object_of x ≡ object_of y → T (not (on_list x)) → map_next x y ≡ op_before x y
  ranked = ranked-maps d b is-formed sound (λ o x y i j v w. map-rank o x y (plain x i) (plain y j) v w)

  -- ── the walk over the slices is that over the document
  walk_is : doc_out (new_rows_of ops (ordered b)) (doc_from rows n 0) ≡ doc_out (sort op_before (new_rows b)) d.rows
  walk_is = ap₂ doc_out are-new is-doc

  kept_here : (o : ℕ) → olds (object_out (between o (suc o) (new_rows_of ops (ordered b))) (between o (suc o) (doc_from rows n 0))) ≡ between o (suc o) (doc_from rows n 0)
  kept_here o =
      subst (λ (l : List Row). olds (object_out (between o (suc o) l) (between o (suc o) (doc_from rows n 0))) ≡ between o (suc o) (doc_from rows n 0)) (sym are-new)
      (subst (λ (l : List Row). olds (object_out (between o (suc o) (sort op_before (new_rows b))) (between o (suc o) l)) ≡ between o (suc o) l) (sym is-doc) (rows-kept d b is-formed sound o))

  as_many : length (ordered b) ≡ length (new_rows b)
  as_many = sym (length-new ops (ordered b)) ∙ ap length are-new ∙ length-sort op_before (new_rows b)

  all-rows : n + length (ordered b) ≤ max_rows
  unfolding all_rows
  all-rows = omega (arith, sound.rows_few, length-append d.rows (new_rows b), length-pieces row_words n rows, as_many)

  pub mergeable : Mergeable rows n ops (ordered b)
  mergeable =
      record {
        walks = grouped n rows m succs k ops is-formed sound g.fitting.rows_in g.fitting.ops-in rows_words ops-words kept_here;
        stays = ap olds walk_is ∙ rows_stay d b is-formed sound ranked ∙ sym is-doc;
        fits = omega (arith, mul-le-mul_right row_words all-rows, g.fitting.rows-size);
      }

  pub rows_are : map row_in (doc_out (new_rows_of ops (ordered b)) (doc_from rows n 0)) ≡ (merged d b).rows
  unfolding merged
  rows_are = ap (map row_in) walk_is ∙ rows-merged d b is-formed sound ranked

  pub succs-are : sort succ_before (all_succs d b) ≡ (merged d b).succs
  unfolding merged
  succs-are = refl

  pub stack-fits : (1 + n + max_batch) * 2 ≤ length room
  stack-fits = omega (arith, stack-enough, is-formed.rows_few, length-pieces row_words n rows, g.fitting.room-size)

  -- ── the counts
  pub row_count : length (all_rows d b) ≡ length (merged d b).rows
  unfolding merged order
  row_count = sym (length-sort (before (preorder (all_rows d b))) (all_rows d b))

  pub succ-count : length (all_succs d b) ≡ length (merged d b).succs
  unfolding merged
  succ-count = sym (length-sort succ_before (all_succs d b))
