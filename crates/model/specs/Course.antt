-- Whole histories (demand 3): courses of batches, what an operation refers to, and the operations that a document was made of.
use Rattle.std.specs.Prelude.{ℕ, ◌-◌, Bool, true, not, ◌&&◌, List, [], ◌∷◌, ◌++◌, map, leb, ltb, eqb, length, replicate, take, if◌then◌else◌}
use Rattle.model.specs.Basic.{all, filter, concat_map, member, once, sort}
use Rattle.model.specs.Sizes.{max_batch, max_preds, row_words, op_words, succ_words, word_range}
use Rattle.model.specs.Kinds.{delete, null_kind}
use Rattle.model.specs.Id.{root, covered}
use Rattle.model.specs.Row.{Row, Op, id_of, object_of, key_kind_of, named_of, key_length_of, key_words_of, preds_of, owner_of, succ_of, rows_with, on_list, element_of}
use Rattle.model.specs.Document.{Document, merged}
use Rattle.model.specs.Answer.{is_accepted}
use Rattle.model.specs.Calls.{merge_refusal}

-- a course: one batch merged after another
abbrev pub course : Document → List (List Op) → Document
course d [] = d
course d (b ∷ bs) = course (merged d b) bs

-- none of them refused
abbrev pub course_accepted : Document → List (List Op) → Bool
course_accepted d [] = true
course_accepted d (b ∷ bs) = is_accepted (merge_refusal d b) && course_accepted (merged d b) bs

-- what an operation refers to: its object, its element, its predecessors; ROOT and HEAD are no operations
unfoldable pub refers_to : Op → List ℕ
refers_to o = filter (λ i. not (eqb i root)) (object_of o ∷ named_of o ∷ preds_of o)

-- batches of at most 256 in which what an operation refers to comes in an earlier batch or its own
unfoldable pub refers_within : List Op → Op → Bool
refers_within known o = all (λ i. member i (map id_of known)) (refers_to o)

abbrev pub cut_well : List Op → List (List Op) → Bool
cut_well earlier [] = true
cut_well earlier (b ∷ bs) =
    leb (length b) max_batch && all (refers_within (earlier ++ b)) b && cut_well (earlier ++ b) bs

-- ---- the operations of a document, read back from its rows and successors

-- "its predecessors are the rows that have it as a successor"
unfoldable pub preds_in : Document → ℕ → List ℕ
preds_in d i = map owner_of (filter (λ s. eqb (succ_of s) i) d.succs)

-- a row's words with predecessors behind them, as an operation has them
unfoldable pub with_preds : Row → List ℕ → Op
with_preds r ps = r ++ length ps ∷ ps ++ replicate (max_preds - length ps) 0

-- a Delete of what stands at r's key
unfoldable pub delete_at : ℕ → Row → Row
delete_at i r =
    i ∷ object_of r ∷ key_kind_of r ∷ (if on_list r then element_of r else 0) ∷ key_length_of r ∷ key_words_of r
    ++ 0 ∷ delete ∷ null_kind ∷ 0 ∷ []

-- the successors that have no row: Deletes
unfoldable pub deleted_by : Document → List ℕ
deleted_by d = once (filter (λ i. not (member i (map id_of d.rows))) (map succ_of d.succs))

unfoldable pub delete_of : Document → ℕ → List Op
delete_of d i =
    map (λ r. with_preds (delete_at i r) (preds_in d i)) (concat_map (rows_with d.rows) (take 1 (preds_in d i)))

-- all of them, ascending by id
unfoldable pub operations_of : Document → List Op
operations_of d =
    sort (λ a b. ltb (id_of a) (id_of b))
    (map (λ r. with_preds r (preds_in d (id_of r))) d.rows ++ concat_map (delete_of d) (deleted_by d))

-- ---- clocks and shapes

-- the operations that a clock covers, and a clock that covers all that they refer to
unfoldable pub covered_ops : List ℕ → Document → List Op
covered_ops clock d = filter (λ o. covered clock (id_of o)) (operations_of d)

unfoldable pub closed_clock : List ℕ → Document → Bool
closed_clock clock d = all (λ o. all (covered clock) (refers_to o)) (covered_ops clock d)

-- What is cut from lent slices of 64-bit numbers: each piece has its width, each word is in range.
unfoldable pub shaped : ℕ → List (List ℕ) → Bool
shaped width pieces = all (λ ws. eqb (length ws) width && all (λ w. ltb w word_range) ws) pieces

abbrev pub shaped_ops : List Op → Bool
shaped_ops b = shaped op_words b

abbrev pub shaped_document : Document → Bool
shaped_document d = shaped row_words d.rows && shaped succ_words d.succs
