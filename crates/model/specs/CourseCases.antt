-- Courses of batches and what is read back from a document, a case for each clause, as one table with a single claim.
use Rattle.std.specs.Prelude.{ℕ, ◌≡◌, refl, Bool, true, not, List, [], ◌∷◌, ◌++◌, map, replicate}
use Rattle.model.specs.Basic.{same, same_all}
use Rattle.model.specs.Sizes.{word_range}
use Rattle.model.specs.Id.{root, head}
use Rattle.model.specs.Kinds.{null_kind, unsigned_kind, counter_kind}
use Rattle.model.specs.Row.{Op, id_of, row_of}
use Rattle.model.specs.Document.{Document, empty}
use Rattle.model.specs.Course.{course, course_accepted, refers_to, refers_within, cut_well, operations_of, covered_ops, closed_clock, shaped, shaped_ops, shaped_document}
use Rattle.model.specs.Write.{◌#◌, key, at, plain, carrying, makes_map, makes_list, sets, inserts, deletes, increments, most, until}
use Rattle.model.specs.Ground.{each, document, k}
use Rattle.model.specs.Rules.{computes}

-- ---- a document and its operations

-- map 1@0 with two numbers at "k", which Delete 4@0 deletes both; list 5@0 with element 6@0, whose row 7@1 is overwritten by 8@0, both then deleted by
-- 9@0 with the insert row; counter 10@0 at ROOT "k", raised by 11@0, deleted by 12@0 and, at the same time, by 12@1
abbrev made : List Op
made =
    makes_map (1 # 0) root (key 109) ∷ sets (2 # 0) (1 # 0) k unsigned_kind 2 [] ∷ sets (3 # 0) (1 # 0) k unsigned_kind 3 []
    ∷ deletes (4 # 0) (1 # 0) k (2 # 0 ∷ 3 # 0 ∷ []) ∷ makes_list (5 # 0) root (key 114) ∷ inserts (6 # 0) (5 # 0) head null_kind 0
    ∷ sets (7 # 1) (5 # 0) (at (6 # 0)) unsigned_kind 7 [] ∷ sets (8 # 0) (5 # 0) (at (6 # 0)) unsigned_kind 8 (7 # 1 ∷ [])
    ∷ deletes (9 # 0) (5 # 0) (at (6 # 0)) (6 # 0 ∷ 7 # 1 ∷ 8 # 0 ∷ []) ∷ sets (10 # 0) root k counter_kind 1 []
    ∷ increments (11 # 0) root k 5 (10 # 0 ∷ []) ∷ deletes (12 # 0) root k (10 # 0 ∷ []) ∷ deletes (12 # 1) root k (10 # 0 ∷ []) ∷ []

abbrev kept : Document
kept =
    document
    (sets (10 # 0) root k counter_kind 1 [] ∷ increments (11 # 0) root k 5 [] ∷ makes_map (1 # 0) root (key 109) ∷ makes_list (5 # 0) root (key 114)
    ∷ sets (2 # 0) (1 # 0) k unsigned_kind 2 [] ∷ sets (3 # 0) (1 # 0) k unsigned_kind 3 [] ∷ inserts (6 # 0) (5 # 0) head null_kind 0
    ∷ sets (7 # 1) (5 # 0) (at (6 # 0)) unsigned_kind 7 [] ∷ sets (8 # 0) (5 # 0) (at (6 # 0)) unsigned_kind 8 [] ∷ [])
    (plain (2 # 0) (4 # 0) ∷ plain (3 # 0) (4 # 0) ∷ plain (6 # 0) (9 # 0) ∷ plain (7 # 1) (8 # 0) ∷ plain (7 # 1) (9 # 0)
    ∷ plain (8 # 0) (9 # 0) ∷ carrying (10 # 0) (11 # 0) 5 ∷ plain (10 # 0) (12 # 0) ∷ plain (10 # 0) (12 # 1) ∷ [])

-- sixteen numbers at "k", 1@0 to 16@0, and what 20@0 does to all of them
abbrev sixteen : List ℕ → List ℕ
sixteen ids =
    1 # 0 ∷ 2 # 0 ∷ 3 # 0 ∷ 4 # 0 ∷ 5 # 0 ∷ 6 # 0 ∷ 7 # 0 ∷ 8 # 0 ∷ 9 # 0 ∷ 10 # 0 ∷ 11 # 0 ∷ 12 # 0 ∷ 13 # 0 ∷ 14 # 0 ∷ 15 # 0 ∷ 16 # 0 ∷ ids

abbrev numbers : List Op
numbers = map (λ i. sets i root k unsigned_kind 7 []) (sixteen [])

abbrev crowded : List Op → Document
crowded os = record { rows = map row_of (numbers ++ os); succs = map (λ i. plain i (20 # 0)) (sixteen []) }

-- ---- courses

-- a list; an insert in it; an insert on that
abbrev list : Op
list = makes_list (1 # 0) root k

abbrev insert : ℕ → ℕ → Op
insert i e = inserts i (1 # 0) e null_kind 0

-- the course of these batches on the empty document has rows in this order
abbrev leads : List (List Op) → List ℕ → Bool
leads batches wanted = same (map id_of (course empty batches).rows) wanted

-- batches may be cut so, with nothing before them
abbrev cut : List (List Op) → Bool
cut batches = cut_well [] batches

abbrev nulls : ℕ → List Op
nulls n = replicate n (sets (1 # 0) root k null_kind 0 [])

unfoldable pub courses : List Bool
courses =
    -- one batch after another, the first first; none
    leads ((list ∷ []) ∷ (insert (2 # 0) head ∷ []) ∷ (insert (3 # 0) head ∷ insert (4 # 0) (2 # 0) ∷ []) ∷ []) (1 # 0 ∷ 3 # 0 ∷ 2 # 0 ∷ 4 # 0 ∷ [])
    ∷ leads [] []
    -- accepted where each is, on what the earlier ones made
    ∷ course_accepted empty []
    ∷ course_accepted empty ((list ∷ []) ∷ (insert (2 # 0) head ∷ []) ∷ [])
    ∷ not (course_accepted empty ((insert (2 # 0) head ∷ []) ∷ (list ∷ []) ∷ []))
    ∷ not (course_accepted empty ((list ∷ []) ∷ (list ∷ []) ∷ []))
    -- what an operation refers to: object, element, predecessors; ROOT and HEAD are none
    ∷ same (refers_to list) []
    ∷ same (refers_to (insert (2 # 0) head)) (1 # 0 ∷ [])
    ∷ same (refers_to (deletes (5 # 0) (1 # 0) (at (2 # 0)) (3 # 0 ∷ 4 # 0 ∷ []))) (1 # 0 ∷ 2 # 0 ∷ 3 # 0 ∷ 4 # 0 ∷ [])
    ∷ refers_within [] list
    ∷ refers_within (insert (2 # 0) head ∷ list ∷ []) (insert (3 # 0) (2 # 0))
    ∷ not (refers_within (list ∷ []) (insert (3 # 0) (2 # 0)))
    ∷ not (refers_within (insert (2 # 0) head ∷ []) (insert (3 # 0) (2 # 0)))
    -- cut well: what is referred to comes in an earlier batch or its own, wherever there; not in a later one
    ∷ cut []
    ∷ cut ((list ∷ []) ∷ (insert (2 # 0) head ∷ []) ∷ (insert (3 # 0) (2 # 0) ∷ []) ∷ [])
    ∷ cut ((insert (3 # 0) (2 # 0) ∷ insert (2 # 0) head ∷ list ∷ []) ∷ [])
    ∷ not (cut ((list ∷ insert (3 # 0) (2 # 0) ∷ []) ∷ (insert (2 # 0) head ∷ []) ∷ []))
    ∷ not (cut ((list ∷ []) ∷ (insert (3 # 0) (2 # 0) ∷ []) ∷ (insert (2 # 0) head ∷ []) ∷ []))
    ∷ cut_well (list ∷ []) ((insert (2 # 0) head ∷ []) ∷ [])
    -- "Batches of 256 and 257": the first, a later one
    ∷ cut (nulls 256 ∷ nulls 256 ∷ [])
    ∷ not (cut (nulls 257 ∷ []))
    ∷ not (cut ((list ∷ []) ∷ nulls 257 ∷ []))
    -- the operations of a document: each as it was merged, ascending by id
    ∷ same_all (operations_of kept) made
    ∷ same_all (operations_of empty) []
    ∷ same_all (operations_of (course empty (made ∷ []))) made
    -- a Delete of sixteen rows; a Set that overwrites them
    ∷ same_all (operations_of (crowded [])) (numbers ++ deletes (20 # 0) root k (sixteen []) ∷ [])
    ∷ same_all (operations_of (crowded (sets (20 # 0) root k null_kind 0 [] ∷ []))) (numbers ++ sets (20 # 0) root k null_kind 0 (sixteen []) ∷ [])
    -- those that a clock covers
    ∷ same_all (covered_ops [] kept) made
    ∷ same (map id_of (covered_ops (until (6 ∷ 7 ∷ [])) kept)) (1 # 0 ∷ 2 # 0 ∷ 3 # 0 ∷ 4 # 0 ∷ 5 # 0 ∷ 6 # 0 ∷ 7 # 1 ∷ [])
    ∷ same (map id_of (covered_ops (until (1 ∷ 12 ∷ [])) kept)) (1 # 0 ∷ 7 # 1 ∷ 12 # 1 ∷ [])
    -- and a clock that covers all that they refer to: not without an object, an element, a predecessor
    ∷ closed_clock [] kept
    ∷ closed_clock (until (0 ∷ 0 ∷ [])) kept
    ∷ closed_clock (until (6 ∷ 7 ∷ [])) kept
    ∷ closed_clock (until (10 ∷ 12 ∷ [])) kept
    ∷ not (closed_clock (until (4 ∷ 7 ∷ [])) kept)
    ∷ not (closed_clock (until (5 ∷ 7 ∷ [])) kept)
    ∷ not (closed_clock (until (8 ∷ 0 ∷ [])) kept)
    ∷ not (closed_clock (until (9 ∷ 12 ∷ [])) kept)
    -- each piece has its width, each word is below 2^64
    ∷ shaped 2 []
    ∷ shaped 2 ((1 ∷ most ∷ []) ∷ (0 ∷ 0 ∷ []) ∷ [])
    ∷ not (shaped 2 ((1 ∷ 2 ∷ []) ∷ (1 ∷ []) ∷ []))
    ∷ not (shaped 2 ((1 ∷ 2 ∷ 3 ∷ []) ∷ []))
    ∷ not (shaped 2 ((1 ∷ word_range ∷ []) ∷ []))
    ∷ not (shaped 2 ((1 ∷ 2 ∷ []) ∷ (word_range ∷ 1 ∷ []) ∷ []))
    ∷ shaped_ops made
    ∷ not (shaped_ops (map row_of made))
    ∷ shaped_document kept
    ∷ not (shaped_document (record { rows = made; succs = [] }))
    ∷ not (shaped_document (record { rows = []; succs = (1 ∷ 2 ∷ 0 ∷ []) ∷ [] }))
    ∷ []

pub courses-right : each courses ≡ true
unfolding courses computes
courses-right = refl
