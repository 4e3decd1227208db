-- Well-formed documents, a case for each clause of each sentence of that section, as one table with a single claim.
use Rattle.std.specs.Prelude.{ℕ, zero, suc, ◌^◌, ◌≡◌, refl, Bool, true, false, not, List, [], ◌∷◌, replicate}
use Rattle.model.specs.Id.{root, head}
use Rattle.model.specs.Kinds.{delete, increment, null_kind, signed_kind, counter_kind}
use Rattle.model.specs.Row.{Op, Succ}
use Rattle.model.specs.Document.{Document}
use Rattle.model.specs.WellFormed.{well_formed, counts_fit, succ_rows_fit, deletes_fit}
use Rattle.model.specs.Write.{◌#◌, key, key2, at, op, put, plain, carrying, makes_map, makes_list, sets, inserts, increments}
use Rattle.model.specs.Ground.{each, document, ground, k, good}
use Rattle.model.specs.Rules.{computes}

-- well-formed, or not: the rows of these operations, with these entries
abbrev formed : List Op → List Succ → Bool
formed os succs = well_formed (document os succs)

abbrev broken : List Op → List Succ → Bool
broken os succs = not (formed os succs)

-- ids, and rows with them: a null at "k", a counter there; a null at "l"
abbrev one : ℕ
one = 1 # 0

abbrev two : ℕ
two = 2 # 0

abbrev three : ℕ
three = 3 # 0

abbrev four : ℕ
four = 4 # 0

abbrev count : ℕ → Op
count i = sets i root k counter_kind 1 []

abbrev other : ℕ → Op
other i = sets i root (key 108) null_kind 0 []

-- an Increment by 2
abbrev raise : ℕ → Op
raise i = increments i root k 2 []

-- list 1@0, inserts and updates in it
abbrev list : Op
list = makes_list one root k

abbrev insert : ℕ → ℕ → Op
insert i e = inserts i one e null_kind 0

abbrev update : ℕ → ℕ → Op
update i e = sets i one (at e) null_kind 0 []

-- rows 1@0 to n@0 at "k", behind them others; entries of 20@0 in each of them
abbrev rows_to : ℕ → List Op → List Op
rows_to zero os = os
rows_to (suc n) os = rows_to n (good (suc n # 0) ∷ os)

abbrev entries_to : ℕ → List Succ → List Succ
entries_to zero succs = succs
entries_to (suc n) succs = entries_to n (plain (suc n # 0) (20 # 0) ∷ succs)

-- entries of 1@0: as many successors, each another
abbrev deletes_to : ℕ → List Succ → List Succ
deletes_to zero succs = succs
deletes_to (suc n) succs = deletes_to n (plain one (suc n # 1) ∷ succs)

unfoldable pub documents : List Bool
documents =
    formed [] []
    ∷ well_formed ground
    -- "Counts within limits"
    ∷ counts_fit (record { rows = replicate 4_096 []; succs = replicate 8_192 [] })
    ∷ not (counts_fit (record { rows = replicate 4_097 []; succs = [] }))
    ∷ not (counts_fit (record { rows = []; succs = replicate 8_193 [] }))
    -- "no row is a Delete"
    ∷ broken (put 9 delete (good one) ∷ []) []
    -- "each row passes checks 4": an insert flag of 2, an Increment as an insert
    ∷ formed (good one ∷ []) []
    ∷ broken (put 8 2 (good one) ∷ []) []
    ∷ broken (list ∷ insert two head ∷ op three one (at two) 1 increment signed_kind 1 [] ∷ []) (plain two three ∷ [])
    -- ".. 6": an insert flag with a map key; an object that is no row
    ∷ broken (put 8 1 (good one) ∷ []) []
    ∷ broken (sets two one k null_kind 0 [] ∷ []) []
    ∷ formed (makes_map one root k ∷ sets two one k null_kind 0 [] ∷ []) []
    -- ".. and 7": an element that is no row
    ∷ broken (list ∷ insert three two ∷ []) []
    ∷ formed (list ∷ insert two head ∷ insert three two ∷ []) []
    -- "row ids differ": in one object, in two
    ∷ broken (good one ∷ other one ∷ []) []
    ∷ broken (good two ∷ makes_map one root (key 108) ∷ sets two one k null_kind 0 [] ∷ []) []
    -- "rows stand in order": by object, key, id, element
    ∷ broken (sets two one k null_kind 0 [] ∷ makes_map one root k ∷ []) []
    ∷ broken (other one ∷ good two ∷ []) []
    ∷ broken (good two ∷ good one ∷ []) []
    ∷ broken (sets one root (key2 107 0) null_kind 0 [] ∷ good two ∷ []) []
    ∷ broken (list ∷ insert two head ∷ insert three head ∷ []) []
    ∷ formed (list ∷ insert three head ∷ insert two head ∷ []) []
    ∷ broken (list ∷ update three two ∷ insert two head ∷ []) []
    -- "Successors strictly ascend": of one row, of two
    ∷ formed (good one ∷ []) (plain one two ∷ plain one three ∷ [])
    ∷ broken (good one ∷ []) (plain one two ∷ plain one two ∷ [])
    ∷ broken (good one ∷ []) (plain one three ∷ plain one two ∷ [])
    ∷ formed (good one ∷ good two ∷ []) (plain one four ∷ plain two three ∷ [])
    ∷ broken (good one ∷ good two ∷ []) (plain two three ∷ plain one four ∷ [])
    -- "and exceed their row's id"
    ∷ broken (good two ∷ []) (plain two one ∷ [])
    ∷ broken (good one ∷ []) (plain one one ∷ [])
    -- "Increment rows have none"; nor has what is no row
    ∷ broken (count one ∷ raise two ∷ []) (carrying one two 2 ∷ plain two three ∷ [])
    ∷ broken (good two ∷ []) (plain one three ∷ [])
    ∷ formed (makes_map one root k ∷ makes_list two root k ∷ []) (plain one three ∷ plain two three ∷ [])
    -- "A successor that has a row is a non-insert row": asked of the rule, since an insert's id is the smallest of its element's
    ∷ not (succ_rows_fit (document (list ∷ insert two head ∷ update three two ∷ []) (plain three two ∷ [])))
    ∷ formed (list ∷ insert two head ∷ update three two ∷ []) (plain two three ∷ [])
    -- "of the same object and key"
    ∷ broken (good one ∷ other two ∷ []) (plain one two ∷ [])
    ∷ broken (makes_map one root k ∷ sets two one k null_kind 0 [] ∷ []) (plain one two ∷ [])
    ∷ broken (list ∷ insert three head ∷ insert two head ∷ update four three ∷ []) (plain two four ∷ [])
    ∷ broken (list ∷ insert three head ∷ insert two head ∷ []) (plain two three ∷ [])
    -- "One that has none (a Delete) has an id in range"
    ∷ broken (good one ∷ []) (plain one (2 ^ 38) ∷ [])
    -- "and stands only in rows of one object and key"; other Deletes are others
    ∷ formed (good one ∷ good two ∷ []) (plain one three ∷ plain two three ∷ [])
    ∷ formed (good one ∷ other two ∷ []) (plain one three ∷ plain two four ∷ [])
    ∷ broken (good one ∷ other two ∷ []) (plain one three ∷ plain two three ∷ [])
    ∷ broken (good two ∷ makes_map one root (key 108) ∷ sets three one k null_kind 0 [] ∷ []) (plain two four ∷ plain three four ∷ [])
    ∷ broken (list ∷ insert three head ∷ insert two head ∷ []) (plain two four ∷ plain three four ∷ [])
    -- asked of the rule: one that has a row is another sentence's
    ∷ deletes_fit (document (good one ∷ other two ∷ other three ∷ []) (plain one three ∷ plain two three ∷ []))
    -- "No id is a successor of more than 16 rows.": of a Delete, of one that has a row
    ∷ formed (rows_to 16 []) (entries_to 16 [])
    ∷ broken (rows_to 17 []) (entries_to 17 [])
    ∷ formed (rows_to 17 (good (20 # 0) ∷ [])) (entries_to 16 [])
    ∷ formed (good one ∷ []) (deletes_to 17 [])
    ∷ broken (rows_to 17 (good (20 # 0) ∷ [])) (entries_to 17 [])
    -- "Every Increment row is a successor of some row."
    ∷ broken (count one ∷ raise two ∷ []) []
    ∷ broken (count one ∷ raise two ∷ []) (plain one three ∷ [])
    -- "The increment is present exactly for a counter's Increment successor, with its number"
    ∷ formed (count one ∷ raise two ∷ []) (carrying one two 2 ∷ [])
    ∷ broken (count one ∷ raise two ∷ []) (carrying one two 3 ∷ [])
    ∷ broken (count one ∷ raise two ∷ []) (plain one two ∷ [])
    ∷ broken (count one ∷ raise two ∷ []) ((one ∷ two ∷ 0 ∷ 2 ∷ []) ∷ [])
    ∷ broken (count one ∷ raise two ∷ []) ((one ∷ two ∷ 2 ∷ 2 ∷ []) ∷ [])
    -- not where the row is no counter, or the successor a Set or a Delete
    ∷ formed (good one ∷ raise two ∷ []) (plain one two ∷ [])
    ∷ broken (good one ∷ raise two ∷ []) (carrying one two 2 ∷ [])
    ∷ formed (count one ∷ good two ∷ []) (plain one two ∷ [])
    ∷ broken (count one ∷ good two ∷ []) (carrying one two 0 ∷ [])
    ∷ formed (count one ∷ []) (plain one two ∷ [])
    ∷ broken (count one ∷ []) (carrying one two 0 ∷ [])
    -- "where absent its field is zero"
    ∷ broken (good one ∷ []) ((one ∷ two ∷ 0 ∷ 7 ∷ []) ∷ [])
    ∷ []

pub documents-right : each documents ≡ true
unfolding documents computes
documents-right = refl

-- A document of more than 4,096 rows is too dear to compute with, so that this is said of any: its count alone breaks it.
pub counts-asked : (d : Document) → counts_fit d ≡ false → well_formed d ≡ false
unfolding well_formed
counts-asked d over = rw over
