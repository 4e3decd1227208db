-- Checks 3 and 5 to 9, a case for each of their clauses, as one table with a single claim.
use Rattle.std.specs.Prelude.{ℕ, ◌≡◌, refl, Bool, true, not, List, [], ◌∷◌, replicate}
use Rattle.model.specs.Id.{root, head}
use Rattle.model.specs.Kinds.{set, make_list, null_kind}
use Rattle.model.specs.Row.{Op, row_of}
use Rattle.model.specs.Document.{Document}
use Rattle.model.specs.Refusal.{too_many, batch_refusal}
use Rattle.model.specs.Write.{◌#◌, key, key2, at, op, plain, makes_map, makes_list, sets, inserts, deletes, increments}
use Rattle.model.specs.Ground.{each, the_list, the_map, the_element, the_counter, the_delete, k, is_refused, refuses, accepts, good}
use Rattle.model.specs.Rules.{computes}

-- ids that nothing in the document has: two of operations, the first the smaller, and one that no operation has
abbrev new : ℕ
new = 20 # 0

abbrev newer : ℕ
newer = 21 # 0

abbrev none : ℕ
none = 9 # 9

-- a document of so many rows at "k" and entries of the first: nothing but 9 asks how many there are, or whether they differ
abbrev crowd : ℕ → ℕ → Document
crowd n m = record { rows = replicate n (row_of (good (1 # 0))); succs = replicate m (plain (1 # 0) (2 # 0)) }

-- a Delete of that row
abbrev delete : Op
delete = deletes new root k (1 # 0 ∷ [])

-- operations on the document: a Set at "k", in the list, on its element
abbrev set_after : ℕ → List ℕ → Op
set_after i ps = sets i root k null_kind 0 ps

abbrev insert_in : ℕ → ℕ → ℕ → Op
insert_in i o e = inserts i o e null_kind 0

abbrev update : ℕ → ℕ → List ℕ → Op
update i e ps = sets i the_list (at e) null_kind 0 ps

unfoldable pub refusals : List Bool
refusals =
    -- "Empty batch: 0"; "batch over 256 operations": those of no words are 4 where they are not 3
    accepts []
    ∷ refuses (replicate 256 []) 4 0
    ∷ refuses (replicate 257 []) 3 0
    -- 5: "id also earlier in the batch", a Delete's too; "or in the document as row or successor"
    ∷ refuses (good new ∷ good newer ∷ good new ∷ []) 5 2
    ∷ refuses (deletes new root k (the_counter ∷ []) ∷ good new ∷ []) 5 1
    ∷ refuses (good the_counter ∷ []) 5 0
    ∷ refuses (good new ∷ good the_element ∷ []) 5 1
    ∷ refuses (good new ∷ good the_delete ∷ []) 5 1
    -- 6: "the object isn't ROOT and no Make row has its id"
    ∷ accepts (sets new the_map k null_kind 0 [] ∷ [])
    ∷ refuses (sets new none k null_kind 0 [] ∷ []) 6 0
    ∷ refuses (sets new the_counter k null_kind 0 [] ∷ []) 6 0
    ∷ refuses (sets new the_element k null_kind 0 [] ∷ []) 6 0
    ∷ refuses (insert_in new none head ∷ []) 6 0
    ∷ refuses (insert_in new the_counter head ∷ []) 6 0
    ∷ refuses (deletes new root k (the_counter ∷ []) ∷ sets newer new k null_kind 0 [] ∷ []) 6 1
    -- ".. smaller than the op's": made later, though earlier in the batch; itself
    ∷ refuses (makes_map newer root k ∷ sets new newer k null_kind 0 [] ∷ []) 6 1
    ∷ refuses (makes_list newer root k ∷ insert_in new newer head ∷ []) 6 1
    ∷ refuses (makes_map new new k ∷ []) 6 0
    ∷ refuses (op new new (at head) 1 make_list null_kind 0 [] ∷ []) 6 0
    -- "or its kind doesn't fit key and insert flag": a list key in a map, in ROOT; a map key in a list; an insert flag with a map key
    ∷ refuses (insert_in new the_map head ∷ []) 6 0
    ∷ refuses (sets new the_map (at the_element) null_kind 0 [] ∷ []) 6 0
    ∷ refuses (insert_in new root head ∷ []) 6 0
    ∷ refuses (sets new the_list k null_kind 0 [] ∷ []) 6 0
    ∷ refuses (op new root k 1 set null_kind 0 [] ∷ []) 6 0
    ∷ refuses (op new the_map k 1 set null_kind 0 [] ∷ []) 6 0
    ∷ refuses (op new the_list k 1 set null_kind 0 [] ∷ []) 6 0
    -- 7: "the element named isn't HEAD and isn't an insert row"
    ∷ accepts (insert_in new the_list the_element ∷ update newer the_element [] ∷ [])
    ∷ refuses (insert_in new the_list none ∷ []) 7 0
    ∷ refuses (update new none [] ∷ []) 7 0
    ∷ refuses (update new the_element [] ∷ insert_in newer the_list new ∷ []) 7 1
    ∷ refuses (insert_in new the_list the_counter ∷ []) 7 0
    -- ".. of that object with a smaller id"
    ∷ refuses (makes_list new root k ∷ insert_in newer new the_element ∷ []) 7 1
    ∷ refuses (insert_in newer the_list head ∷ insert_in new the_list newer ∷ []) 7 1
    ∷ refuses (insert_in new the_list new ∷ []) 7 0
    -- 8: "a predecessor isn't a Set or Make row"
    ∷ accepts (set_after new (the_counter ∷ []) ∷ [])
    ∷ accepts (deletes new root (key 109) (the_map ∷ []) ∷ deletes newer root (key 114) (the_list ∷ []) ∷ [])
    ∷ refuses (set_after new (none ∷ []) ∷ []) 8 0
    ∷ refuses (set_after new (the_delete ∷ []) ∷ []) 8 0
    ∷ refuses (increments new root k 1 (the_counter ∷ []) ∷ set_after newer (new ∷ []) ∷ []) 8 1
    -- any of them
    ∷ refuses (set_after new (the_counter ∷ none ∷ []) ∷ []) 8 0
    ∷ refuses (set_after new (the_map ∷ the_counter ∷ []) ∷ []) 8 0
    -- ".. of the same object and key": a key of another byte, of one more; another object; another element
    ∷ refuses (sets new root (key 108) null_kind 0 (the_counter ∷ []) ∷ []) 8 0
    ∷ refuses (sets new root (key2 107 0) null_kind 0 (the_counter ∷ []) ∷ []) 8 0
    ∷ refuses (sets new the_map k null_kind 0 (the_counter ∷ []) ∷ []) 8 0
    ∷ refuses (insert_in new the_list the_element ∷ update newer the_element (new ∷ []) ∷ []) 8 1
    ∷ accepts (update new the_element (the_element ∷ []) ∷ deletes newer the_list (at the_element) (the_element ∷ new ∷ []) ∷ [])
    -- ".. with a smaller id": a later one, though earlier in the batch; itself
    ∷ refuses (good newer ∷ set_after new (newer ∷ []) ∷ []) 8 1
    ∷ refuses (set_after new (new ∷ []) ∷ []) 8 0
    -- "Rows for 6 to 8 are those of document and batch together"; "Batch order is free"
    ∷ accepts (sets newer new k null_kind 0 [] ∷ makes_map new the_map k ∷ [])
    ∷ accepts (insert_in newer the_list new ∷ insert_in new the_list head ∷ [])
    ∷ accepts (set_after newer (the_counter ∷ new ∷ []) ∷ good new ∷ [])
    -- "The smallest number over the whole batch is given, then the first op with it": each number behind the next one
    ∷ refuses (sets new none k null_kind 0 [] ∷ good the_counter ∷ good the_counter ∷ []) 5 1
    ∷ refuses (insert_in new the_list none ∷ sets newer none k null_kind 0 [] ∷ sets (22 # 0) none k null_kind 0 [] ∷ []) 6 1
    ∷ refuses (set_after new (none ∷ []) ∷ insert_in newer the_list none ∷ insert_in (22 # 0) the_list none ∷ []) 7 1
    ∷ refuses (good new ∷ set_after newer (none ∷ []) ∷ set_after (22 # 0) (none ∷ []) ∷ []) 8 1
    ∷ is_refused (batch_refusal (crowd 4_096 0) (set_after new (none ∷ []) ∷ [])) 8 0
    ∷ is_refused (batch_refusal (crowd 4_096 0) (good newer ∷ good new ∷ [])) 9 0
    -- 9: "rows would pass 4,096 or successors 8,192"; a Delete has no row
    ∷ not (too_many (crowd 4_095 8_192) (good new ∷ []))
    ∷ too_many (crowd 4_096 0) (good new ∷ [])
    ∷ too_many (crowd 4_095 0) (good new ∷ good newer ∷ [])
    ∷ not (too_many (crowd 4_096 8_191) (delete ∷ []))
    ∷ too_many (crowd 1 8_192) (delete ∷ [])
    ∷ too_many (crowd 1 8_191) (set_after newer (1 # 0 ∷ []) ∷ delete ∷ [])
    ∷ []

pub refusals-right : each refusals ≡ true
unfolding refusals computes
refusals-right = refl
