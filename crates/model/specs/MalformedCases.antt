-- Check 4, a case for each of its clauses, as one table with a single claim.
use Rattle.std.specs.Prelude.{ℕ, ◌^◌, ◌≡◌, refl, Bool, true, not, List, [], ◌∷◌}
use Rattle.model.specs.Id.{root, head}
use Rattle.model.specs.Kinds.{set, delete, increment, null_kind, boolean_kind, unsigned_kind, signed_kind, float_kind, counter_kind, timestamp_kind}
use Rattle.model.specs.Row.{Op}
use Rattle.model.specs.Malformed.{row_fits}
use Rattle.model.specs.Write.{◌#◌, long_key, at, op, put, makes_map, makes_list, sets, inserts, deletes, increments, most}
use Rattle.model.specs.Ground.{each, the_list, the_element, the_counter, the_delete, k, refuses, accepts, good}
use Rattle.model.specs.Rules.{computes}

-- the id of the operations of this table
abbrev new : ℕ
new = 20 # 0

abbrev malformed : Op → Bool
malformed o = refuses (o ∷ []) 4 0

-- an operation with one word of `good` changed
abbrev malformed_at : ℕ → ℕ → Bool
malformed_at number w = malformed (put number w (good new))

-- a Set of this kind and value
abbrev value : ℕ → ℕ → Op
value kind v = sets new root k kind v []

abbrev fits : Op → Bool
fits o = accepts (o ∷ [])

-- a Set on the list's element; of a key of 24 bytes, all of them 255; with predecessors
abbrev update : Op
update = sets new the_list (at the_element) null_kind 0 []

abbrev full : Op
full = sets new root (long_key 24 most most most) null_kind 0 []

abbrev after : List ℕ → Op
after ps = sets new root k null_kind 0 ps

abbrev sixteen : List ℕ
sixteen = 64 ∷ 65 ∷ 66 ∷ 67 ∷ 68 ∷ 69 ∷ 70 ∷ 71 ∷ 72 ∷ 73 ∷ 74 ∷ 75 ∷ 76 ∷ 77 ∷ 78 ∷ 79 ∷ []

unfoldable pub malformed_cases : List Bool
malformed_cases =
    fits (good new)
    ∷ fits (put 0 (1 # 63) (good new))
    ∷ fits (put 0 (4_294_967_295 # 63) (good new))
    -- "a field out of range": an id, an object, a kind of key
    ∷ malformed_at 0 0
    ∷ malformed_at 0 63
    ∷ malformed_at 0 (2 ^ 38)
    ∷ malformed_at 0 most
    ∷ malformed_at 1 1
    ∷ malformed_at 1 63
    ∷ malformed_at 1 (2 ^ 38)
    ∷ malformed_at 2 2
    ∷ malformed_at 2 most
    -- an element that is no id; "HEAD without insert"
    ∷ fits update
    ∷ fits (inserts new the_list head null_kind 0)
    ∷ malformed (put 3 63 update)
    ∷ malformed (put 3 (2 ^ 38) update)
    ∷ malformed (inserts new the_list (2 ^ 38) null_kind 0)
    ∷ malformed (put 3 head update)
    ∷ malformed (deletes new the_list (at head) (the_element ∷ []))
    -- a key's length: 0 to 24 bytes
    ∷ fits full
    ∷ fits (sets new root (long_key 0 0 0 0) null_kind 0 [])
    ∷ malformed (put 4 25 full)
    ∷ malformed (put 4 most full)
    -- "a key byte past the key's length .. not zero"
    ∷ malformed (put 4 23 full)
    ∷ malformed (put 4 0 (good new))
    ∷ malformed_at 6 1
    ∷ malformed_at 7 1
    -- "a field its .. kind of key doesn't use .. not zero": a map key's element, a list key's length and bytes
    ∷ malformed_at 3 the_element
    ∷ malformed_at 3 1
    ∷ malformed (put 4 1 update)
    ∷ malformed (put 5 1 update)
    ∷ malformed (put 6 1 update)
    ∷ malformed (put 7 1 update)
    -- an insert flag, an action
    ∷ malformed_at 8 2
    ∷ malformed_at 8 most
    ∷ malformed_at 9 4
    ∷ malformed_at 9 6
    ∷ malformed_at 9 7
    ∷ malformed_at 9 most
    -- kinds of value: "each in 64 bits; null is 0, a boolean 0 or 1"
    ∷ fits (value boolean_kind 0)
    ∷ fits (value boolean_kind 1)
    ∷ fits (value unsigned_kind most)
    ∷ fits (value signed_kind most)
    ∷ fits (value float_kind most)
    ∷ fits (value counter_kind most)
    ∷ fits (value timestamp_kind most)
    ∷ malformed (value null_kind 1)
    ∷ malformed (value boolean_kind 2)
    ∷ malformed (value 2 0)
    ∷ malformed (value 6 0)
    ∷ malformed (value 7 0)
    ∷ malformed (value 10 0)
    -- "a field its action .. doesn't use": Make and Delete have no value
    ∷ fits (makes_map new root k)
    ∷ fits (makes_list new root k)
    ∷ fits (deletes new root k (the_counter ∷ []))
    ∷ malformed (put 10 unsigned_kind (makes_map new root k))
    ∷ malformed (put 11 1 (makes_map new root k))
    ∷ malformed (put 10 unsigned_kind (makes_list new root k))
    ∷ malformed (put 11 1 (makes_list new root k))
    ∷ malformed (put 10 boolean_kind (deletes new root k (the_counter ∷ [])))
    ∷ malformed (put 11 1 (deletes new root k (the_counter ∷ [])))
    -- "An Increment carries a signed number."
    ∷ fits (increments new root k 0 (the_counter ∷ []))
    ∷ fits (increments new root k most (the_counter ∷ []))
    ∷ malformed (put 10 unsigned_kind (increments new root k 1 (the_counter ∷ [])))
    ∷ malformed (put 10 counter_kind (increments new root k 1 (the_counter ∷ [])))
    ∷ malformed (put 10 null_kind (increments new root k 0 (the_counter ∷ [])))
    -- "predecessors over 16": 17 are counted where 16 stand, which are no rows (8); a count that no room could hold
    ∷ refuses (after sixteen ∷ []) 8 0
    ∷ malformed (put 12 17 (after sixteen))
    ∷ malformed (put 12 most (after sixteen))
    -- "a predecessor slot past their count, not zero"
    ∷ malformed_at 13 the_counter
    ∷ malformed_at 28 the_counter
    ∷ malformed (put 14 1 (after (the_counter ∷ [])))
    -- predecessors that are no ids, "or not strictly ascending"
    ∷ fits (after (the_counter ∷ []))
    ∷ malformed (after (0 ∷ []))
    ∷ malformed (after (63 ∷ []))
    ∷ malformed (after (the_counter ∷ 2 ^ 38 ∷ []))
    ∷ malformed (after (the_delete ∷ the_counter ∷ []))
    ∷ malformed (after (the_counter ∷ the_counter ∷ []))
    ∷ malformed (after (the_counter ∷ the_delete ∷ the_counter ∷ []))
    -- "Delete or Increment with no predecessor or as an insert"
    ∷ malformed (deletes new root k [])
    ∷ malformed (increments new root k 1 [])
    ∷ malformed (op new the_list (at the_element) 1 delete null_kind 0 [])
    ∷ malformed (op new the_list (at the_element) 1 delete null_kind 0 (the_element ∷ []))
    ∷ malformed (op new the_list (at the_element) 1 increment signed_kind 1 (the_element ∷ []))
    -- asked of the row alone, since an insert has no predecessors
    ∷ not (row_fits (op new the_list (at the_element) 1 delete null_kind 0 []))
    ∷ not (row_fits (op new the_list (at the_element) 1 increment signed_kind 1 []))
    -- "an insert with predecessors"; a map key's insert flag is 6, but for those
    ∷ malformed (op new the_list (at the_element) 1 set null_kind 0 (the_element ∷ []))
    ∷ malformed (op new root k 1 set null_kind 0 (the_counter ∷ []))
    -- at the first that is malformed, whatever its other failings and those before it
    ∷ refuses (good the_counter ∷ good new ∷ put 0 63 (good new) ∷ put 0 63 (good new) ∷ []) 4 2
    ∷ []

pub malformed-right : each malformed_cases ≡ true
unfolding malformed_cases computes
malformed-right = refl
