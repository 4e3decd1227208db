-- The order of rows, and what a merge makes of rows and successors, a case for each clause, as one table with a single claim.
use Rattle.std.specs.Prelude.{ℕ, ◌≡◌, refl, Bool, true, not, ◌&&◌, List, [], ◌∷◌, ◌++◌, map}
use Rattle.model.specs.Basic.{same, same_all}
use Rattle.model.specs.Id.{root, head}
use Rattle.model.specs.Kinds.{null_kind, unsigned_kind, counter_kind}
use Rattle.model.specs.Row.{Op, Succ, id_of, row_of}
use Rattle.model.specs.Order.{elements, preorder, before, order}
use Rattle.model.specs.Document.{Document, entry, merged}
use Rattle.model.specs.Write.{◌#◌, long_key, key, key2, at, plain, carrying, makes_map, makes_list, sets, inserts, deletes, increments, minus}
use Rattle.model.specs.Ground.{each, document, k}
use Rattle.model.specs.Rules.{computes}

-- rows, however given, stand in the order of these ids
abbrev stand : List Op → List ℕ → Bool
stand given wanted = same (map id_of (order (map row_of given))) wanted

-- a null at a key of ROOT
abbrev null : ℕ → List ℕ → Op
null i key = sets i root key null_kind 0 []

-- ---- lists

-- the rows of a list: an insert on an element, another row of it
abbrev insert : ℕ → ℕ → ℕ → Op
insert o i e = inserts i o e null_kind 0

abbrev update : ℕ → ℕ → ℕ → Op
update o i e = sets i o (at e) null_kind 0 []

abbrev A : ℕ
A = 1 # 0

abbrev B : ℕ
B = 2 # 0

-- two lists: in A a tree that is four deep, and other rows of 3@0 and 5@1; in B two elements
abbrev trees : List Op
trees =
    update A (13 # 0) (3 # 0) ∷ update A (12 # 1) (5 # 1) ∷ update A (12 # 0) (3 # 0) ∷ update A (11 # 0) (5 # 1)
    ∷ insert A (9 # 0) (8 # 0) ∷ insert A (8 # 0) (5 # 1) ∷ insert A (7 # 1) head ∷ insert A (6 # 0) (3 # 0) ∷ insert A (5 # 1) (3 # 0)
    ∷ insert A (5 # 0) (3 # 0) ∷ insert A (3 # 0) head ∷ insert B (10 # 0) (4 # 0) ∷ insert B (4 # 0) head ∷ makes_list B root (key 97)
    ∷ makes_list A root (key 98) ∷ []

abbrev elements_of_a : List ℕ
elements_of_a = 7 # 1 ∷ 3 # 0 ∷ 6 # 0 ∷ 5 # 1 ∷ 8 # 0 ∷ 9 # 0 ∷ 5 # 0 ∷ []

abbrev elements_of_b : List ℕ
elements_of_b = 4 # 0 ∷ 10 # 0 ∷ []

-- ---- merges

-- a counter 1@0 with its Increment 5@0 and an unsigned number 2@0, overwritten by 6@0, all at "k"
abbrev count : Op
count = sets (1 # 0) root k counter_kind 10 []

abbrev number : ℕ → Op
number i = sets i root k unsigned_kind 20 []

abbrev raise : ℕ → ℕ → List ℕ → Op
raise i v ps = increments i root k v ps

abbrev old : Document
old =
    document
    (count ∷ number (2 # 0) ∷ raise (5 # 0) 3 [] ∷ number (6 # 0) ∷ [])
    (carrying (1 # 0) (5 # 0) 3 ∷ plain (2 # 0) (6 # 0) ∷ [])

-- the document with a batch merged into it has these rows and successors
abbrev makes : List Op → List Op → List Succ → Bool
makes batch rows succs = same_all (merged old batch).rows (map row_of rows) && same_all (merged old batch).succs succs

unfoldable pub orders : List Bool
orders =
    -- "Objects ascend by id, ROOT first": map 5@0, lists 3@0 and 4@1, map 6@0 within 5@0
    stand
    (sets (7 # 0) (6 # 0) k null_kind 0 [] ∷ makes_map (6 # 0) (5 # 0) k ∷ insert (4 # 1) (8 # 0) head ∷ insert (3 # 0) (9 # 0) head
    ∷ makes_map (5 # 0) root (key 97) ∷ makes_list (4 # 1) root (key 98) ∷ makes_list (3 # 0) root (key 99) ∷ [])
    (5 # 0 ∷ 4 # 1 ∷ 3 # 0 ∷ 9 # 0 ∷ 8 # 0 ∷ 6 # 0 ∷ 7 # 0 ∷ [])
    -- "In a map: keys in byte order ("a", "ab", "b")": "", "a", "a" with a zero byte, "ab", "b", 127, 128, 255
    ∷ stand
    (null (1 # 0) (key 255) ∷ null (2 # 0) (key 128) ∷ null (3 # 0) (key 127) ∷ null (4 # 0) (key 98) ∷ null (5 # 0) (key2 97 98)
    ∷ null (6 # 0) (key2 97 0) ∷ null (7 # 0) (key 97) ∷ null (8 # 0) (long_key 0 0 0 0) ∷ [])
    (8 # 0 ∷ 7 # 0 ∷ 6 # 0 ∷ 5 # 0 ∷ 4 # 0 ∷ 3 # 0 ∷ 2 # 0 ∷ 1 # 0 ∷ [])
    -- keys of 8, 9, 17 and 24 bytes, the last two of which differ in their last byte
    ∷ stand
    (null (1 # 0) (long_key 24 9 9 2) ∷ null (2 # 0) (long_key 24 9 9 1) ∷ null (3 # 0) (long_key 17 9 9 0) ∷ null (4 # 0) (long_key 9 9 0 0)
    ∷ null (5 # 0) (long_key 8 9 0 0) ∷ [])
    (5 # 0 ∷ 4 # 0 ∷ 3 # 0 ∷ 2 # 0 ∷ 1 # 0 ∷ [])
    -- "then ids ascending": by counter, then actor
    ∷ stand (null (3 # 0) k ∷ null (2 # 1) k ∷ null (2 # 0) k ∷ []) (2 # 0 ∷ 2 # 1 ∷ 3 # 0 ∷ [])
    -- no row stands before itself
    ∷ not (before [] (null (2 # 0) k) (null (2 # 0) k))
    -- "elements in tree preorder .. siblings descend by id; each element's insert row is followed by its other rows, ids ascending"
    ∷ stand trees
    (B ∷ A ∷ 7 # 1 ∷ 3 # 0 ∷ 12 # 0 ∷ 13 # 0 ∷ 6 # 0 ∷ 5 # 1 ∷ 11 # 0 ∷ 12 # 1 ∷ 8 # 0 ∷ 9 # 0 ∷ 5 # 0 ∷ 4 # 0 ∷ 10 # 0 ∷ [])
    ∷ same (elements (map row_of trees) A) elements_of_a
    ∷ same (elements (map row_of trees) B) elements_of_b
    ∷ same (preorder (map row_of trees)) (elements_of_a ++ elements_of_b)
    -- "Every operation becomes a successor of each of its predecessors; successors ascend by id."
    ∷ makes (sets (7 # 1) root k null_kind 0 (1 # 0 ∷ 6 # 0 ∷ []) ∷ sets (7 # 0) root k null_kind 0 (1 # 0 ∷ 2 # 0 ∷ []) ∷ [])
    (count ∷ number (2 # 0) ∷ raise (5 # 0) 3 [] ∷ number (6 # 0) ∷ null (7 # 0) k ∷ null (7 # 1) k ∷ [])
    (carrying (1 # 0) (5 # 0) 3 ∷ plain (1 # 0) (7 # 0) ∷ plain (1 # 0) (7 # 1) ∷ plain (2 # 0) (6 # 0) ∷ plain (2 # 0) (7 # 0) ∷ plain (6 # 0) (7 # 1) ∷ [])
    -- "An Increment's successor entry carries its number if the predecessor's value is a counter, otherwise none"
    ∷ makes (raise (4 # 0) (minus 3) (1 # 0 ∷ 2 # 0 ∷ []) ∷ [])
    (count ∷ number (2 # 0) ∷ raise (4 # 0) (minus 3) [] ∷ raise (5 # 0) 3 [] ∷ number (6 # 0) ∷ [])
    (carrying (1 # 0) (4 # 0) (minus 3) ∷ carrying (1 # 0) (5 # 0) 3 ∷ plain (2 # 0) (4 # 0) ∷ plain (2 # 0) (6 # 0) ∷ [])
    -- none where the predecessor is no row
    ∷ same (entry [] (raise (4 # 0) 3 (1 # 0 ∷ [])) (1 # 0)) (plain (1 # 0) (4 # 0))
    -- the counter may come in the same batch, behind it
    ∷ makes (raise (8 # 0) 4 (7 # 0 ∷ []) ∷ sets (7 # 0) root k counter_kind 1 [] ∷ [])
    (count ∷ number (2 # 0) ∷ raise (5 # 0) 3 [] ∷ number (6 # 0) ∷ sets (7 # 0) root k counter_kind 1 [] ∷ raise (8 # 0) 4 [] ∷ [])
    (carrying (1 # 0) (5 # 0) 3 ∷ plain (2 # 0) (6 # 0) ∷ carrying (7 # 0) (8 # 0) 4 ∷ [])
    -- "A Delete leaves successors and no row."
    ∷ makes (deletes (7 # 0) root k (1 # 0 ∷ 6 # 0 ∷ []) ∷ [])
    (count ∷ number (2 # 0) ∷ raise (5 # 0) 3 [] ∷ number (6 # 0) ∷ [])
    (carrying (1 # 0) (5 # 0) 3 ∷ plain (1 # 0) (7 # 0) ∷ plain (2 # 0) (6 # 0) ∷ plain (6 # 0) (7 # 0) ∷ [])
    -- an empty batch
    ∷ makes [] (count ∷ number (2 # 0) ∷ raise (5 # 0) 3 [] ∷ number (6 # 0) ∷ []) old.succs
    ∷ []

pub orders-right : each orders ≡ true
unfolding orders computes
orders-right = refl
