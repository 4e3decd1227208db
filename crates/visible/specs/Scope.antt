-- The successors that a look at a row goes by: a list of entries, as the successors of a document.
use Rattle.std.specs.Prelude.{ℕ, ◌+◌, Bool, not, ◌&&◌, List, [], T, eqb, length, take, drop}
use Rattle.model.specs.Basic.{ascends}
use Rattle.model.specs.Id.{covered}
use Rattle.model.specs.Row.{Row, Succ, id_of, owner_of, succ_of, carries}
use Rattle.model.specs.Document.{Document, succ_before}
use Rattle.model.specs.Visible.{visible}
use Rattle.visible.specs.Entries.{narrowed, run}

abbrev pub entries_in : ℕ → ℕ → List Succ → List Succ
entries_in from to succs = drop from (take to succs)

unfoldable pub scope : List Succ → Document
scope succs = record { rows = []; succs = succs }

-- the entries of the table that hold a row's successors, as they are searched for: from the first whose row's id is not below, as far as it is the row's
abbrev pub first_of : List Succ → ℕ → ℕ
first_of succs id = narrowed (length succs) id succs 0 (length succs)

abbrev pub end_of : List Succ → ℕ → ℕ
end_of succs id = first_of succs id + run id (drop (first_of succs id) succs)

unfoldable pub owned : List Succ → Row → List Succ
owned succs r = entries_in (first_of succs (id_of r)) (end_of succs (id_of r)) succs

-- the successors ascend
pub record Ascends (succs : List Succ) : Type 0 where
  pub up : T (ascends succ_before succs)

-- visible, by those entries
unfoldable pub seen_in : List ℕ → List Succ → Row → Bool
seen_in clock succs r = visible clock (scope (owned succs r)) r

-- a covered successor of the row with this id
unfoldable pub covers : List ℕ → ℕ → Succ → Bool
covers clock id s = eqb (owner_of s) id && covered clock (succ_of s)

-- one that hides it
unfoldable pub overwrites : List ℕ → ℕ → Succ → Bool
overwrites clock id s = covers clock id s && not (carries s)
