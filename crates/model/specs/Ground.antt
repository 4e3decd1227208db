-- The document that the tables of refusals merge into, and what they say of a batch.
use Rattle.std.specs.Prelude.{ℕ, Bool, false, ◌&&◌, List, [], ◌∷◌, map, eqb}
use Rattle.model.specs.Basic.{all}
use Rattle.model.specs.Id.{root, head}
use Rattle.model.specs.Kinds.{null_kind, counter_kind}
use Rattle.model.specs.Row.{Op, Succ, row_of}
use Rattle.model.specs.Document.{Document}
use Rattle.model.specs.Answer.{Answer, accepted, refused, is_accepted}
use Rattle.model.specs.Refusal.{batch_refusal}
use Rattle.model.specs.Write.{◌#◌, key, plain, makes_map, makes_list, sets, inserts}

-- every line of a table
abbrev pub each : List Bool → Bool
each ts = all (λ t. t) ts

-- the rows of these operations, with these entries
abbrev pub document : List Op → List Succ → Document
document os succs = record { rows = map row_of os; succs = succs }

-- list 1@0 at "r" with element 3@0, map 2@0 at "m", counter 4@0 at "k", which Delete 5@0 has deleted
abbrev pub the_list : ℕ
the_list = 1 # 0

abbrev pub the_map : ℕ
the_map = 2 # 0

abbrev pub the_element : ℕ
the_element = 3 # 0

abbrev pub the_counter : ℕ
the_counter = 4 # 0

abbrev pub the_delete : ℕ
the_delete = 5 # 0

abbrev pub k : List ℕ
k = key 107

abbrev pub ground : Document
ground =
    document
    (sets the_counter root k counter_kind 1 [] ∷ makes_map the_map root (key 109) ∷ makes_list the_list root (key 114)
    ∷ inserts the_element the_list head null_kind 0 ∷ [])
    (plain the_counter the_delete ∷ [])

-- an answer is the refusal with this number and place
abbrev pub is_refused : Answer → ℕ → ℕ → Bool
is_refused (accepted values) number place = false
is_refused (refused n p) number place = eqb n number && eqb p place

abbrev pub refuses : List Op → ℕ → ℕ → Bool
refuses batch number place = is_refused (batch_refusal ground batch) number place

abbrev pub accepts : List Op → Bool
accepts batch = is_accepted (batch_refusal ground batch)

-- an operation that passes, with this id: a null at "k"
abbrev pub good : ℕ → Op
good i = sets i root k null_kind 0 []
