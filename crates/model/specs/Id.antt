-- Ids and the clock (01, "What is merged", first paragraph; "The rules", Clock).
-- An id is one number, counter * 64 + actor, so that ids compare as numbers do: "by counter, then actor".
use Rattle.std.specs.Prelude.{ℕ, ◌/◌, ◌%◌, Bool, ◌&&◌, ◌||◌, List, leb, eqb, length, get_or}
use Rattle.model.specs.Sizes.{actors, max_counter}

abbrev pub counter : ℕ → ℕ
counter i = i / actors

abbrev pub actor : ℕ → ℕ
actor i = i % actors

-- "An id is a counter, 1 to 4,294,967,295, and an actor number, 0 to 63": every number has such an actor
unfoldable pub is_id : ℕ → Bool
is_id i = leb 1 (counter i) && leb (counter i) max_counter

-- "The id type has two named values that are no operation: ROOT (as an object) and HEAD (as an element)."
abbrev pub root : ℕ
root = 0

abbrev pub head : ℕ
head = 0

-- "it covers an id whose counter is not above its actor's. No clock means that everything is covered": a clock of no words is none
unfoldable pub covered : List ℕ → ℕ → Bool
covered clock i = eqb (length clock) 0 || leb (counter i) (get_or clock (actor i) 0)
