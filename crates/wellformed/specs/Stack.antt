-- The elements to the left of an insert, as a stack in the working room: the top is the word before the depth.
use Rattle.std.specs.Prelude.{ℕ, zero, suc, ◌≤◌, ◌≡◌, List, [], ◌∷◌, Option, Some, None, get_or}
use Rattle.model.specs.Row.{Row, id_of, object_of, named_of}
use Rattle.laws.proofs.Nearest.{pop, top}
use Rattle.laws.proofs.Passes.{stack_for}

abbrev pub stack_of : List ℕ → ℕ → List ℕ
stack_of room zero = []
stack_of room (suc k) = get_or room k 0 ∷ stack_of room k

pub record Popped (id : ℕ) (room : List ℕ) (depth k : ℕ) : Type 0 where
  pub low : k ≤ depth
  pub stack : stack_of room k ≡ pop id (stack_of room depth)

-- what is left of the stack for an insert: what is larger is popped, and all of it where the insert is another list's
abbrev pub left_for : List ℕ → ℕ → ℕ → Row → List ℕ
left_for room last depth r = pop (id_of r) (stack_for (object_of r) last (stack_of room depth))

pub record Stands (room : List ℕ) (last depth : ℕ) (r : Row) (k : ℕ) : Type 0 where
  pub low : k ≤ depth
  pub stack : stack_of room k ≡ left_for room last depth r
  pub refers : top (stack_of room k) ≡ named_of r

-- the depth at which an insert is pushed, where it refers to the top that is left
abbrev pub StandsAt : List ℕ → ℕ → ℕ → Row → Option ℕ → Type 0
StandsAt room last depth r (Some k) = Stands room last depth r k
StandsAt room last depth r None = top (left_for room last depth r) ≡ named_of r → ⊥
