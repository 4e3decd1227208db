-- Answers (01, "What comes back"): accepted with the values that 01 gives, or refused with its number and place.
use Rattle.std.specs.Prelude.{ℕ, Bool, true, false, ◌&&◌, List, [], ◌∷◌, ◌++◌, eqb, length, if◌then◌else◌}
use Rattle.model.specs.Basic.{same}
use Rattle.model.specs.Row.{Op}

pub data Answer : Type 0 where
  accepted : (values : List ℕ) → Answer
  refused : (number place : ℕ) → Answer

abbrev pub is_accepted : Answer → Bool
is_accepted (accepted values) = true
is_accepted (refused number place) = false

-- the first refusal, or what comes after
infixr 22 ◌otherwise◌
abbrev pub ◌otherwise◌ : Answer → Answer → Answer
accepted values otherwise next = next
refused number place otherwise next = refused number place

-- a refusal of the whole has place 0
abbrev pub refuse : ℕ → Bool → Answer
refuse number fails = if fails then refused number 0 else accepted []

-- "then the first op with it, counted from 0": a test is handed the operations before the one that it is asked about
abbrev pub refuse_after : List Op → ℕ → (List Op → Op → Bool) → List Op → Answer
refuse_after earlier number fails [] = accepted []
refuse_after earlier number fails (o ∷ os) =
    if fails earlier o then refused number (length earlier) else refuse_after (earlier ++ o ∷ []) number fails os

abbrev pub refuse_op : ℕ → (List Op → Op → Bool) → List Op → Answer
refuse_op number fails b = refuse_after [] number fails b

-- the answer as 01's numbers: 0 and the values, or the refusal's number and place
abbrev pub numbers_of : Answer → List ℕ
numbers_of (accepted values) = 0 ∷ values
numbers_of (refused number place) = number ∷ place ∷ []

abbrev pub same_answer : Answer → Answer → Bool
same_answer (accepted v) (accepted w) = same v w
same_answer (accepted v) (refused n p) = false
same_answer (refused n p) (accepted w) = false
same_answer (refused n p) (refused m q) = eqb n m && eqb p q
