-- The walk over inserts with a stack in the working room.
use Rattle.std.specs.Prelude.{Option, Some}
use Prim.Native.Nat.{ℕ, zero, suc, ◌+◌, ◌<◌, ◌≤◌}
use mathlib.Core.Path.{◌≡◌, refl, sym, ap, subst, ◌∙◌}
use mathlib.Core.Bool.{true, ◌&&◌}
use mathlib.Core.List.{List, [], ◌∷◌}
use native.Mathlib.Numerals.{add-one}
use native.Mathlib.Omega.{arith}
use borrow.Author.Tests.{eq-eqb}
use lib.Dec.{eqb}
use lib.ListN.{length, set, length-set}
use lib.Seq.{get_or-set_same, get_or-set_other}
use Rattle.model.specs.Row.{Row, id_of, object_of, named_of, is_insert}
use Rattle.laws.proofs.Nearest.{pop, top}
use Rattle.laws.proofs.Passes.{nearest_from}
use Rattle.wellformed.specs.Stack.{stack_of, left_for, Stands, StandsAt}

-- ---- the stack

-- while what is popped is larger
pub record Popping (id : ℕ) (room : List ℕ) (depth k : ℕ) : Type 0 where
  pub low : k ≤ depth
  pub rest : pop id (stack_of room depth) ≡ pop id (stack_of room k)

-- what is written at the depth leaves what is below
below : (room : List ℕ) (k v j : ℕ) → j ≤ k → stack_of (set room k v) j ≡ stack_of room j
below room k v zero h = refl
below room k v (suc j) h = rw (below room k v j (omega arith), get_or-set_other room k j v 0 (omega arith))

push : (room : List ℕ) (k v : ℕ) → k < length room → stack_of (set room k v) (k + 1) ≡ v ∷ stack_of room k
push room k v h = rw (add-one, below room k v k (omega arith), get_or-set_same room k v 0 h)

-- ---- the walk

pub record Walking (rows : List Row) (size : ℕ) (room : List ℕ) (last depth : ℕ) (rest : List Row) : Type 0 where
  pub same : length room ≡ size
  pub low : depth + length rest ≤ length rows
  pub left : nearest_from 0 [] rows ≡ nearest_from last (stack_of room depth) rest

-- an insert
module _ {rows : List Row} {size : ℕ} {room : List ℕ} {last depth : ℕ} {row : Row} {rest : List Row} (s : Walking rows size room last depth (row ∷ rest)) (e : is_insert row ≡ true) where
  here : nearest_from last (stack_of room depth) (row ∷ rest)
      ≡ (eqb (top (left_for room last depth row)) (named_of row) && nearest_from (object_of row) (id_of row ∷ left_for room last depth row) rest)
  here = rw e

  module _ {f : Option ℕ} {k : ℕ} (g : f ≡ Some k) (q : StandsAt room last depth row f) where
    found : Stands room last depth row k
    found = subst (StandsAt room last depth row) g q

    pub shallow : k < length rows
    shallow = let w = s.low in let l = found.low in omega arith

    pub walk-on : {id list : ℕ} → id ≡ id_of row → list ≡ object_of row → k < length room → Walking rows size (set room k id) list (k + 1) rest
    walk-on {id} d o l =
        let w = s.low in
        let b = found.low in
        let t : top (left_for room last depth row) ≡ named_of row = ap top (sym found.stack) ∙ found.refers in
        record {
          same = length-set room k id ∙ s.same;
          low = omega arith;
          left = s.left ∙ here ∙ rw (eq-eqb (top (left_for room last depth row)) (named_of row) t, push room k id l, found.stack, o, d);
        }
