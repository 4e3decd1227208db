-- The pass that finds a group's visible rows: its turns, and what it finds.
use mathlib.Core.Path.{◌≡◌, refl, sym, ap, ◌∙◌}
use mathlib.Core.Bool.{Bool, true, false}
use mathlib.Core.List.{List, [], ◌∷◌, ◌++◌, map, map-append, append_assoc, append-nil}
use Prim.Native.Nat.{ℕ, suc, ◌+◌, ◌≤◌}
use native.Mathlib.Omega.{arith}
use lib.ListN.{length, length-append}
use Rattle.std.specs.Prelude.{if◌then◌else◌}
use Rattle.model.specs.Basic.{filter, last}
use Rattle.model.specs.Row.{Row, id_of}
use Rattle.laws.proofs.Tests.{by-test, is_true, is_false}
use Rattle.laws.proofs.Members.{filter-append}
use Rattle.found_op.specs.declared.group.Found.{Found}
use Rattle.found_op.specs.Group.{found_in}

abbrev pub one : Found → Row → Found
one f r = record { count = f.count + 1; winner = id_of r }

abbrev pub counted : (Row → Bool) → Found → List Row → Found
counted p f [] = f
counted p f (r ∷ rs) = counted p (if p r then one f r else f) rs

-- what is found so far, with the rows that are left
pub record Counting (p : Row → Bool) (group rest : List Row) (f : Found) : Type 0 where
  pub few : f.count + length rest ≤ length group
  pub whole : counted p (found_in []) group ≡ counted p f rest

module _ {p : Row → Bool} {group : List Row} where
  module _ {r : Row} {rest more : List Row} {f : Found} (c : Counting p group rest f) (e : rest ≡ r ∷ more) where
    pub counting_more : {g : Found} → p r ≡ true → g ≡ one f r → Counting p group more g
    counting_more t q =
        let n : length rest ≡ suc (length more) = ap length e in
        rw q record { few = omega (arith, c.few); whole = c.whole ∙ ap (counted p f) e ∙ rw t }

    pub counting_same : p r ≡ false → Counting p group more f
    counting_same t =
        let n : length rest ≡ suc (length more) = ap length e in
        record { few = omega (arith, c.few); whole = c.whole ∙ ap (counted p f) e ∙ rw t }

last_more : (xs : List ℕ) (x : ℕ) → last (xs ++ x ∷ []) ≡ x
last_more [] x = refl
last_more (y ∷ []) x = refl
last_more (y ∷ z ∷ xs) x = last_more (z ∷ xs) x

one_found : (p : Row → Bool) (xs : List Row) (r : Row) → (if p r then one (found_in xs) r else found_in xs) ≡ found_in (xs ++ filter p (r ∷ []))
one_found p xs r =
    by-test (p r)
    (λ t. rw (is_true (p r) t, map-append id_of xs (r ∷ []), last_more (map id_of xs) (id_of r), length-append xs (r ∷ [])))
    (λ t. rw (is_false (p r) t, append-nil xs))

counted-from : (p : Row → Bool) (xs l : List Row) → counted p (found_in xs) l ≡ found_in (xs ++ filter p l)
counted-from p xs [] = rw (append-nil xs)
counted-from p xs (r ∷ l) =
    ap (λ (f : Found). counted p f l) (one_found p xs r)
    ∙ counted-from p (xs ++ filter p (r ∷ [])) l
    ∙ ap found_in (append_assoc xs (filter p (r ∷ [])) (filter p l) ∙ ap (λ (k : List Row). xs ++ k) (sym (filter-append p (r ∷ []) l)))

pub counting_end : {p : Row → Bool} {group rest : List Row} {f : Found} → Counting p group rest f → rest ≡ [] → f ≡ found_in (filter p group)
counting_end {p} {group} {rest} {f} c e = sym (ap (counted p f) e) ∙ sym c.whole ∙ counted-from p [] group
