-- The tests and list functions that the rules are written with, on lists where a wrong one shows. The claim compares by `refl` alone, so that it
-- leans on none of them: the other tables do.
use Rattle.std.specs.Prelude.{ℕ, ◌/◌, ◌≡◌, refl, Bool, true, false, List, [], ◌∷◌, ◌++◌, map, ltb, eqb}
use Rattle.model.specs.Basic.{◌implies◌, flag, any, all, filter, ascends, insert, sort, up_to_last, concat, pieces, concat_map, member, distinct, once, zeros, same, same_all, lex_before, place_in, last}

-- some short lists
abbrev lists : List (List ℕ)
lists = [] ∷ (1 ∷ []) ∷ (2 ∷ []) ∷ (1 ∷ 2 ∷ []) ∷ (2 ∷ 1 ∷ []) ∷ (1 ∷ 1 ∷ []) ∷ (1 ∷ 2 ∷ 1 ∷ []) ∷ (1 ∷ 2 ∷ 3 ∷ []) ∷ (0 ∷ 0 ∷ []) ∷ []

-- a test of each of them: 1 where it passes
abbrev tested : (List ℕ → Bool) → List ℕ
tested test = map (λ xs. flag (test xs)) lists

-- numbers compared by their tens, so that some that differ do not stand before each other
abbrev tens_before : ℕ → ℕ → Bool
tens_before a b = ltb (a / 10) (b / 10)

unfoldable pub basics : List (List ℕ)
basics =
    map flag ((true implies true) ∷ (true implies false) ∷ (false implies true) ∷ (false implies false) ∷ [])
    ∷ tested (any (ltb 1))
    ∷ tested (all (ltb 1))
    ∷ filter (ltb 2) (1 ∷ 3 ∷ 2 ∷ 4 ∷ [])
    ∷ tested (ascends ltb)
    -- before the first element that it stands before, and behind one that it does not
    ∷ insert tens_before 21 []
    ∷ insert tens_before 21 (10 ∷ 22 ∷ 30 ∷ 15 ∷ 40 ∷ [])
    ∷ sort ltb (3 ∷ 1 ∷ 4 ∷ 2 ∷ [])
    ∷ up_to_last (eqb 2) (1 ∷ 2 ∷ 3 ∷ 2 ∷ 4 ∷ [])
    ∷ up_to_last (eqb 2) (1 ∷ 3 ∷ [])
    ∷ concat ((1 ∷ []) ∷ [] ∷ (2 ∷ 3 ∷ []) ∷ [])
    ∷ concat_map (λ x. x ∷ x ∷ []) (1 ∷ 2 ∷ [])
    ∷ tested (member 2)
    ∷ tested distinct
    ∷ map (λ xs. flag (distinct xs)) ((2 ∷ 1 ∷ 1 ∷ []) ∷ (3 ∷ 2 ∷ 1 ∷ []) ∷ [])
    ∷ once (1 ∷ 2 ∷ 1 ∷ 3 ∷ 2 ∷ [])
    ∷ tested zeros
    ∷ tested (same (1 ∷ 2 ∷ []))
    ∷ tested (same [])
    ∷ map (λ xs. flag (same_all (xs ∷ (2 ∷ []) ∷ []) ((1 ∷ []) ∷ (2 ∷ []) ∷ []))) lists
    ∷ map (λ xs. flag (same_all ((1 ∷ []) ∷ xs ∷ []) ((1 ∷ []) ∷ (2 ∷ []) ∷ []))) lists
    ∷ map flag (same_all [] [] ∷ same_all lists [] ∷ same_all [] lists ∷ [])
    ∷ tested (lex_before (1 ∷ 2 ∷ []))
    ∷ tested (λ xs. lex_before xs (1 ∷ 2 ∷ []))
    ∷ tested (lex_before [])
    ∷ map (place_in (5 ∷ 6 ∷ 7 ∷ 6 ∷ [])) (5 ∷ 6 ∷ 7 ∷ 9 ∷ [])
    ∷ map last lists
    ∷ pieces 2 3 (1 ∷ 2 ∷ 3 ∷ 4 ∷ 5 ∷ 6 ∷ 7 ∷ [])
    ++ pieces 2 2 (1 ∷ 2 ∷ 3 ∷ [])

pub basics-right :
    basics
    ≡ (1 ∷ 0 ∷ 1 ∷ 1 ∷ [])
    -- the lists: none, 1, 2, 12, 21, 11, 121, 123, 00
    ∷ (0 ∷ 0 ∷ 1 ∷ 1 ∷ 1 ∷ 0 ∷ 1 ∷ 1 ∷ 0 ∷ [])
    ∷ (1 ∷ 0 ∷ 1 ∷ 0 ∷ 0 ∷ 0 ∷ 0 ∷ 0 ∷ 0 ∷ [])
    ∷ (3 ∷ 4 ∷ [])
    ∷ (1 ∷ 1 ∷ 1 ∷ 1 ∷ 0 ∷ 0 ∷ 0 ∷ 1 ∷ 0 ∷ [])
    ∷ (21 ∷ [])
    ∷ (10 ∷ 22 ∷ 21 ∷ 30 ∷ 15 ∷ 40 ∷ [])
    ∷ (1 ∷ 2 ∷ 3 ∷ 4 ∷ [])
    ∷ (1 ∷ 2 ∷ 3 ∷ 2 ∷ [])
    ∷ []
    ∷ (1 ∷ 2 ∷ 3 ∷ [])
    ∷ (1 ∷ 1 ∷ 2 ∷ 2 ∷ [])
    ∷ (0 ∷ 0 ∷ 1 ∷ 1 ∷ 1 ∷ 0 ∷ 1 ∷ 1 ∷ 0 ∷ [])
    ∷ (1 ∷ 1 ∷ 1 ∷ 1 ∷ 1 ∷ 0 ∷ 0 ∷ 1 ∷ 0 ∷ [])
    ∷ (0 ∷ 1 ∷ [])
    ∷ (1 ∷ 2 ∷ 3 ∷ [])
    ∷ (1 ∷ 0 ∷ 0 ∷ 0 ∷ 0 ∷ 0 ∷ 0 ∷ 0 ∷ 1 ∷ [])
    ∷ (0 ∷ 0 ∷ 0 ∷ 1 ∷ 0 ∷ 0 ∷ 0 ∷ 0 ∷ 0 ∷ [])
    ∷ (1 ∷ 0 ∷ 0 ∷ 0 ∷ 0 ∷ 0 ∷ 0 ∷ 0 ∷ 0 ∷ [])
    ∷ (0 ∷ 1 ∷ 0 ∷ 0 ∷ 0 ∷ 0 ∷ 0 ∷ 0 ∷ 0 ∷ [])
    ∷ (0 ∷ 0 ∷ 1 ∷ 0 ∷ 0 ∷ 0 ∷ 0 ∷ 0 ∷ 0 ∷ [])
    ∷ (1 ∷ 0 ∷ 0 ∷ [])
    ∷ (0 ∷ 0 ∷ 1 ∷ 0 ∷ 1 ∷ 0 ∷ 1 ∷ 1 ∷ 0 ∷ [])
    ∷ (1 ∷ 1 ∷ 0 ∷ 0 ∷ 0 ∷ 1 ∷ 0 ∷ 0 ∷ 1 ∷ [])
    ∷ (0 ∷ 1 ∷ 1 ∷ 1 ∷ 1 ∷ 1 ∷ 1 ∷ 1 ∷ 1 ∷ [])
    ∷ (0 ∷ 1 ∷ 2 ∷ 4 ∷ [])
    ∷ (0 ∷ 1 ∷ 2 ∷ 2 ∷ 1 ∷ 1 ∷ 1 ∷ 3 ∷ 0 ∷ [])
    ∷ (1 ∷ 2 ∷ [])
    ∷ (3 ∷ 4 ∷ [])
    ∷ (5 ∷ 6 ∷ [])
    ∷ (1 ∷ 2 ∷ [])
    ∷ (3 ∷ [])
    ∷ []
unfolding basics
basics-right = refl
