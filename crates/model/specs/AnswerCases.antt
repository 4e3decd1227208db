-- Answers: which refusal is given, and its words. The claim compares by `refl` alone, since the other tables compare by what is tested here.
use Rattle.std.specs.Prelude.{ℕ, ◌≡◌, refl, Bool, true, false, List, [], ◌∷◌, map, eqb}
use Rattle.model.specs.Basic.{flag, same}
use Rattle.model.specs.Row.{Op, id_of}
use Rattle.model.specs.Answer.{Answer, accepted, refused, is_accepted, ◌otherwise◌, refuse, refuse_after, refuse_op, numbers_of, same_answer}
use Rattle.model.specs.Exports.{answer_words, number_of, answer_sized}
use Rattle.model.specs.Ground.{is_refused}
use Rattle.model.specs.Rules.{computes}

-- answers, each against each
abbrev answers : List Answer
answers = accepted [] ∷ accepted (5 ∷ 6 ∷ []) ∷ accepted (5 ∷ 7 ∷ []) ∷ refused 5 6 ∷ refused 5 7 ∷ refused 4 6 ∷ refused 6 6 ∷ refused 5 5 ∷ []

abbrev same_as : Answer → List ℕ
same_as answer = map (λ other. flag (same_answer answer other)) answers

-- operations by their ids alone, and tests of one and of those before it
abbrev batch : List Op
batch = (7 ∷ []) ∷ (8 ∷ []) ∷ (9 ∷ []) ∷ []

abbrev is_nine : List Op → Op → Bool
is_nine earlier o = eqb (id_of o) 9

abbrev behind_both : List Op → Op → Bool
behind_both earlier o = same (map id_of earlier) (7 ∷ 8 ∷ [])

unfoldable pub answered : List (List ℕ)
answered =
    (flag (is_accepted (accepted (4 ∷ []))) ∷ flag (is_accepted (refused 4 2)) ∷ [])
    -- the first refusal, or what comes after
    ∷ numbers_of (accepted [] otherwise accepted [])
    ∷ numbers_of (accepted [] otherwise refused 4 2)
    ∷ numbers_of (refused 5 3 otherwise accepted [])
    ∷ numbers_of (refused 5 3 otherwise refused 4 2)
    ∷ numbers_of (accepted [] otherwise accepted (8 ∷ 9 ∷ []))
    ∷ numbers_of (refused 5 3 otherwise accepted (8 ∷ 9 ∷ []))
    ∷ numbers_of (refuse 9 true)
    ∷ numbers_of (refuse 9 false)
    -- "then the first op with it, counted from 0"
    ∷ numbers_of (refuse_op 4 is_nine batch)
    ∷ numbers_of (refuse_op 4 behind_both batch)
    ∷ numbers_of (refuse_op 4 (λ earlier o. true) batch)
    ∷ numbers_of (refuse_op 4 (λ earlier o. false) batch)
    ∷ numbers_of (refuse_op 4 (λ earlier o. true) [])
    ∷ numbers_of (refuse_after batch 4 is_nine batch)
    ∷ same_as (accepted (5 ∷ 6 ∷ []))
    ∷ same_as (refused 5 6)
    -- an answer's words; the number that a call returns; the size of an answer
    ∷ numbers_of (refused 8 3)
    ∷ answer_words (refused 8 3)
    ∷ answer_words (accepted (5 ∷ 6 ∷ []))
    ∷ answer_words (accepted (5 ∷ []))
    ∷ answer_words (accepted [])
    ∷ map number_of answers
    ∷ map (λ answer. flag (answer_sized answer)) ([] ∷ (9 ∷ 9 ∷ []) ∷ (9 ∷ 9 ∷ 9 ∷ []) ∷ (9 ∷ 9 ∷ 9 ∷ 9 ∷ []) ∷ [])
    ∷ map flag (is_refused (accepted []) 4 2 ∷ is_refused (refused 4 2) 4 2 ∷ is_refused (refused 4 2) 4 3 ∷ is_refused (refused 4 2) 5 2 ∷ [])
    ∷ []

pub answered-right :
    answered
    ≡ (1 ∷ 0 ∷ [])
    ∷ (0 ∷ [])
    ∷ (4 ∷ 2 ∷ [])
    ∷ (5 ∷ 3 ∷ [])
    ∷ (5 ∷ 3 ∷ [])
    ∷ (0 ∷ 8 ∷ 9 ∷ [])
    ∷ (5 ∷ 3 ∷ [])
    ∷ (9 ∷ 0 ∷ [])
    ∷ (0 ∷ [])
    ∷ (4 ∷ 2 ∷ [])
    ∷ (4 ∷ 2 ∷ [])
    ∷ (4 ∷ 0 ∷ [])
    ∷ (0 ∷ [])
    ∷ (0 ∷ [])
    ∷ (4 ∷ 5 ∷ [])
    ∷ (0 ∷ 1 ∷ 0 ∷ 0 ∷ 0 ∷ 0 ∷ 0 ∷ 0 ∷ [])
    ∷ (0 ∷ 0 ∷ 0 ∷ 1 ∷ 0 ∷ 0 ∷ 0 ∷ 0 ∷ [])
    ∷ (8 ∷ 3 ∷ [])
    ∷ (8 ∷ 3 ∷ 0 ∷ [])
    ∷ (0 ∷ 5 ∷ 6 ∷ [])
    ∷ (0 ∷ 5 ∷ 0 ∷ [])
    ∷ (0 ∷ 0 ∷ 0 ∷ [])
    ∷ (0 ∷ 0 ∷ 0 ∷ 5 ∷ 5 ∷ 4 ∷ 6 ∷ 5 ∷ [])
    ∷ (0 ∷ 0 ∷ 1 ∷ 0 ∷ [])
    ∷ (0 ∷ 1 ∷ 0 ∷ 0 ∷ [])
    ∷ []
unfolding answered computes
answered-right = refl
