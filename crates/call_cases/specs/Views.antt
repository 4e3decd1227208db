-- The picture's and the spot's answers.
use Rattle.std.specs.Prelude.{ℕ, ◌+◌, ◌*◌, ◌-◌, ◌≡◌, refl, Bool, true, List, [], ◌∷◌, ◌++◌, replicate}
use Rattle.model.specs.Basic.{all}
use Rattle.model.specs.Sizes.{actors, max_rows, entry_words}
use Rattle.model.specs.Id.{root, head}
use Rattle.model.specs.Kinds.{set, make_list, null_kind, unsigned_kind, counter_kind}
use Rattle.model.specs.Answer.{Answer, accepted, refused}
use Rattle.model.specs.Calls.{picture_call, spot_call}
use Rattle.model.specs.Write.{◌#◌, key, at}
use Rattle.model.specs.CallCases.{same_picture, same_spot}
use Rattle.model.specs.Rules.{computes}
use Rattle.call_cases.specs.Lent.{lent, room, no_room, L, rows, succs}

-- a clock that covers 1@0 and 2@0; one that covers nothing; one of a word too few
abbrev early : List ℕ
early = 2 ∷ replicate (actors - 1) 0

abbrev before : List ℕ
before = replicate actors 0

abbrev short : List ℕ
short = replicate (actors - 1) 2

-- output with room for four entries, and 5 words more; with a word too few for three
abbrev out : List ℕ
out = lent (4 * entry_words + 5) []

abbrev short_out : List ℕ
short_out = lent (3 * entry_words - 1) []

-- the entries of 1@0, of counter 2@0 and of 3@0: each wins unopposed
abbrev list_entry : List ℕ
list_entry = 1 # 0 ∷ root ∷ key 114 ++ make_list ∷ null_kind ∷ 0 ∷ 1 ∷ 0 ∷ 0 ∷ []

abbrev counter_entry : List ℕ
counter_entry = 2 # 0 ∷ L ∷ at (2 # 0) ++ set ∷ counter_kind ∷ 10 ∷ 1 ∷ 0 ∷ 0 ∷ []

abbrev set_entry : List ℕ
set_entry = 3 # 0 ∷ L ∷ at (2 # 0) ++ set ∷ unsigned_kind ∷ 7 ∷ 1 ∷ 0 ∷ 0 ∷ []

-- the document's picture under a clock: this many entries, at the start of the output
abbrev shows : List ℕ → ℕ → List ℕ → Bool
shows clock count entries =
    same_picture (picture_call 3 rows 1 succs clock out room) (accepted (count ∷ [])) rows succs clock (lent (4 * entry_words + 5) entries) no_room

abbrev refuses : ℕ → List ℕ → List ℕ → ℕ → List ℕ → Bool
refuses n clock out number room_after =
    same_picture (picture_call n rows 1 succs clock out room) (refused number 0) rows succs clock out room_after

unfoldable pub picture_cases : List Bool
picture_cases =
    shows [] 2 (list_entry ++ set_entry)
    ∷ shows early 2 (list_entry ++ counter_entry)
    ∷ shows before 0 []
    ∷ refuses 3 [] short_out 1 room
    ∷ refuses 3 early short_out 1 room
    ∷ refuses 3 short out 1 room
    ∷ refuses (max_rows + 1) [] short_out 2 no_room
    ∷ refuses (max_rows + 1) early [] 2 no_room
    ∷ refuses 4 [] out 2 no_room
    ∷ []

pub picture-right : all (λ t. t) picture_cases ≡ true
unfolding picture_cases rows succs room no_room computes
picture-right = refl

-- the answer for an object and a target under a clock: nothing lent changes but the room
abbrev answers : ℕ → List ℕ → ℕ → ℕ → Answer → List ℕ → Bool
answers n clock object target answer room_after =
    same_spot (spot_call n rows 1 succs clock object target room) answer rows succs clock room_after

unfoldable pub spot_cases : List Bool
spot_cases =
    -- HEAD, behind the list's own row; 2@0, behind both its rows
    answers 3 [] L 0 (accepted (head ∷ 1 ∷ [])) no_room
    ∷ answers 3 [] L 1 (accepted (2 # 0 ∷ 3 ∷ [])) no_room
    ∷ answers 3 early L 1 (accepted (2 # 0 ∷ 3 ∷ [])) no_room
    -- no more elements than one, than none; ROOT is a map, 2@0 no object
    ∷ answers 3 [] L 2 (refused 10 0) no_room
    ∷ answers 3 before L 1 (refused 10 0) no_room
    ∷ answers 3 [] root 0 (refused 12 0) no_room
    ∷ answers 3 [] (2 # 0) 2 (refused 12 0) no_room
    ∷ answers 4 [] L 0 (refused 2 0) no_room
    ∷ answers 3 short L 0 (refused 1 0) room
    ∷ []

pub spot-right : all (λ t. t) spot_cases ≡ true
unfolding spot_cases rows succs room no_room computes
spot-right = refl
