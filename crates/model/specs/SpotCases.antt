-- The insertion spot, a case for each clause, as one table with a single claim.
use Rattle.std.specs.Prelude.{ℕ, ◌≡◌, refl, Bool, true, not, ◌&&◌, List, [], ◌∷◌, map, eqb}
use Rattle.model.specs.Basic.{same, place_in}
use Rattle.model.specs.Id.{root, head}
use Rattle.model.specs.Kinds.{null_kind, unsigned_kind, counter_kind}
use Rattle.model.specs.Row.{id_of, row_of}
use Rattle.model.specs.Document.{Document, merged}
use Rattle.model.specs.Answer.{accepted, refused, same_answer}
use Rattle.model.specs.Spot.{row_at, reaching}
use Rattle.model.specs.Calls.{spot_answer}
use Rattle.model.specs.Write.{◌#◌, key, at, plain, carrying, makes_map, makes_list, sets, inserts, increments, most, always, until}
use Rattle.model.specs.Ground.{each, document, k}
use Rattle.model.specs.Rules.{computes}

-- lists A and D with elements, the empty list C, whose Make row is deleted, map B
abbrev A : ℕ
A = 1 # 0

abbrev B : ℕ
B = 2 # 0

abbrev C : ℕ
C = 3 # 0

abbrev D : ℕ
D = 4 # 0

-- A: 5@0, overwritten by 8@0; on it 6@0, deleted by 9@0; on that counter 7@0 with Increment 10@0. D: 12@0, and 13@0 on it, deleted by 14@0.
abbrev lists : Document
lists =
    document
    (makes_list A root (key 97) ∷ makes_map B root (key 98) ∷ makes_list C root (key 99) ∷ makes_list D root (key 100)
    -- row 4 on
    ∷ inserts (5 # 0) A head null_kind 0 ∷ sets (8 # 0) A (at (5 # 0)) unsigned_kind 1 [] ∷ inserts (6 # 0) A (5 # 0) null_kind 0
    ∷ inserts (7 # 0) A (6 # 0) counter_kind 1 ∷ increments (10 # 0) A (at (7 # 0)) 1 []
    -- row 9 on
    ∷ sets (11 # 0) B k null_kind 0 [] ∷ inserts (12 # 0) D head null_kind 0 ∷ inserts (13 # 0) D (12 # 0) null_kind 0 ∷ [])
    (plain C (15 # 0) ∷ plain (5 # 0) (8 # 0) ∷ plain (6 # 0) (9 # 0) ∷ carrying (7 # 0) (10 # 0) 1 ∷ plain (13 # 0) (14 # 0) ∷ [])

-- The spot is this element and place; and that is where the merge puts an insert on it whose id exceeds all others.
abbrev gives : List ℕ → ℕ → ℕ → ℕ → ℕ → Bool
gives clock object target element place =
    same_answer (spot_answer clock lists object target) (accepted (element ∷ place ∷ []))
    && eqb (place_in (map id_of (merged lists (inserts (99 # 0) object element null_kind 0 ∷ [])).rows) (99 # 0)) place

abbrev refuses : List ℕ → ℕ → ℕ → ℕ → Bool
refuses clock object target number = same_answer (spot_answer clock lists object target) (refused number 0)

unfoldable pub spots : List Bool
spots =
    -- "target 0 gives HEAD and the place of the list's first row, or where that row would stand"
    gives always A 0 head 4
    ∷ gives always C 0 head 10
    ∷ gives always D 0 head 10
    -- "Target n .. gives the n-th visible element and the place just after all its rows": 5@0 is visible by 8@0, 6@0 not at all
    ∷ gives always A 1 (5 # 0) 6
    ∷ gives always A 2 (7 # 0) 9
    ∷ gives always D 1 (12 # 0) 11
    -- the same where rows and Deletes from 8@0 on are not covered: 5@0, 6@0 and 7@0 are visible
    ∷ gives (until (7 ∷ [])) A 0 head 4
    ∷ gives (until (7 ∷ [])) A 1 (5 # 0) 6
    ∷ gives (until (7 ∷ [])) A 2 (6 # 0) 7
    ∷ gives (until (7 ∷ [])) A 3 (7 # 0) 9
    ∷ gives (until (13 ∷ [])) D 2 (13 # 0) 12
    -- a row of another list is no row of the element; widths other than 0 and 1 are run through as these are
    ∷ row_at A (5 # 0) (inserts (5 # 0) A head null_kind 0)
    ∷ not (row_at D (5 # 0) (inserts (5 # 0) A head null_kind 0))
    ∷ not (row_at A (5 # 0) (inserts (5 # 0) D head null_kind 0))
    ∷ same (map (λ target. reaching (λ e. e) target (0 ∷ 3 ∷ 5 ∷ [])) (1 ∷ 3 ∷ 4 ∷ 8 ∷ [])) (3 ∷ 3 ∷ 5 ∷ 5 ∷ [])
    -- 10: "target above the visible elements"
    ∷ refuses always A 3 10
    ∷ refuses always A most 10
    ∷ refuses always C 1 10
    ∷ refuses always D 2 10
    ∷ refuses (until (7 ∷ [])) A 4 10
    ∷ refuses (until (0 ∷ [])) A 1 10
    -- 12: "object is no list of the document": ROOT, a map, an element, no row; before 10
    ∷ refuses always root 0 12
    ∷ refuses always B 0 12
    ∷ refuses always (5 # 0) 7 12
    ∷ refuses always (9 # 9) 0 12
    ∷ refuses always most most 12
    -- "the spot 1, 2, 12, 10": a document whose rows are out of order
    ∷ same_answer (spot_answer always (record { rows = map row_of (makes_list B root k ∷ makes_list A root k ∷ []); succs = [] }) C 0) (refused 2 0)
    ∷ []

pub spots-right : each spots ≡ true
unfolding spots computes
spots-right = refl
