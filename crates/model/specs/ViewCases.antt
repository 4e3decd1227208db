-- Clock, visible rows, totals and the picture, a case for each clause, as one table with a single claim.
use Rattle.std.specs.Prelude.{ℕ, ◌-◌, ◌≡◌, refl, Bool, true, List, [], ◌∷◌, ◌++◌, map}
use Rattle.model.specs.Basic.{same, same_all}
use Rattle.model.specs.Id.{root, head}
use Rattle.model.specs.Kinds.{make_map, set, make_list, null_kind, boolean_kind, unsigned_kind, signed_kind, float_kind, counter_kind, timestamp_kind}
use Rattle.model.specs.Row.{Op}
use Rattle.model.specs.Document.{Document}
use Rattle.model.specs.Picture.{picture, entry_id, entry_value, entry_winner, entry_conflict, entry_mark}
use Rattle.model.specs.Write.{◌#◌, long_key, key, at, plain, carrying, makes_map, makes_list, sets, inserts, increments, minus, most, always, until}
use Rattle.model.specs.Ground.{each, document, k}
use Rattle.model.specs.Rules.{computes}

-- an entry: id, object, key or element, action, kind of value, value, winner, conflict, mark
abbrev shown_as : ℕ → ℕ → List ℕ → ℕ → ℕ → ℕ → ℕ → ℕ → ℕ → List ℕ
shown_as i o key action kind v winner conflict mark =
    i ∷ o ∷ key ++ action ∷ kind ∷ v ∷ winner ∷ conflict ∷ mark ∷ []

-- of a Set: alone, winner in conflict, loser in it
abbrev alone : ℕ → ℕ → List ℕ → ℕ → ℕ → List ℕ
alone i o key kind v = shown_as i o key set kind v 1 0 0

abbrev won : ℕ → ℕ → List ℕ → ℕ → ℕ → List ℕ
won i o key kind v = shown_as i o key set kind v 1 1 0

abbrev lost : ℕ → ℕ → List ℕ → ℕ → ℕ → List ℕ
lost i o key kind v = shown_as i o key set kind v 0 1 0

abbrev shows : List ℕ → Document → List (List ℕ) → Bool
shows clock d wanted = same_all (picture clock d) wanted

-- ---- the documents

-- each kind of value; a key of 24 bytes
abbrev values : List Op
values =
    sets (1 # 0) root (long_key 0 0 0 0) null_kind 0 [] ∷ sets (2 # 0) root (key 97) boolean_kind 1 [] ∷ sets (3 # 0) root (key 98) unsigned_kind most []
    ∷ sets (4 # 0) root (key 99) signed_kind most [] ∷ sets (5 # 0) root (key 100) float_kind most [] ∷ sets (6 # 0) root (key 101) counter_kind most []
    ∷ sets (7 # 0) root (key 102) timestamp_kind most [] ∷ makes_map (8 # 0) root (key 103) ∷ makes_list (9 # 0) root (key 104)
    ∷ sets (10 # 0) root (long_key 24 most 8 9) unsigned_kind 5 [] ∷ []

-- a number at "k" of an object
abbrev number : ℕ → ℕ → ℕ → Op
number i o v = sets i o k unsigned_kind v []

-- "k" of ROOT: 1@0, which 3@1 overwrites, 2@0 and 3@1; and of map 4@0, deleted by 6@2: 5@0
abbrev at_one_key : Document
at_one_key =
    document
    (number (1 # 0) root 1 ∷ number (2 # 0) root 2 ∷ number (3 # 1) root 3 ∷ makes_map (4 # 0) root (key 109) ∷ number (5 # 0) (4 # 0) 5 ∷ [])
    (plain (1 # 0) (3 # 1) ∷ plain (4 # 0) (6 # 2) ∷ [])

-- list 1@0: element 3@0 with rows 4@0 and 5@0, which overwrite it; element 2@0
abbrev in_one_list : Document
in_one_list =
    document
    (makes_list (1 # 0) root k ∷ inserts (3 # 0) (1 # 0) head unsigned_kind 3 ∷ sets (4 # 0) (1 # 0) (at (3 # 0)) unsigned_kind 4 []
    ∷ sets (5 # 0) (1 # 0) (at (3 # 0)) unsigned_kind 5 [] ∷ inserts (2 # 0) (1 # 0) head boolean_kind 1 ∷ [])
    (plain (3 # 0) (4 # 0) ∷ plain (3 # 0) (5 # 0) ∷ [])

-- a counter 1@0 with Increments 2@0, 3@1, 4@2 by these numbers
abbrev counts : ℕ → ℕ → ℕ → ℕ → Document
counts v first second third =
    document
    (sets (1 # 0) root k counter_kind v [] ∷ increments (2 # 0) root k first [] ∷ increments (3 # 1) root k second [] ∷ increments (4 # 2) root k third [] ∷ [])
    (carrying (1 # 0) (2 # 0) first ∷ carrying (1 # 0) (3 # 1) second ∷ carrying (1 # 0) (4 # 2) third ∷ [])

-- it shows this total; it is marked
abbrev totals : List ℕ → Document → ℕ → Bool
totals clock d v = shows clock d (alone (1 # 0) root k counter_kind v ∷ [])

abbrev marked : List ℕ → Document → Bool
marked clock d = shows clock d (shown_as (1 # 0) root k set counter_kind 0 1 0 11 ∷ [])

-- the largest and the smallest of 64 signed bits
abbrev largest : ℕ
largest = 9_223_372_036_854_775_807

abbrev smallest : ℕ
smallest = 9_223_372_036_854_775_808

abbrev entry_words_by_name : List (List ℕ → ℕ)
entry_words_by_name = entry_id ∷ entry_value ∷ entry_winner ∷ entry_conflict ∷ entry_mark ∷ []

unfoldable pub views : List Bool
views =
    -- "object, key or element, id, action, value, winner, conflict, mark": every kind of value and Make as it is
    shows always (document values [])
    (alone (1 # 0) root (long_key 0 0 0 0) null_kind 0 ∷ alone (2 # 0) root (key 97) boolean_kind 1 ∷ alone (3 # 0) root (key 98) unsigned_kind most
    ∷ alone (4 # 0) root (key 99) signed_kind most ∷ alone (5 # 0) root (key 100) float_kind most ∷ alone (6 # 0) root (key 101) counter_kind most
    ∷ alone (7 # 0) root (key 102) timestamp_kind most ∷ shown_as (8 # 0) root (key 103) make_map null_kind 0 1 0 0
    ∷ shown_as (9 # 0) root (key 104) make_list null_kind 0 1 0 0 ∷ alone (10 # 0) root (long_key 24 most 8 9) unsigned_kind 5 ∷ [])
    -- "The last visible row of a key or element wins; conflict is set on all its rows where two or more are visible."
    -- "Every object is shown, whatever became of its Make row."
    ∷ shows always at_one_key (lost (2 # 0) root k unsigned_kind 2 ∷ won (3 # 1) root k unsigned_kind 3 ∷ alone (5 # 0) (4 # 0) k unsigned_kind 5 ∷ [])
    -- "its id is covered, and no covered successor lacks an increment": 3@1 is not covered, then 2@0 neither
    ∷ shows (until (5 ∷ 2 ∷ 0 ∷ [])) at_one_key
    (lost (1 # 0) root k unsigned_kind 1 ∷ won (2 # 0) root k unsigned_kind 2 ∷ shown_as (4 # 0) root (key 109) make_map null_kind 0 1 0 0
    ∷ alone (5 # 0) (4 # 0) k unsigned_kind 5 ∷ [])
    ∷ shows (until (1 ∷ 2 ∷ 9 ∷ [])) at_one_key (alone (1 # 0) root k unsigned_kind 1 ∷ [])
    -- three rows that are visible; the last of them alone
    ∷ shows always (document (number (1 # 0) root 1 ∷ number (2 # 0) root 2 ∷ number (2 # 1) root 3 ∷ []) [])
    (lost (1 # 0) root k unsigned_kind 1 ∷ lost (2 # 0) root k unsigned_kind 2 ∷ won (2 # 1) root k unsigned_kind 3 ∷ [])
    ∷ shows (until (0 ∷ most ∷ 0 ∷ [])) (document (number (1 # 0) root 1 ∷ number (2 # 0) root 2 ∷ number (2 # 1) root 3 ∷ []) []) (alone (2 # 1) root k unsigned_kind 3 ∷ [])
    -- 64 zeros cover nothing
    ∷ shows (until (0 ∷ 0 ∷ 0 ∷ [])) at_one_key []
    -- elements: an insert's is its own id
    ∷ shows always in_one_list
    (shown_as (1 # 0) root k make_list null_kind 0 1 0 0 ∷ lost (4 # 0) (1 # 0) (at (3 # 0)) unsigned_kind 4 ∷ won (5 # 0) (1 # 0) (at (3 # 0)) unsigned_kind 5
    ∷ alone (2 # 0) (1 # 0) (at (2 # 0)) boolean_kind 1 ∷ [])
    ∷ shows (until (3 ∷ 0 ∷ 0 ∷ [])) in_one_list
    (shown_as (1 # 0) root k make_list null_kind 0 1 0 0 ∷ alone (3 # 0) (1 # 0) (at (3 # 0)) unsigned_kind 3 ∷ alone (2 # 0) (1 # 0) (at (2 # 0)) boolean_kind 1 ∷ [])
    -- "its value plus the exact sum of its covered increments"
    ∷ totals always (counts 10 5 (minus 3) 4) 16
    ∷ totals (until (1 ∷ 0 ∷ 0 ∷ [])) (counts 10 5 (minus 3) 4) 10
    ∷ totals (until (1 ∷ 3 ∷ 0 ∷ [])) (counts 10 5 (minus 3) 4) 7
    ∷ totals (until (2 ∷ 2 ∷ 4 ∷ [])) (counts 10 5 (minus 3) 4) 19
    ∷ totals always (counts 0 0 (minus 3) 0) (minus 3)
    ∷ totals always (counts (minus 1) 1 0 0) 0
    -- "only that total must fit 64 signed bits": at both edges, and where partial sums leave the range
    ∷ totals always (counts (largest - 1) 1 0 0) largest
    ∷ marked always (counts largest 1 0 0)
    ∷ totals always (counts (minus largest) (minus 1) 0 0) smallest
    ∷ marked always (counts smallest (minus 1) 0 0)
    ∷ totals always (counts largest largest smallest 0) (largest - 1)
    ∷ totals always (counts smallest smallest largest 1) smallest
    ∷ totals (until (1 ∷ 0 ∷ 0 ∷ [])) (counts largest 1 0 0) largest
    -- an overwritten counter is gone, however raised; of two counters, one marked
    ∷ shows always
    (document (sets (1 # 0) root k counter_kind 10 [] ∷ increments (2 # 0) root k 1 [] ∷ []) (carrying (1 # 0) (2 # 0) 1 ∷ plain (1 # 0) (3 # 0) ∷ []))
    []
    ∷ shows always
    (document (sets (1 # 0) root k counter_kind largest [] ∷ sets (1 # 1) root k counter_kind largest [] ∷ increments (2 # 0) root k 1 [] ∷ []) (carrying (1 # 1) (2 # 0) 1 ∷ []))
    (lost (1 # 0) root k counter_kind largest ∷ shown_as (1 # 1) root k set counter_kind 0 1 1 11 ∷ [])
    -- an Increment on an unsigned row is an ordinary overwrite
    ∷ shows always (document (number (1 # 0) root 10 ∷ increments (2 # 0) root k 1 [] ∷ []) (plain (1 # 0) (2 # 0) ∷ [])) []
    -- a total is a counter's alone: asked of a number with an increment, which no well-formed document has
    ∷ shows always (document (number (1 # 0) root largest ∷ []) (carrying (1 # 0) (2 # 0) 1 ∷ [])) (alone (1 # 0) root k unsigned_kind largest ∷ [])
    -- an entry's words by name; a missing one reads as 0
    ∷ same (map (λ word. word (100 ∷ 101 ∷ 102 ∷ 103 ∷ 104 ∷ 105 ∷ 106 ∷ 107 ∷ 108 ∷ 109 ∷ 110 ∷ 111 ∷ 112 ∷ 113 ∷ [])) entry_words_by_name)
    (100 ∷ 110 ∷ 111 ∷ 112 ∷ 113 ∷ [])
    ∷ same (map (λ word. word []) entry_words_by_name) (0 ∷ 0 ∷ 0 ∷ 0 ∷ 0 ∷ [])
    ∷ []

pub views-right : each views ≡ true
unfolding views computes
views-right = refl
