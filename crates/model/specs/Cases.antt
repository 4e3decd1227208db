-- 01's cases P1 to P12, as one table with a single claim. Each document is built from the empty one by the merge, a batch after another, each of
-- which must be accepted.
use Rattle.std.specs.Prelude.{ℕ, ◌-◌, ◌≡◌, refl, Bool, true, ◌&&◌, List, [], ◌∷◌, ◌++◌, map, replicate, ltb}
use Rattle.model.specs.Basic.{all, same, same_all, sort, concat, concat_map}
use Rattle.model.specs.Sizes.{actors}
use Rattle.model.specs.Id.{root, head}
use Rattle.model.specs.Kinds.{null_kind, unsigned_kind, counter_kind}
use Rattle.model.specs.Row.{Op, id_of, row_of}
use Rattle.model.specs.Document.{Document, empty}
use Rattle.model.specs.Answer.{numbers_of}
use Rattle.model.specs.Visible.{half}
use Rattle.model.specs.Picture.{picture, entry_id, entry_value, entry_winner, entry_conflict, entry_mark}
use Rattle.model.specs.Calls.{merge_refusal, spot_answer}
use Rattle.model.specs.Course.{course, course_accepted, operations_of}
use Rattle.model.specs.Write.{◌#◌, key, at, makes_list, sets, inserts, deletes, increments, minus}
use Rattle.model.specs.Rules.{computes}
use Rattle.model.specs.WellFormed.{well_formed}

-- ---- running a case

-- A case: batches, what is looked at in the document that they make, and what must be seen there.
pub record Case : Type 0 where
  pub batches : List (List Op)
  pub look : Document → List ℕ
  pub wanted : List ℕ

abbrev case : List (List Op) → (Document → List ℕ) → List ℕ → Case
case bs look wanted = record { batches = bs; look = look; wanted = wanted }

-- Every batch is accepted, the document at the end is well-formed and has the operations of the batches, and what is seen in it is what was wanted.
unfoldable pub right : Case → Bool
right c =
    course_accepted empty c.batches
    && well_formed (course empty c.batches)
    && same_all (operations_of (course empty c.batches)) (sort (λ a b. ltb (id_of a) (id_of b)) (concat c.batches))
    && same (c.look (course empty c.batches)) c.wanted

-- what is looked at: the whole document; its rows' ids; its successors; the id, value, winner, conflict and mark of each entry of the picture;
-- the answer of a spot call with no clock; the refusal of one more operation
abbrev whole : Document → List ℕ
whole d = concat d.rows ++ concat d.succs

abbrev row_ids : Document → List ℕ
row_ids d = map id_of d.rows

abbrev successors : Document → List ℕ
successors d = concat d.succs

abbrev shown : List ℕ → Document → List ℕ
shown clock d =
    concat_map (λ e. entry_id e ∷ entry_value e ∷ entry_winner e ∷ entry_conflict e ∷ entry_mark e ∷ []) (picture clock d)

abbrev spot_of : ℕ → ℕ → Document → List ℕ
spot_of object target d = numbers_of (spot_answer [] d object target)

abbrev refusal_of : Op → Document → List ℕ
refusal_of o d = numbers_of (merge_refusal d (o ∷ []))

-- an entry that wins unopposed; one that wins in conflict; one that loses
abbrev alone : ℕ → ℕ → List ℕ
alone i v = i ∷ v ∷ 1 ∷ 0 ∷ 0 ∷ []

abbrev won : ℕ → ℕ → List ℕ
won i v = i ∷ v ∷ 1 ∷ 1 ∷ 0 ∷ []

abbrev lost : ℕ → ℕ → List ℕ
lost i v = i ∷ v ∷ 0 ∷ 1 ∷ 0 ∷ []

-- ---- the operations

-- "list 1@0 sits at ROOT key "r""
abbrev pub L : ℕ
L = 1 # 0

abbrev pub the_list : Op
the_list = makes_list L root (key 114)

abbrev pub p1 : List Op
p1 = the_list ∷ inserts (2 # 0) L head null_kind 0 ∷ inserts (3 # 0) L (2 # 0) null_kind 0 ∷ inserts (3 # 1) L (2 # 0) null_kind 0 ∷ []

abbrev pub p2 : List Op
p2 = inserts (4 # 0) L head null_kind 0 ∷ []

abbrev pub p3 : List Op
p3 = inserts (5 # 1) L (3 # 1) null_kind 0 ∷ []

abbrev pub p4 : List Op
p4 = sets (6 # 0) L (at (2 # 0)) unsigned_kind 7 (2 # 0 ∷ []) ∷ sets (6 # 1) L (at (2 # 0)) unsigned_kind 8 (2 # 0 ∷ []) ∷ []

abbrev pub p5 : List Op
p5 = deletes (7 # 0) L (at (2 # 0)) (6 # 1 ∷ []) ∷ []

-- key "c" of ROOT: a counter, an unsigned number, an increment of 1@0
abbrev c : List ℕ
c = key 99

abbrev pub count : ℕ → Op
count v = sets (1 # 0) root c counter_kind v []

abbrev number : ℕ → ℕ → Op
number i v = sets i root c unsigned_kind v []

abbrev pub raise : ℕ → ℕ → Op
raise i v = increments i root c v (1 # 0 ∷ [])

abbrev p6 : List (List Op)
p6 = (count 10 ∷ []) ∷ (raise (2 # 0) 5 ∷ []) ∷ (raise (3 # 0) (minus 3) ∷ []) ∷ []

abbrev p8 : List (List Op)
p8 = (number (1 # 0) 10 ∷ raise (2 # 0) 5 ∷ []) ∷ []

-- ---- the table

unfoldable pub table : List Case
table =
    -- P1: the whole document is 1@0, 2@0, 3@1, 3@0
    case (p1 ∷ []) whole
    (concat_map row_of
    (the_list ∷ inserts (2 # 0) L head null_kind 0 ∷ inserts (3 # 1) L (2 # 0) null_kind 0 ∷ inserts (3 # 0) L (2 # 0) null_kind 0 ∷ []))
    -- P2, P3
    ∷ case (p1 ∷ p2 ∷ []) row_ids (1 # 0 ∷ 4 # 0 ∷ 2 # 0 ∷ 3 # 1 ∷ 3 # 0 ∷ [])
    ∷ case (p1 ∷ p2 ∷ p3 ∷ []) row_ids (1 # 0 ∷ 4 # 0 ∷ 2 # 0 ∷ 3 # 1 ∷ 5 # 1 ∷ 3 # 0 ∷ [])
    -- P4: 6@1 wins, both in conflict
    ∷ case (p1 ∷ p2 ∷ p3 ∷ p4 ∷ []) (shown [])
    (alone (1 # 0) 0 ++ alone (4 # 0) 0 ++ lost (6 # 0) 7 ++ won (6 # 1) 8 ++ alone (3 # 1) 0 ++ alone (5 # 1) 0 ++ alone (3 # 0) 0)
    -- P5: 6@0 wins, no conflict; no new row
    ∷ case (p1 ∷ p2 ∷ p3 ∷ p4 ∷ p5 ∷ []) (shown [])
    (alone (1 # 0) 0 ++ alone (4 # 0) 0 ++ alone (6 # 0) 7 ++ alone (3 # 1) 0 ++ alone (5 # 1) 0 ++ alone (3 # 0) 0)
    ∷ case (p1 ∷ p2 ∷ p3 ∷ p4 ∷ p5 ∷ []) row_ids
    (1 # 0 ∷ 4 # 0 ∷ 2 # 0 ∷ 6 # 0 ∷ 6 # 1 ∷ 3 # 1 ∷ 5 # 1 ∷ 3 # 0 ∷ [])
    -- P6: with no clock; with one that covers the first increment only
    ∷ case p6 (shown []) (alone (1 # 0) 12)
    ∷ case p6 (shown (2 ∷ replicate (actors - 1) 0)) (alone (1 # 0) 15)
    -- P7: with both increments; with 1 alone
    ∷ case ((count (half - 1) ∷ raise (2 # 0) 1 ∷ raise (3 # 0) (minus 1) ∷ []) ∷ []) (shown []) (alone (1 # 0) (half - 1))
    ∷ case ((count (half - 1) ∷ raise (2 # 0) 1 ∷ []) ∷ []) (shown []) (1 # 0 ∷ 0 ∷ 1 ∷ 0 ∷ 11 ∷ [])
    -- P8: the row is gone; its successor has no increment
    ∷ case p8 (shown []) []
    ∷ case p8 successors (1 # 0 ∷ 2 # 0 ∷ 0 ∷ 0 ∷ [])
    -- P9: the counter stays, raised
    ∷ case ((count 10 ∷ number (1 # 1) 20 ∷ increments (2 # 0) root c 5 (1 # 0 ∷ 1 # 1 ∷ []) ∷ []) ∷ []) (shown []) (alone (1 # 0) 15)
    -- P10: row 0 is the list's, 1 the counter's, 2 the Increment's
    ∷ case ((the_list ∷ inserts (2 # 0) L head counter_kind 10 ∷ increments (3 # 0) L (at (2 # 0)) 1 (2 # 0 ∷ []) ∷ []) ∷ []) (spot_of L 1)
    (0 ∷ 2 # 0 ∷ 3 ∷ [])
    -- P11: HEAD, at the place behind the list's own row; 10
    ∷ case ((the_list ∷ []) ∷ []) (spot_of L 0) (0 ∷ head ∷ 1 ∷ [])
    ∷ case ((the_list ∷ []) ∷ []) (spot_of L 1) (10 ∷ 0 ∷ [])
    -- P12: a Delete's id used again; a predecessor under another key
    ∷ case ((count 10 ∷ []) ∷ (deletes (2 # 0) root c (1 # 0 ∷ []) ∷ []) ∷ []) (refusal_of (number (2 # 0) 7)) (5 ∷ 0 ∷ [])
    ∷ case ((count 10 ∷ []) ∷ []) (refusal_of (sets (2 # 0) root (key 100) null_kind 0 (1 # 0 ∷ []))) (8 ∷ 0 ∷ [])
    ∷ []

pub all_right : all right table ≡ true
unfolding table right computes
all_right = refl
