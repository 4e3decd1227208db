-- The walk over a whole document, object by object, by what the code tests.
use Rattle.std.specs.Prelude.{ℕ, zero, suc, ◌+◌, ◌-◌, ◌*◌, ◌≤◌, ◌<◌, ◌≡◌, Bool, false, not, List, [], ◌∷◌, ◌++◌, map, T, ltb, length, get_or, take, drop, if◌then◌else◌}
use Rattle.model.specs.Sizes.{row_words, op_words, word_range}
use Rattle.model.specs.Row.{Row, object_of, on_list}
use Rattle.laws.proofs.Members.{Mem, All}
use Rattle.laws.proofs.Passes.{map_next}
use Rattle.laws.proofs.Untangle.{Event, old, olds}
use Rattle.laws.proofs.MapMerge.{map_rows}
use Rattle.laws.proofs.Placing.{news_in, places_in}
use Rattle.batch.specs.Places.{Rising}
use Rattle.batch.specs.Rank.{op_before}
use Rattle.batch.specs.Merge.{Known}
use Rattle.batch.specs.Walk.{lower, tag_of, list_out, doc_from, new_rows_of, Listed}

-- does the map's next row go before new row u?
abbrev pub map_first : Row → List Row → Bool
map_first u [] = false
map_first u (d ∷ doc) = not (op_before u d)

unfoldable pub map_out : List Row → List Row → List Event
map_out news doc = map_rows (length news + length doc) news doc

-- one object, by the kind of key of its first new row
abbrev pub object_out : List Row → List Row → List Event
object_out [] doc = map old doc
object_out (u ∷ news) doc = if on_list u then list_out (u ∷ news) doc else map_out (u ∷ news) doc

-- how many have an object below v; the rows whose object is v or above, and below w, of a list in which objects ascend
unfoldable pub below : ℕ → List Row → ℕ
below v rs = lower v (map object_of rs)

unfoldable pub between : ℕ → ℕ → List Row → List Row
between v w rs = take (below w rs - below v rs) (drop (below v rs) rs)

-- Objects from bound b on: the rows before an object's, its own, which are walked with its new rows, and so on. n bounds the steps.
abbrev pub out_from : ℕ → List Row → List Row → ℕ → List Event
out_from zero news doc b = map old (drop (below b doc) doc)
out_from (suc n) news doc b =
    if ltb (below b news) (length news)
    then (let o = object_of (get_or news (below b news) []) in
    map old (between b o doc) ++ (object_out (between o (suc o) news) (between o (suc o) doc) ++ out_from n news doc (suc o)))
    else map old (drop (below b doc) doc)

unfoldable pub doc_out : List Row → List Row → List Event
doc_out news doc = out_from (length news) news doc 0

-- ── what a walk over a map asks
-- Rows a .. z are all of a map's, and the group has its new rows by number; among them a rank's order is that of keys and ids.
pub record Mapped (rows : List ℕ) (a z : ℕ) (ops group : List ℕ) : Type 0 where
  pub within : a ≤ z
  pub room : z * row_words ≤ length rows
  pub known : Known op_words ops group
  pub by_rank : (u d : Row) → Mem u (new_rows_of ops group) → Mem d (doc_from rows z a) → map_next u d ≡ op_before u d

-- ── what a walk over an object asks, by the kind of its first new row
unfoldable pub tags_of : List ℕ → List ℕ → List ℕ
tags_of ops group = map tag_of (new_rows_of ops group)

pub record Object (rows : List ℕ) (a z : ℕ) (ops group : List ℕ) : Type 0 where
  pub some : 0 < length group
  pub all_known : Known op_words ops group
  pub small-tags : All (λ r. tag_of r < word_range) (new_rows_of ops group)
  pub of-list : T (on_list (get_or (new_rows_of ops group) 0 [])) → Listed rows a z ops group (tags_of ops group)
  pub of_map : T (not (on_list (get_or (new_rows_of ops group) 0 []))) → Mapped rows a z ops group

-- the new rows of object o, by number
unfoldable pub group_of : List ℕ → List ℕ → ℕ → List ℕ
group_of ops sorted o =
    let news = new_rows_of ops sorted in
    take (below (suc o) news - below o news) (drop (below o news) sorted)

-- ── what a walk over all objects asks: objects ascend, and each may be walked
pub record Grouped (rows : List ℕ) (n : ℕ) (ops sorted : List ℕ) : Type 0 where
  pub rows_in : n * row_words ≤ length rows
  pub ops-in : Known op_words ops sorted
  pub small-objects : All (λ r. object_of r + 1 < word_range) (new_rows_of ops sorted)
  pub rows-rise : Rising (map object_of (doc_from rows n 0))
  pub news-rise : Rising (map object_of (new_rows_of ops sorted))
  pub each : (o : ℕ) → below o (new_rows_of ops sorted) < below (suc o) (new_rows_of ops sorted)
      → Object rows (below o (doc_from rows n 0)) (below (suc o) (doc_from rows n 0)) ops (group_of ops sorted o)
  pub kept : (o : ℕ) → olds (object_out (between o (suc o) (new_rows_of ops sorted)) (between o (suc o) (doc_from rows n 0))) ≡ between o (suc o) (doc_from rows n 0)

-- ── the state between two objects: `lo` new rows have their places, all of objects below the bound; n bounds the objects to come
pub record Grouping (rows : List ℕ) (n : ℕ) (ops sorted order places : List ℕ) (lo : ℕ) : Type 0 where
  pub bound : ℕ
  pub steps : ℕ
  pub lo-is : lo ≡ below bound (new_rows_of ops sorted)
  pub enough : length sorted - lo ≤ steps
  pub numbers : length order ≡ length sorted
  pub spots : length places ≡ length sorted
  pub news : news_in (doc_out (new_rows_of ops sorted) (doc_from rows n 0)) ≡ new_rows_of ops (take lo order) ++ news_in (out_from steps (new_rows_of ops sorted) (doc_from rows n 0) bound)
  pub puts : places_in 0 (doc_out (new_rows_of ops sorted) (doc_from rows n 0)) ≡ take lo places ++ places_in (below bound (doc_from rows n 0)) (out_from steps (new_rows_of ops sorted) (doc_from rows n 0) bound)
  pub chosen : All (λ x. Mem x sorted) (take lo order)

-- ── what is asked to put new rows in: the walk leaves the document's rows as they stand, and there is room
pub record Mergeable (rows : List ℕ) (n : ℕ) (ops sorted : List ℕ) : Type 0 where
  pub walks : Grouped rows n ops sorted
  pub stays : olds (doc_out (new_rows_of ops sorted) (doc_from rows n 0)) ≡ doc_from rows n 0
  pub fits : (n + length sorted) * row_words ≤ length rows
