-- The walk over the rows of one list, by what the code tests and where it keeps what waits.
use Rattle.std.specs.Prelude.{ℕ, zero, suc, ◌+◌, ◌-◌, ◌*◌, ◌≤◌, ◌<◌, Bool, true, false, not, ◌&&◌, ◌||◌, ◌≡◌, List, [], ◌∷◌, ◌++◌, map, ltb, length, get_or, take, drop}
use Rattle.model.specs.Basic.{filter, pieces}
use Rattle.model.specs.Sizes.{row_words, op_words, word_range}
use Rattle.model.specs.Id.{head}
use Rattle.model.specs.Row.{Row, id_of, named_of, insert_of, is_insert}
use Rattle.laws.proofs.Members.{All, Mem}
use Rattle.laws.proofs.Untangle.{Event, waiting, updates}
use Rattle.laws.proofs.UntangleWalk.{walk_rows}
use Rattle.laws.proofs.Placing.{news_in, places_in}
use Rattle.batch.specs.Places.{picked, Rising}
use Rattle.batch.specs.Merge.{Known}
use Rattle.batch.specs.declared.walk_list.Cursor.{Cursor}

-- does the list's next row go before update u: one of the same element, with a smaller id?
abbrev pub row_first : Row → List Row → Bool
row_first u [] = false
row_first u (d ∷ doc) = not (is_insert d || ltb (id_of u) (id_of d))

-- does the insert that waits on top go before the list's next row?
abbrev pub wait_first : List Row → List Row → Bool
wait_first [] doc = false
wait_first (s ∷ st) [] = true
wait_first (s ∷ st) (d ∷ doc) = is_insert d && ltb (id_of d) (id_of s)

-- a list's new rows stand by the element that they name, inserts behind the rest
unfoldable pub tag_of : Row → ℕ
tag_of r = named_of r * 2 + insert_of r

-- how many are below v
unfoldable pub lower : ℕ → List ℕ → ℕ
lower v tags = length (filter (λ t. ltb t v) tags)

-- n numbers down to `from`
abbrev pub fall : ℕ → ℕ → List ℕ
fall from zero = []
fall from (suc n) = (from + n) ∷ fall from n

-- What waits: a pair of words for each run of new rows, its first and how many follow it; the last of the topmost run is next.
abbrev pub stacked : List ℕ → ℕ → List ℕ
stacked s zero = []
stacked s (suc k) = fall (get_or s (k * 2) 0) (suc (get_or s (k * 2 + 1) 0)) ++ stacked s k

abbrev pub top_of : List ℕ → ℕ → ℕ
top_of s zero = 0
top_of s (suc k) = get_or s (k * 2) 0 + get_or s (k * 2 + 1) 0

-- all that a walk puts out
unfoldable pub list_out : List Row → List Row → List Event
list_out news doc = walk_rows news (length news + length doc) [] (waiting head news) doc

-- ── a walk's state
-- new rows by their numbers in the group; a run of them
abbrev pub rows_at : List Row → List ℕ → List Row
rows_at news js = map (λ j. get_or news j []) js

abbrev pub cut_rows : ℕ → ℕ → List Row → List Row
cut_rows u e news = take (e - u) (drop u news)

-- the list's rows from row d on, of those before z; the group's new rows
unfoldable pub doc_from : List ℕ → ℕ → ℕ → List Row
doc_from rows z d = drop d (pieces row_words z rows)

unfoldable pub new_rows_of : List ℕ → List ℕ → List Row
new_rows_of ops group = picked row_words op_words ops group

-- Rows a .. z are all of a list's, and the group has its new rows by number, sorted by rank, with their tags.
pub record Listed (rows : List ℕ) (a z : ℕ) (ops group tags : List ℕ) : Type 0 where
  pub within : a ≤ z
  pub room : z * row_words ≤ length rows
  pub known : Known op_words ops group
  pub rising : Rising tags
  pub up_to : (v : ℕ) → lower v tags ≤ length group
  pub updated : (e : ℕ) → updates e (new_rows_of ops group) ≡ cut_rows (lower (e * 2) tags) (lower (e * 2 + 1) tags) (new_rows_of ops group)
  pub waits : (e : ℕ) → waiting e (new_rows_of ops group) ≡ rows_at (new_rows_of ops group) (fall (lower (e * 2 + 1) tags) (lower (e * 2 + 2) tags - lower (e * 2 + 1) tags))
  pub small-old : All (λ r. id_of r * 2 + 2 < word_range) (doc_from rows z a)
  pub small-new : All (λ r. id_of r * 2 + 2 < word_range) (new_rows_of ops group)
  pub all-out : length (news_in (list_out (new_rows_of ops group) (doc_from rows z a))) ≡ length group

-- what is still to come
unfoldable pub rest_from : List ℕ → ℕ → List ℕ → List ℕ → List ℕ → (row update end depth out : ℕ) → List Event
rest_from rows z ops group stack row update end depth out =
    let news = new_rows_of ops group in
    walk_rows news (length group - out + (z - row)) (cut_rows update end news) (rows_at news (stacked stack depth)) (doc_from rows z row)

-- So many new rows have their places as the cursor says, and what is still to come is what it is at.
pub record Walking (rows : List ℕ) (a z : ℕ) (ops group stack order places : List ℕ) (at : Cursor) : Type 0 where
  pub row_from : a ≤ at.row
  pub row-to : at.row ≤ z
  pub end-in : at.end ≤ length group
  pub out-in : at.out ≤ length group
  pub stack-in : All (λ j. j < length group) (stacked stack at.depth)
  pub stack-room : (at.depth + (z - at.row) + (length group - at.out)) * 2 ≤ length stack
  pub numbers : length order ≡ length group
  pub spots : length places ≡ length group
  pub news : news_in (list_out (new_rows_of ops group) (doc_from rows z a)) ≡ new_rows_of ops (take at.out order) ++ news_in (rest_from rows z ops group stack at.row at.update at.end at.depth at.out)
  pub puts : places_in a (list_out (new_rows_of ops group) (doc_from rows z a)) ≡ take at.out places ++ places_in at.row (rest_from rows z ops group stack at.row at.update at.end at.depth at.out)
  pub chosen : All (λ x. Mem x group) (take at.out order)
