-- The order of rows (01, "The rules", Order).
use Rattle.std.specs.Prelude.{ℕ, zero, suc, Bool, ◌&&◌, ◌||◌, List, [], ◌∷◌, map, ltb, eqb, length, if◌then◌else◌}
use Rattle.model.specs.Basic.{filter, sort, concat_map, place_in, same, lex_before}
use Rattle.model.specs.Id.{head}
use Rattle.model.specs.Row.{Row, id_of, object_of, on_list, named_of, is_insert, is_make_sequence, element_of}
use Rattle.model.specs.Key.{key_bytes_of}

-- the insert rows of list o
unfoldable pub inserts : List Row → ℕ → List Row
inserts rs o = filter (λ r. is_insert r && eqb (object_of r) o) rs

-- "an insert is a child of the element it refers to (or of HEAD) and siblings descend by id"
unfoldable pub children : List Row → ℕ → ℕ → List ℕ
children rs o e = sort (λ a b. ltb b a) (map id_of (filter (λ r. eqb (named_of r) e) (inserts rs o)))

-- "elements in tree preorder": each child of e, and behind it all that is below it. `depth` bounds how far down this goes.
unfoldable pub below : ℕ → List Row → ℕ → ℕ → List ℕ
below zero rs o e = []
below (suc depth) rs o e = concat_map (λ c. c ∷ below depth rs o c) (children rs o e)

-- The elements of list o. No branch is longer than there are rows.
unfoldable pub elements : List Row → ℕ → List ℕ
elements rs o = below (length rs) rs o head

-- the elements of every list, the lists ascending by id
unfoldable pub preorder : List Row → List ℕ
preorder rs = concat_map (elements rs) (sort ltb (map id_of (filter is_make_sequence rs)))

-- Where a row's key stands among its object's: in a map by its bytes, in a list by the place of its element in tree preorder, es.
unfoldable pub key_rank : List ℕ → Row → List ℕ
key_rank es r = if on_list r then place_in es (element_of r) ∷ [] else key_bytes_of r

-- "Objects ascend by id, ROOT first. In a map: keys in byte order, then ids ascending. In a list: elements in tree preorder .. each element's
-- insert row is followed by its other rows, ids ascending": its id is the smallest of them (check 7), so ids ascend there too.
unfoldable pub before : List ℕ → Row → Row → Bool
before es a b =
    ltb (object_of a) (object_of b)
    || eqb (object_of a) (object_of b)
    && (lex_before (key_rank es a) (key_rank es b)
    || same (key_rank es a) (key_rank es b)
    && ltb (id_of a) (id_of b))

unfoldable pub order : List Row → List Row
order rs = sort (before (preorder rs)) rs
