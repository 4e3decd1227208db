-- A piece of a lent slice by its number: what the code reads by index, and the definitions as a list of words.
use Rattle.std.specs.Prelude.{ℕ, ◌*◌, Bool, not, ◌&&◌, List, eqb, leb, length, get_or, take, drop, if◌then◌else◌}
use Rattle.model.specs.Sizes.{row_words}
use Rattle.model.specs.Row.{Row, object_of, on_list, element_of}

-- the piece of w words that a slice has at i
unfoldable pub piece_at : ℕ → List ℕ → ℕ → List ℕ
piece_at w xs i = take w (drop (i * w) xs)

-- is this its first word?
abbrev pub starts_with : ℕ → List ℕ → Bool
starts_with word p = eqb (get_or p 0 0) word

abbrev pub row_in : List ℕ → ℕ → Row
row_in rows i = piece_at row_words rows i

-- where row i starts; a row past the slice has no words
unfoldable pub place_of : List ℕ → ℕ → ℕ
place_of rows i = if leb (length rows) i then length rows else i * row_words

-- Rows of one object and key, told by their words. Where keys have no words past their length it is `same_key`.
unfoldable pub same_key_words : Row → Row → Bool
same_key_words a b =
    eqb (get_or a 4 0) (get_or b 4 0) && eqb (get_or a 5 0) (get_or b 5 0) && eqb (get_or a 6 0) (get_or b 6 0) && eqb (get_or a 7 0) (get_or b 7 0)

unfoldable pub same_words : Row → Row → Bool
same_words a b =
    eqb (object_of a) (object_of b)
    && (if on_list a
    then on_list b && eqb (element_of a) (element_of b)
    else not (on_list b) && same_key_words a b)
