-- May a row stand right behind another? As `adjacent` (laws, Passes), with map keys compared by words.
use Rattle.std.specs.Prelude.{ℕ, Bool, List, [], ◌∷◌, ◌&&◌, ◌||◌, ltb, eqb, get_or, if◌then◌else◌}
use Rattle.model.specs.Row.{Row, id_of, object_of, on_list, key_length_of}
use Rattle.laws.proofs.Passes.{begins, list_next}

abbrev pub map_place : Row → List ℕ
map_place r = get_or r 5 0 ∷ get_or r 6 0 ∷ get_or r 7 0 ∷ key_length_of r ∷ id_of r ∷ []

unfoldable pub tail_next : Row → Row → Bool
tail_next a b = ltb (key_length_of a) (key_length_of b) || eqb (key_length_of a) (key_length_of b) && ltb (id_of a) (id_of b)

unfoldable pub key_next : Row → Row → Bool
key_next a b =
    ltb (get_or a 5 0) (get_or b 5 0)
    || eqb (get_or a 5 0) (get_or b 5 0)
    && (ltb (get_or a 6 0) (get_or b 6 0)
    || eqb (get_or a 6 0) (get_or b 6 0)
    && (ltb (get_or a 7 0) (get_or b 7 0)
    || eqb (get_or a 7 0) (get_or b 7 0)
    && tail_next a b))

unfoldable pub follows : Row → Row → Bool
follows a b =
    ltb (object_of a) (object_of b) && begins b
    || eqb (object_of a) (object_of b) && (if on_list b then list_next a b else key_next a b)
