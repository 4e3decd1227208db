-- Keys (01, "What is merged", second paragraph; "The rules", Order: "keys in byte order").
use Rattle.std.specs.Prelude.{ℕ, zero, suc, ◌^◌, ◌/◌, ◌%◌, Bool, not, ◌&&◌, List, [], ◌∷◌, eqb, take, if◌then◌else◌}
use Rattle.model.specs.Basic.{concat_map, same}
use Rattle.model.specs.Sizes.{byte_range, word_bytes}
use Rattle.model.specs.Row.{Row, object_of, on_list, key_length_of, key_words_of, element_of}

-- the lowest n bytes of a word, the highest of them first
abbrev pub bytes : ℕ → ℕ → List ℕ
bytes zero w = []
bytes (suc n) w = w / byte_range ^ n % byte_range ∷ bytes n w

-- the 24 places for a map key's bytes, and those that it has
unfoldable pub key_room_of : Row → List ℕ
key_room_of r = concat_map (bytes word_bytes) (key_words_of r)

unfoldable pub key_bytes_of : Row → List ℕ
key_bytes_of r = take (key_length_of r) (key_room_of r)

-- "of the same object and key"; "for list rows "key" means this element"
unfoldable pub same_key : Row → Row → Bool
same_key a b =
    eqb (object_of a) (object_of b)
    && (if on_list a
    then on_list b && eqb (element_of a) (element_of b)
    else not (on_list b) && same (key_bytes_of a) (key_bytes_of b))
