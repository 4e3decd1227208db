-- Map keys of rows that pass check 4: their bytes in byte order are their words and then their length in dictionary order, and tell both.
use mathlib.Core.Path.{◌≡◌, refl, sym, ap₂, ◌∙◌}
use mathlib.Core.Bool.{Bool, true, false, ◌&&◌, ◌||◌}
use mathlib.Core.List.{List, [], ◌∷◌, ◌++◌}
use Prim.Native.Nat.{ℕ, ◌≤◌, ◌<◌}
use native.Mathlib.Omega.{arith}
use lib.Dec.{T, leb, ltb, eqb, leb→le, eqb→eq}
use lib.ListN.{length, take, drop, length-take, length-drop, take-append-drop}
use lib.Seq.{take_at, get_or_at}
use Rattle.model.specs.Basic.{lex_before, same, zeros, concat_map}
use Rattle.model.specs.Sizes.{word_bytes, word_range, max_key}
use Rattle.model.specs.Row.{Row, named_of, key_length_of, key_words_of}
use Rattle.model.specs.Key.{bytes, key_room_of, key_bytes_of}
use Rattle.model.specs.Malformed.{map_key_fits}
use Rattle.laws.proofs.Tests.{T_and, bool-ext, eq→eqb}
use Rattle.laws.proofs.Members.{All, append_left, append_right, words-eq}
use Rattle.laws.proofs.Lex.{words-is}
use Rattle.laws.proofs.Bytes.{lex-append, lex-apart, lex-words, same-words, length-words, lex-padded}

-- what the laws ask of a row: its key passes check 4, and its three key words are words
pub record Keyed (r : Row) : Type 0 where
  pub fits : T (map_key_fits r)
  pub three : length (key_words_of r) ≡ 3
  pub small : All (λ w. w < word_range) (key_words_of r)

-- a row has them that was cut from a lent slice
module _ {A : Type 0} (P : A → Type 0) (n : ℕ) (l : List A) where
  all_take : All P l → All P (take n l)
  all_take h x m = h x (rw take-append-drop at (append_left (drop n l) m))

  all_drop : All P l → All P (drop n l)
  all_drop h x m = h x (rw take-append-drop at (append_right (take n l) m))

pub keyed : (r : Row) → 8 ≤ length r → All (λ w. w < word_range) r → T (map_key_fits r) → Keyed r
keyed r l s t =
    record {
      fits = t;
      three = simp (length-take, length-drop) (omega arith);
      small = all_take (λ w. w < word_range) 3 (drop 5 r) (all_drop (λ w. w < word_range) 5 r s);
    }

-- the length is in the room, and the room is zero past it
key-room : {r : Row} → Keyed r → (key_length_of r ≤ length (key_room_of r)) × T (zeros (drop (key_length_of r) (key_room_of r)))
unfolding map_key_fits key_room_of
key-room {r} k =
    let rest = zeros (drop (key_length_of r) (key_room_of r)) in
    let p = (T_and (eqb (named_of r) 0 && leb (key_length_of r) max_key) rest).0 k.fits in
    let q = (T_and (eqb (named_of r) 0) (leb (key_length_of r) max_key)).0 p.0 in
    (rw (length-words word_bytes (key_words_of r), k.three) (leb→le (key_length_of r) max_key q.1), p.1)

or_nothing : (a b : Bool) → (a || b && false) ≡ a
or_nothing true b = refl
or_nothing false true = refl
or_nothing false false = refl

module _ (a b : Row) (j : Keyed a) (k : Keyed b) where
  lengths : length (key_words_of a) ≡ length (key_words_of b)
  lengths = j.three ∙ sym k.three

  rooms : length (key_room_of a) ≡ length (key_room_of b)
  unfolding key_room_of
  rooms = length-words word_bytes (key_words_of a) ∙ rw lengths (sym (length-words word_bytes (key_words_of b)))

  -- the order of rooms is that of words
  room-order : lex_before (key_room_of a) (key_room_of b) ≡ lex_before (key_words_of a) (key_words_of b)
  unfolding key_room_of
  room-order = lex-words word_bytes (key_words_of a) (key_words_of b) lengths j.small k.small

  room-same : same (key_room_of a) (key_room_of b) ≡ same (key_words_of a) (key_words_of b)
  unfolding key_room_of
  room-same = same-words word_bytes (key_words_of a) (key_words_of b) lengths j.small k.small

  -- key bytes in byte order: the order of the key words, then of the length
  pub key-order : lex_before (key_bytes_of a) (key_bytes_of b) ≡ lex_before (key_words_of a ++ key_length_of a ∷ []) (key_words_of b ++ key_length_of b ∷ [])
  unfolding key_bytes_of
  key-order =
      lex-padded (key_room_of a) (key_room_of b) (key_length_of a) (key_length_of b) rooms (key-room j).0 (key-room k).0 (key-room j).1 (key-room k).1
      ∙ rw (room-order, room-same, lex-append (key_words_of a) (key_words_of b) (key_length_of a ∷ []) (key_length_of b ∷ []) lengths, or_nothing (ltb (key_length_of a) (key_length_of b)) (eqb (key_length_of a) (key_length_of b)))

-- a key's bytes tell its length and its words
pub key-same : (a b : Row) → Keyed a → Keyed b → key_bytes_of a ≡ key_bytes_of b → (key_length_of a ≡ key_length_of b) × (key_words_of a ≡ key_words_of b)
key-same a b j k e =
    let w : key_words_of a ++ key_length_of a ∷ [] ≡ key_words_of b ++ key_length_of b ∷ [] = lex-apart (key-order a b j k) (key-order b a k j) e in (
      sym (get_or_at (key_words_of a) (key_length_of a) [] 0 3 j.three) ∙ rw w (get_or_at (key_words_of b) (key_length_of b) [] 0 3 k.three),
      sym (take_at (key_words_of a) (key_length_of a ∷ []) 3 j.three) ∙ rw w (take_at (key_words_of b) (key_length_of b ∷ []) 3 k.three),
    )

pub key-bytes : (a b : Row) → key_length_of a ≡ key_length_of b → key_words_of a ≡ key_words_of b → key_bytes_of a ≡ key_bytes_of b
unfolding key_bytes_of key_room_of
key-bytes a b e f = ap₂ (λ n ws. take n (concat_map (bytes word_bytes) ws)) e f

-- so the test for one key compares words and lengths
pub key-test : (a b : Row) → Keyed a → Keyed b → same (key_bytes_of a) (key_bytes_of b) ≡ (same (key_words_of a) (key_words_of b) && eqb (key_length_of a) (key_length_of b))
key-test a b j k =
    let words = same (key_words_of a) (key_words_of b) in
    let lengths = eqb (key_length_of a) (key_length_of b) in
    bool-ext (same (key_bytes_of a) (key_bytes_of b)) (words && lengths)
    (λ t. let p = key-same a b j k (words-eq (key_bytes_of a) (key_bytes_of b) t) in
    (T_and words lengths).1 ((words-is (key_words_of a) (key_words_of b)).1 p.1, eq→eqb (key_length_of a) (key_length_of b) p.0))
    (λ t. let p = (T_and words lengths).0 t in
    (words-is (key_bytes_of a) (key_bytes_of b)).1
    (key-bytes a b (eqb→eq (key_length_of a) (key_length_of b) p.1) (words-eq (key_words_of a) (key_words_of b) p.0)))
