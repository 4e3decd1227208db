-- Keys compared by words: where no byte stands past a key's length, two keys are the same exactly when their lengths and words are.
use Rattle.std.specs.Prelude.{if◌then◌else◌}
use mathlib.Core.Path.{◌≡◌, refl, sym, ap, ◌∙◌}
use mathlib.Core.Bool.{◌&&◌}
use mathlib.Core.List.{List, [], ◌∷◌, ◌++◌}
use Prim.Native.Nat.{ℕ, zero, suc, ◌*◌, ◌-◌, ◌/◌, ◌%◌, ◌^◌, ◌≤◌, ◌<◌}
use native.Mathlib.Nat.{pow-suc, div-one, div-div-eq-div-mul}
use native.Mathlib.Omega.{arith}
use lib.Dec.{T, leb, eqb, leb→le, eqb→eq}
use lib.ListN.{length, get_or, take, drop, replicate, take-append-drop, length-drop}
use lib.Seq.{drop-cons, length-take-le}
use Rattle.model.specs.Basic.{concat_map, same, zeros, all}
use Rattle.model.specs.Sizes.{row_words, byte_range, word_bytes, word_range, max_key}
use Rattle.model.specs.Row.{Row, on_list, named_of, key_length_of, key_words_of}
use Rattle.model.specs.Key.{bytes, key_room_of, key_bytes_of, same_key}
use Rattle.model.specs.Malformed.{list_key_fits, map_key_fits}
use Rattle.laws.proofs.Tests.{T_and, bool-ext, by-test, is_true, is_false, eq→eqb}
use Rattle.laws.proofs.Members.{words-eq, words-refl}
use Rattle.ids.specs.Words.{same_key_words, same_words}

-- ── a word is told by its bytes
one_byte : (a w v : ℕ) → w / (a * byte_range) ≡ v / (a * byte_range) → w / a % byte_range ≡ v / a % byte_range → w / a ≡ v / a
one_byte a w v e f =
    let x = w / a in
    let y = v / a in
    let g : x / byte_range ≡ y / byte_range = div-div-eq-div-mul w a byte_range ∙ e ∙ sym (div-div-eq-div-mul v a byte_range) in
    omega arith

by_bytes : (n w v : ℕ) → bytes n w ≡ bytes n v → w / byte_range ^ n ≡ v / byte_range ^ n → w ≡ v
by_bytes zero w v e f = sym (div-one w) ∙ f ∙ div-one v
by_bytes (suc n) w v e f =
    let h : w / byte_range ^ n % byte_range ≡ v / byte_range ^ n % byte_range = cc in
    let t : bytes n w ≡ bytes n v = cc in
    by_bytes n w v t (one_byte (byte_range ^ n) w v (rw (pow-suc byte_range n) at f) h)

by_word : (w v : ℕ) → w < word_range → v < word_range → bytes word_bytes w ≡ bytes word_bytes v → w ≡ v
by_word w v h k e =
    let x : w / word_range ≡ 0 = omega arith in
    let y : v / word_range ≡ 0 = omega arith in
    by_bytes word_bytes w v e (x ∙ sym y)

-- ── the places for a key's bytes
pub key-words : (r : Row) → length r ≡ row_words → key_words_of r ≡ get_or r 5 0 ∷ get_or r 6 0 ∷ get_or r 7 0 ∷ []
key-words r l = rw (drop-cons r 5 0 (omega arith), drop-cons r 6 0 (omega arith), drop-cons r 7 0 (omega arith))

all-zeros : (l : List ℕ) → T (zeros l) → l ≡ replicate (length l) 0
all-zeros [] t = refl
all-zeros (x ∷ l) t =
    let u = (T_and (eqb 0 x) (all (eqb 0) l)).0 t in
    ap (λ (y : ℕ). y ∷ l) (sym (eqb→eq 0 x u.0)) ∙ ap (λ (k : List ℕ). 0 ∷ k) (all-zeros l u.1)

-- what is asked of a row here: it is a whole one, of words in range
pub record Whole (r : Row) : Type 0 where
  pub wide : length r ≡ row_words
  pub range : (k : ℕ) → get_or r k 0 < word_range

room-long : (r : Row) → Whole r → length (key_room_of r) ≡ max_key
unfolding key_room_of
room-long r w = rw (key-words r w.wide)

module _ (a b : Row) (v : Whole a) (w : Whole b) (f : T (map_key_fits a)) (g : T (map_key_fits b)) where
  parts : (r : Row) → T (map_key_fits r) → (key_length_of r ≤ max_key) × T (zeros (drop (key_length_of r) (key_room_of r)))
  unfolding map_key_fits
  parts r t =
      let u = (T_and (eqb (named_of r) 0 && leb (key_length_of r) max_key) (zeros (drop (key_length_of r) (key_room_of r)))).0 t in
      (leb→le (key_length_of r) max_key ((T_and (eqb (named_of r) 0) (leb (key_length_of r) max_key)).0 u.0).1, u.1)

  long : (r : Row) → Whole r → key_length_of r ≤ max_key → length (key_bytes_of r) ≡ key_length_of r
  unfolding key_bytes_of
  long r x h = length-take-le (key_length_of r) (key_room_of r) (omega (arith, room-long r x))

  room-is : (r : Row) → Whole r → T (map_key_fits r) → key_room_of r ≡ key_bytes_of r ++ replicate (max_key - key_length_of r) 0
  unfolding key_bytes_of
  room-is r x t =
      let p = parts r t in
      let n : length (drop (key_length_of r) (key_room_of r)) ≡ max_key - key_length_of r = length-drop (key_length_of r) (key_room_of r) ∙ ap (λ (k : ℕ). k - key_length_of r) (room-long r x) in
      sym (take-append-drop (key_length_of r) (key_room_of r))
      ∙ ap (λ (l : List ℕ). take (key_length_of r) (key_room_of r) ++ l) (all-zeros (drop (key_length_of r) (key_room_of r)) p.1 ∙ ap (λ (k : ℕ). replicate k 0) n)

  pub words-from : key_bytes_of a ≡ key_bytes_of b → T (same_key_words a b)
  unfolding same_key_words key_room_of
  words-from e =
      let l : key_length_of a ≡ key_length_of b = sym (long a v (parts a f).0) ∙ ap length e ∙ long b w (parts b g).0 in
      let room : key_room_of a ≡ key_room_of b = room-is a v f ∙ ap (λ (k : List ℕ). k ++ replicate (max_key - key_length_of a) 0) e ∙ ap (λ (n : ℕ). key_bytes_of b ++ replicate (max_key - n) 0) l ∙ sym (room-is b w g) in
      let spelled : concat_map (bytes word_bytes) (get_or a 5 0 ∷ get_or a 6 0 ∷ get_or a 7 0 ∷ []) ≡ concat_map (bytes word_bytes) (get_or b 5 0 ∷ get_or b 6 0 ∷ get_or b 7 0 ∷ []) =
      ap (concat_map (bytes word_bytes)) (sym (key-words a v.wide)) ∙ room ∙ ap (concat_map (bytes word_bytes)) (key-words b w.wide) in
      let x : get_or a 5 0 ≡ get_or b 5 0 = by_word (get_or a 5 0) (get_or b 5 0) (v.range 5) (w.range 5) (ap (take word_bytes) spelled) in
      let y : get_or a 6 0 ≡ get_or b 6 0 = by_word (get_or a 6 0) (get_or b 6 0) (v.range 6) (w.range 6) (ap (λ (k : List ℕ). take word_bytes (drop word_bytes k)) spelled) in
      let z : get_or a 7 0 ≡ get_or b 7 0 = by_word (get_or a 7 0) (get_or b 7 0) (v.range 7) (w.range 7) (ap (λ (k : List ℕ). take word_bytes (drop (2 * word_bytes) k)) spelled) in
      let t1 = (T_and (eqb (get_or a 4 0) (get_or b 4 0)) (eqb (get_or a 5 0) (get_or b 5 0))).1 (eq→eqb (get_or a 4 0) (get_or b 4 0) l, eq→eqb (get_or a 5 0) (get_or b 5 0) x) in
      let t2 = (T_and (eqb (get_or a 4 0) (get_or b 4 0) && eqb (get_or a 5 0) (get_or b 5 0)) (eqb (get_or a 6 0) (get_or b 6 0))).1 (t1, eq→eqb (get_or a 6 0) (get_or b 6 0) y) in
      (T_and (eqb (get_or a 4 0) (get_or b 4 0) && eqb (get_or a 5 0) (get_or b 5 0) && eqb (get_or a 6 0) (get_or b 6 0)) (eqb (get_or a 7 0) (get_or b 7 0))).1 (t2, eq→eqb (get_or a 7 0) (get_or b 7 0) z)

  pub words-to : T (same_key_words a b) → key_bytes_of a ≡ key_bytes_of b
  unfolding same_key_words key_bytes_of key_room_of
  words-to t =
      let e = eqb (get_or a 4 0) (get_or b 4 0) && eqb (get_or a 5 0) (get_or b 5 0) in
      let t3 = (T_and (e && eqb (get_or a 6 0) (get_or b 6 0)) (eqb (get_or a 7 0) (get_or b 7 0))).0 t in
      let t2 = (T_and e (eqb (get_or a 6 0) (get_or b 6 0))).0 t3.0 in
      let t1 = (T_and (eqb (get_or a 4 0) (get_or b 4 0)) (eqb (get_or a 5 0) (get_or b 5 0))).0 t2.0 in
      rw (
        key-words a v.wide,
        key-words b w.wide,
        eqb→eq (get_or a 4 0) (get_or b 4 0) t1.0,
        eqb→eq (get_or a 5 0) (get_or b 5 0) t1.1,
        eqb→eq (get_or a 6 0) (get_or b 6 0) t2.1,
        eqb→eq (get_or a 7 0) (get_or b 7 0) t3.1,
      )

  pub same_bytes : same_key_words a b ≡ same (key_bytes_of a) (key_bytes_of b)
  same_bytes =
      bool-ext (same_key_words a b) (same (key_bytes_of a) (key_bytes_of b)) (λ t. rw (words-to t) (words-refl (key_bytes_of b))) (λ t. words-from (words-eq (key_bytes_of a) (key_bytes_of b) t))

-- ── so the code's test is the definition's
pub same-words : (a b : Row) → Whole a → Whole b → T (if on_list a then list_key_fits a else map_key_fits a) → T (if on_list b then list_key_fits b else map_key_fits b) → same_words a b ≡ same_key a b
unfolding same_words same_key
same-words a b v w f g =
    by-test (on_list a)
    (λ t. rw (is_true (on_list a) t))
    (λ t. by-test (on_list b)
    (λ u. rw (is_false (on_list a) t, is_true (on_list b) u))
    (λ u.
    let x = is_false (on_list a) t in
    let y = is_false (on_list b) u in
    rw (x, y, same_bytes a b v w (rw x at f) (rw y at g))))
