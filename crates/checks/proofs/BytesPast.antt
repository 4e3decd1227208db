-- The bytes of words past a place: are they zero? Word by word.
use Prim.Native.Nat.{ℕ, zero, suc, ◌+◌, ◌-◌, ◌≤◌, ◌<◌}
use mathlib.Core.Path.{◌≡◌, refl, sym, ap, ◌∙◌}
use mathlib.Core.Bool.{Bool, true, false, ◌&&◌}
use mathlib.Core.List.{List, [], ◌∷◌, ◌++◌}
use native.Mathlib.Nat.{sub-zero, suc-sub-suc, zero-sub, pow-succ', div-div-eq-div-mul, le_of_suc-le-suc}
use native.Mathlib.Omega.{arith}
use lib.Dec.{T, eqb}
use lib.ListN.{length, get_or, drop, length-take}
use lib.Seq.{drop-nil}
use Rattle.std.specs.List.{list_all}
use Rattle.std.specs.Int.{to_be_bytes, w64}
use Rattle.model.specs.Basic.{zeros, concat_map}
use Rattle.model.specs.Sizes.{word_bytes}
use Rattle.model.specs.Row.{Row, key_length_of, key_words_of}
use Rattle.model.specs.Key.{bytes, key_room_of}
use Rattle.laws.proofs.Tests.{T_and, is_true, eqb-sym, and-true}
use Rattle.laws.proofs.Pieces.{word_of}
use Rattle.checks.specs.Fits.{zero_past, key_zero_past, key_zero}

zeros-append : (a b : List ℕ) → zeros (a ++ b) ≡ zeros a && zeros b
zeros-append [] b = refl
zeros-append (x ∷ a) b = rw (zeros-append a b) (assoc (eqb 0 x) (zeros a) (zeros b))
  where
    assoc : (p q r : Bool) → p && (q && r) ≡ (p && q) && r
    assoc true q r = refl
    assoc false q r = refl

-- ---- word by word

drop-append : (n : ℕ) (a b : List ℕ) → drop n (a ++ b) ≡ drop n a ++ drop (n - length a) b
drop-append zero a b = rw (zero-sub (length a))
drop-append (suc n) [] b = rw (sub-zero (suc n))
drop-append (suc n) (x ∷ a) b = rw (suc-sub-suc n (length a)) (drop-append n a b)

drop-zeros : (n : ℕ) (l : List ℕ) → T (zeros l) → T (zeros (drop n l))
drop-zeros zero l t = t
drop-zeros (suc n) [] t = t
drop-zeros (suc n) (x ∷ l) t = drop-zeros n l ((T_and (eqb 0 x) (zeros l)).0 t).1

no_word : (n : ℕ) → zeros (drop n (bytes word_bytes 0)) ≡ true
no_word n = is_true (zeros (drop n (bytes word_bytes 0))) (drop-zeros n (bytes word_bytes 0) tt)

word-past : (n w : ℕ) (b : List ℕ) → zeros (drop n (bytes word_bytes w ++ b)) ≡ zeros (drop n (bytes word_bytes w)) && zeros (drop (n - word_bytes) b)
word-past n w b =
    ap zeros (drop-append n (bytes word_bytes w) b)
    ∙ zeros-append (drop n (bytes word_bytes w)) (drop (n - word_bytes) b)

nothing : (n : ℕ) → zeros (drop n []) ≡ true
nothing n = ap zeros (drop-nil n)

-- a word that is not there is as good as 0
words-past : (n : ℕ) (ws : List ℕ) → length ws ≤ 3
    → zeros (drop n (concat_map (bytes word_bytes) ws)) ≡ (zero_past n (get_or ws 0 0) && (zero_past (n - word_bytes) (get_or ws 1 0) && zero_past (n - word_bytes - word_bytes) (get_or ws 2 0)))
unfolding zero_past
words-past n [] h = nothing n ∙ sym (rw (no_word n, no_word (n - word_bytes)) (no_word (n - word_bytes - word_bytes)))
words-past n (a ∷ []) h =
    word-past n a [] ∙ ap (λ b. zero_past n a && b) (nothing (n - word_bytes) ∙ sym (rw (no_word (n - word_bytes)) (no_word (n - word_bytes - word_bytes))))
words-past n (a ∷ b ∷ []) h =
    word-past n a (bytes word_bytes b ++ [])
    ∙ ap (λ x. zero_past n a && x) (word-past (n - word_bytes) b [] ∙ ap (λ x. zero_past (n - word_bytes) b && x) (nothing (n - word_bytes - word_bytes) ∙ sym (no_word (n - word_bytes - word_bytes))))
words-past n (a ∷ b ∷ d ∷ []) h =
    word-past n a (bytes word_bytes b ++ bytes word_bytes d ++ [])
    ∙ ap (λ x. zero_past n a && x)
    (word-past (n - word_bytes) b (bytes word_bytes d ++ [])
    ∙ ap (λ x. zero_past (n - word_bytes) b && x)
    (word-past (n - word_bytes - word_bytes) d [] ∙ ap (λ x. zero_past (n - word_bytes - word_bytes) d && x) (nothing (n - word_bytes - word_bytes - word_bytes)) ∙ and-true (zero_past (n - word_bytes - word_bytes) d)))
words-past n (a ∷ b ∷ d ∷ e ∷ ws) h = let z : ⊥ = omega arith in absurd z

words-zero : (ws : List ℕ) → length ws ≤ 3 → zeros ws ≡ (eqb 0 (get_or ws 0 0) && (eqb 0 (get_or ws 1 0) && eqb 0 (get_or ws 2 0)))
words-zero [] h = refl
words-zero (a ∷ []) h = refl
words-zero (a ∷ b ∷ []) h = refl
words-zero (a ∷ b ∷ d ∷ []) h = ap (λ x. eqb 0 a && (eqb 0 b && x)) (and-true (eqb 0 d))
words-zero (a ∷ b ∷ d ∷ e ∷ ws) h = let z : ⊥ = omega arith in absurd z

module _ (r : Row) where
  few : length (key_words_of r) ≤ 3
  few = omega (arith, length-take 3 (drop 5 r))

  key-word : (k : ℕ) → k < 3 → get_or (key_words_of r) k 0 ≡ get_or r (5 + k) 0
  key-word k h = word_of 3 5 k r h

  -- a key's words, by place
  pub key_past : key_zero_past r ≡ (zero_past (key_length_of r) (get_or r 5 0) && (zero_past (key_length_of r - word_bytes) (get_or r 6 0) && zero_past (key_length_of r - word_bytes - word_bytes) (get_or r 7 0)))
  unfolding key_zero_past key_room_of
  key_past = words-past (key_length_of r) (key_words_of r) few ∙ rw (key-word 0 (omega arith), key-word 1 (omega arith), key-word 2 (omega arith))

  pub key_none : key_zero r ≡ (eqb (get_or r 5 0) 0 && (eqb (get_or r 6 0) 0 && eqb (get_or r 7 0) 0))
  unfolding key_zero
  key_none =
      words-zero (key_words_of r) few
      ∙ rw (key-word 0 (omega arith), key-word 1 (omega arith), key-word 2 (omega arith), eqb-sym 0 (get_or r 5 0), eqb-sym 0 (get_or r 6 0), eqb-sym 0 (get_or r 7 0))

-- as the library writes a word's bytes, and tests them
tests-same : (bs : List ℕ) → list_all (λ b. eqb b 0) bs ≡ zeros bs
tests-same [] = refl
tests-same (b ∷ bs) = rw (eqb-sym b 0, tests-same bs)

pub past_bytes : (n w : ℕ) (bs : List ℕ) → bs ≡ to_be_bytes w64 w → list_all (λ b. eqb b 0) (drop n bs) ≡ zero_past n w
unfolding zero_past
past_bytes n w bs e = tests-same (drop n bs) ∙ ap (λ l. zeros (drop n l)) (e ∙ sym (rw native.Mathlib.Nat.div-one))
