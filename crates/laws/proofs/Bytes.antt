-- Bytes of words, and lists of bytes in dictionary order: words compare as their bytes do, and lists that are filled up with zeros to one length
-- compare as the lists themselves, but for their lengths.
use mathlib.Core.Path.{◌≡◌, refl, sym, ap, ◌∙◌}
use mathlib.Core.Logic.{⊎_elim}
use mathlib.Core.Bool.{Bool, true, false, ◌&&◌, ◌||◌}
use mathlib.Core.List.{List, [], ◌∷◌, ◌++◌}
use Prim.Native.Nat.{ℕ, zero, suc, ◌+◌, ◌*◌, ◌^◌, ◌/◌, ◌%◌, ◌≤◌, ◌<◌}
use native.Mathlib.Nat.{mul-le-mul_right, zero-mul, suc-mul, add-mul, mul_assoc, mul_comm, pow-suc, one-le-pow, div-add-mod', mod-lt, mod-one, mod-eq_of_lt, mul-add-mod_self_right}
use native.Mathlib.Omega.{arith}
use lib.Dec.{T, T_not, not_T, ltb, eqb, eqb→eq, leb-suc-suc, lit<}
use lib.ListN.{length, take, drop, length-append}
use lib.Seq.{take-nil}
use borrow.Author.Tests.{lt-ltb, le-ltb, ltb-false}
use Rattle.model.specs.Basic.{lex_before, same, zeros, concat_map}
use Rattle.model.specs.Sizes.{byte_range}
use Rattle.model.specs.Key.{bytes}
use Rattle.laws.proofs.Tests.{T_and, is_true, is_false, of-false, bool-ext, by-test, eq→eqb, and-true, and-false}
use Rattle.laws.proofs.Members.{All, here, there, on-mem, not-nil, words-eq, words-refl}
use Rattle.laws.proofs.Lex.{lex-strict}
use Rattle.laws.proofs.Ids.{digits-order}

-- ---- the bytes of a word

pub length-bytes : (n w : ℕ) → length (bytes n w) ≡ n
length-bytes zero w = refl
length-bytes (suc n) w = ap suc (length-bytes n w)

pub byte_small : (n w : ℕ) → All (λ x. x < byte_range) (bytes n w)
byte_small zero w x m = absurd (not-nil m)
byte_small (suc n) w x m = on-mem m (λ e. rw e (mod-lt (w / byte_range ^ n) (lit< tt))) (byte_small n w x)

-- a remainder by a product: the quotient's remainder, and the rest
mod-mul : (w b c : ℕ) → 0 < b → 0 < c → w % (b * c) ≡ w / b % c * b + w % b
mod-mul w b c hb hc =
    let q = w / b in
    let low = q % c * b + w % b in
    let small : low < b * c = omega (arith, mod-lt w hb, mul-le-mul_right b (mod-lt q hc), suc-mul (q % c) b, mul_comm c b) in
    let e₁ : (q / c * c + q % c) * b ≡ q * b = ap (λ x. x * b) (div-add-mod' q c) in
    let e₂ : q / c * c * b ≡ q / c * (b * c) = rw (mul_assoc (q / c) c b, mul_comm c b) in
    let whole : q / c * (b * c) + low ≡ w = omega (arith, e₁, e₂, add-mul (q / c * c) (q % c) b, div-add-mod' w b) in
    ap (λ x. x % (b * c)) (sym whole) ∙ mul-add-mod_self_right (q / c) (b * c) low ∙ mod-eq_of_lt small

-- the lowest n bytes of two words
lex-bytes : (n w v : ℕ) → lex_before (bytes n w) (bytes n v) ≡ ltb (w % byte_range ^ n) (v % byte_range ^ n)
lex-bytes zero w v = rw (mod-one w, mod-one v)
lex-bytes (suc n) w v =
    let positive : 0 < byte_range ^ n = one-le-pow n byte_range (lit< tt) in
    rw (lex-bytes n w v, pow-suc byte_range n, mod-mul w (byte_range ^ n) byte_range positive (lit< tt), mod-mul v (byte_range ^ n) byte_range positive (lit< tt))
    (sym (digits-order (byte_range ^ n) (w / byte_range ^ n % byte_range) (w % byte_range ^ n) (v / byte_range ^ n % byte_range) (v % byte_range ^ n) (mod-lt w positive) (mod-lt v positive)))

pub bytes-order : (n w v : ℕ) → w < byte_range ^ n → v < byte_range ^ n → lex_before (bytes n w) (bytes n v) ≡ ltb w v
bytes-order n w v i j = rw (lex-bytes n w v, mod-eq_of_lt i, mod-eq_of_lt j)

-- two lists neither of which stands before the other
pub lex-tie : (xs ys : List ℕ) → lex_before xs ys ≡ false → lex_before ys xs ≡ false → xs ≡ ys
lex-tie xs ys e f =
    by-test (same xs ys) (words-eq xs ys)
    (λ t. absurd (⊎_elim (T_not (lex_before xs ys) (of-false e)) (T_not (lex_before ys xs) (of-false f))
    (lex-strict.total xs ys (λ q. T_not (same xs ys) t (rw q (words-refl ys))))))

pub lex-self : (xs : List ℕ) → lex_before xs xs ≡ false
lex-self xs = is_false (lex_before xs xs) (not_T (lex_before xs xs) (lex-strict.irreflexive xs))

-- what keeps the order keeps lists apart
pub lex-apart : {xs ys us vs : List ℕ} → lex_before xs ys ≡ lex_before us vs → lex_before ys xs ≡ lex_before vs us → xs ≡ ys → us ≡ vs
lex-apart {xs} {ys} {us} {vs} e f q = lex-tie us vs (sym e ∙ rw q (lex-self ys)) (sym f ∙ rw q (lex-self ys))

pub bytes-inj : (n w v : ℕ) → w < byte_range ^ n → v < byte_range ^ n → bytes n w ≡ bytes n v → w ≡ v
bytes-inj n w v i j e =
    let l = ltb-false w v (sym (bytes-order n w v i j) ∙ rw e (lex-self (bytes n v))) in
    let r = ltb-false v w (sym (bytes-order n v w j i) ∙ rw e (lex-self (bytes n v))) in
    omega arith

pub same_bytes : (n w v : ℕ) → w < byte_range ^ n → v < byte_range ^ n → same (bytes n w) (bytes n v) ≡ eqb w v
same_bytes n w v i j =
    bool-ext (same (bytes n w) (bytes n v)) (eqb w v)
    (λ t. eq→eqb w v (bytes-inj n w v i j (words-eq (bytes n w) (bytes n v) t)))
    (λ t. rw (eqb→eq w v t) (words-refl (bytes n v)))

-- ---- lists that are put together

regroup : (a b l s r : Bool) → (a || b && (l || s && r)) ≡ ((a || b && l) || (b && s) && r)
regroup true b l s r = refl
regroup false true l s r = refl
regroup false false l s r = refl

pub lex-append : (xs ys us vs : List ℕ) → length xs ≡ length ys → lex_before (xs ++ us) (ys ++ vs) ≡ (lex_before xs ys || same xs ys && lex_before us vs)
lex-append [] [] us vs e = refl
lex-append [] (y ∷ ys) us vs e = let z : ⊥ = omega arith in absurd z
lex-append (x ∷ xs) [] us vs e = let z : ⊥ = omega arith in absurd z
lex-append (x ∷ xs) (y ∷ ys) us vs e =
    rw (lex-append xs ys us vs (omega arith)) (regroup (ltb x y) (eqb x y) (lex_before xs ys) (same xs ys) (lex_before us vs))

-- words in a row compare as all their bytes do
pub lex-words : (n : ℕ) (ws vs : List ℕ) → length ws ≡ length vs → All (λ w. w < byte_range ^ n) ws → All (λ w. w < byte_range ^ n) vs
    → lex_before (concat_map (bytes n) ws) (concat_map (bytes n) vs) ≡ lex_before ws vs
lex-words n [] [] e i j = refl
lex-words n [] (v ∷ vs) e i j = let z : ⊥ = omega arith in absurd z
lex-words n (w ∷ ws) [] e i j = let z : ⊥ = omega arith in absurd z
lex-words n (w ∷ ws) (v ∷ vs) e i j =
    let hw = i w (here refl) in
    let hv = j v (here refl) in
    lex-append (bytes n w) (bytes n v) (concat_map (bytes n) ws) (concat_map (bytes n) vs) (length-bytes n w ∙ sym (length-bytes n v))
    ∙ rw (bytes-order n w v hw hv, same_bytes n w v hw hv, lex-words n ws vs (omega arith) (λ x m. i x (there m)) (λ x m. j x (there m)))

pub words-inj : (n : ℕ) (ws vs : List ℕ) → length ws ≡ length vs → All (λ w. w < byte_range ^ n) ws → All (λ w. w < byte_range ^ n) vs
    → concat_map (bytes n) ws ≡ concat_map (bytes n) vs → ws ≡ vs
words-inj n ws vs e i j = lex-apart (lex-words n ws vs e i j) (lex-words n vs ws (sym e) j i)

pub same-words : (n : ℕ) (ws vs : List ℕ) → length ws ≡ length vs → All (λ w. w < byte_range ^ n) ws → All (λ w. w < byte_range ^ n) vs
    → same (concat_map (bytes n) ws) (concat_map (bytes n) vs) ≡ same ws vs
same-words n ws vs e i j =
    bool-ext (same (concat_map (bytes n) ws) (concat_map (bytes n) vs)) (same ws vs)
    (λ t. rw (words-inj n ws vs e i j (words-eq (concat_map (bytes n) ws) (concat_map (bytes n) vs) t)) (words-refl vs))
    (λ t. rw (words-eq ws vs t) (words-refl (concat_map (bytes n) vs)))

pub length-words : (n : ℕ) (ws : List ℕ) → length (concat_map (bytes n) ws) ≡ length ws * n
length-words n [] = sym (zero-mul n)
length-words n (w ∷ ws) = length-append (bytes n w) (concat_map (bytes n) ws) ∙ rw (length-bytes n w, length-words n ws, suc-mul (length ws) n) (omega arith)

-- ---- lists filled up with zeros

-- nothing stands before zeros
zeros-least : (xs ys : List ℕ) → length xs ≡ length ys → T (zeros ys) → lex_before xs ys ≡ false
zeros-least [] [] e z = refl
zeros-least [] (y ∷ ys) e z = let n : ⊥ = omega arith in absurd n
zeros-least (x ∷ xs) [] e z = refl
zeros-least (x ∷ xs) (y ∷ ys) e z =
    let p = (T_and (eqb 0 y) (zeros ys)).0 z in
    rw (le-ltb x y (omega (arith, eqb→eq 0 y p.0)), zeros-least xs ys (omega arith) p.1) (and-false (eqb x y))

-- so zeros stand before all that differs from them
zeros-first : (xs ys : List ℕ) → length xs ≡ length ys → T (zeros xs) → (lex_before xs ys || same xs ys) ≡ true
zeros-first xs ys e z =
    by-test (lex_before xs ys) (λ t. rw (is_true (lex_before xs ys) t))
    (λ t. rw (lex-tie xs ys (is_false (lex_before xs ys) t) (zeros-least ys xs (sym e) z), lex-self ys) (is_true (same ys ys) (words-refl ys)))

-- the first m and n bytes of two lists that are zero past them: by the lists, then by m and n
pub lex-padded : (xs ys : List ℕ) (m n : ℕ) → length xs ≡ length ys → m ≤ length xs → n ≤ length ys → T (zeros (drop m xs)) → T (zeros (drop n ys))
    → lex_before (take m xs) (take n ys) ≡ (lex_before xs ys || same xs ys && ltb m n)
lex-padded [] [] m n e i j z u = rw (take-nil {A = ℕ} m, take-nil {A = ℕ} n, le-ltb m n (omega arith))
lex-padded [] (y ∷ ys) m n e i j z u = let a : ⊥ = omega arith in absurd a
lex-padded (x ∷ xs) [] m n e i j z u = let a : ⊥ = omega arith in absurd a
lex-padded (x ∷ xs) (y ∷ ys) zero zero e i j z u = rw (zeros-least (x ∷ xs) (y ∷ ys) e u) (sym (and-false (same (x ∷ xs) (y ∷ ys))))
lex-padded (x ∷ xs) (y ∷ ys) zero (suc n) e i j z u =
    rw (lt-ltb 0 (suc n) (omega arith), and-true (same (x ∷ xs) (y ∷ ys))) (sym (zeros-first (x ∷ xs) (y ∷ ys) e z))
lex-padded (x ∷ xs) (y ∷ ys) (suc m) zero e i j z u =
    rw (zeros-least (x ∷ xs) (y ∷ ys) e u, le-ltb (suc m) 0 (omega arith)) (sym (and-false (same (x ∷ xs) (y ∷ ys))))
lex-padded (x ∷ xs) (y ∷ ys) (suc m) (suc n) e i j z u =
    rw (lex-padded xs ys m n (omega arith) (omega arith) (omega arith) z u, leb-suc-suc (suc m) n)
    (regroup (ltb x y) (eqb x y) (lex_before xs ys) (same xs ys) (ltb m n))
