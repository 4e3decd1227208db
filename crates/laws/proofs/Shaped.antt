-- What a shape says: each piece has its width, and each word is in range. What is cut from slices of 64-bit numbers has it.
use mathlib.Core.Path.{◌≡◌, subst}
use mathlib.Core.Bool.{Bool, ◌&&◌}
use mathlib.Core.List.{List}
use Prim.Native.Nat.{ℕ, zero, suc, ◌+◌, ◌*◌, ◌≤◌, ◌<◌}
use native.Mathlib.Nat.{suc-mul}
use native.Mathlib.Omega.{arith}
use lib.ListN.{length, take, drop, take-append-drop, length-drop}
use lib.Seq.{length-take-le}
use lib.Dec.{T, ltb, eqb, ltb→lt, lt→ltb, eqb→eq}
use Rattle.model.specs.Basic.{all, pieces}
use Rattle.model.specs.Sizes.{word_range}
use Rattle.model.specs.Course.{shaped}
use Rattle.laws.proofs.Tests.{T_and, eq→eqb}
use Rattle.laws.proofs.Members.{Mem, All, append_left, append_right, all_from, all_in}

pub record Shape (width : ℕ) (ws : List ℕ) : Type 0 where
  pub full : length ws ≡ width
  pub range : All (λ w. w < word_range) ws

pub shape : (width : ℕ) (ps : List (List ℕ)) → T (shaped width ps) → All (Shape width) ps
unfolding shaped
shape width ps t ws m =
    let word : ℕ → Bool = λ w. ltb w word_range in
    let u = (T_and (eqb (length ws) width) (all word ws)).0 (all_from (λ ws. eqb (length ws) width && all word ws) ps t ws m) in
    record { full = eqb→eq (length ws) width u.0; range = λ w i. ltb→lt w word_range (all_from word ws u.1 w i) }

-- ── what is cut from a slice of words in range has its shape
all_take : {P : ℕ → Type 0} (n : ℕ) (xs : List ℕ) → All P xs → All P (take n xs)
all_take n xs a w m = a w (subst (λ l. Mem w l) (take-append-drop n xs) (append_left (drop n xs) m))

all_drop : {P : ℕ → Type 0} (n : ℕ) (xs : List ℕ) → All P xs → All P (drop n xs)
all_drop n xs a w m = a w (subst (λ l. Mem w l) (take-append-drop n xs) (append_right (take n xs) m))

pub cut-shaped : (width n : ℕ) (xs : List ℕ) → n * width ≤ length xs → All (λ w. w < word_range) xs → T (shaped width (pieces width n xs))
unfolding shaped
cut-shaped width zero xs h a = tt
cut-shaped width (suc n) xs h a =
    let word : ℕ → Bool = λ w. ltb w word_range in
    let piece : List ℕ → Bool = λ ws. eqb (length ws) width && all word ws in
    let k : width + n * width ≤ length xs = omega (arith, suc-mul n width) in
    (T_and (piece (take width xs)) (all piece (pieces width n (drop width xs)))).1 (
      (T_and (eqb (length (take width xs)) width) (all word (take width xs))).1 (
        eq→eqb (length (take width xs)) width (length-take-le width xs (omega arith)),
        all_in word (take width xs) (λ w m. lt→ltb w word_range (all_take width xs a w m)),
      ),
      cut-shaped width n (drop width xs) (rw (length-drop width xs) (omega arith)) (all_drop width xs a),
    )
