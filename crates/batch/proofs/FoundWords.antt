-- Finding places where old and new are pieces of w words of two slices, compared by their first `key` words.
use mathlib.Core.Path.{◌≡◌, refl, sym, ap, ap₂, ◌∙◌}
use mathlib.Core.Bool.{Bool, true, false}
use mathlib.Core.List.{List, [], ◌∷◌, ◌++◌}
use Prim.Native.Nat.{ℕ, ◌+◌, ◌*◌, ◌≤◌, ◌<◌}
use native.Mathlib.Omega.{arith}
use lib.ListN.{length, get_or, drop, set, drop_of_length-le}
use lib.Seq.{take-take}
use Rattle.model.specs.Basic.{lex_before, pieces}
use Rattle.laws.proofs.Tests.{by_order}
use Rattle.laws.proofs.Pieces.{length-pieces}
use Rattle.laws.proofs.Parts.{drop_here}
use Rattle.batch.specs.Parts.{part}
use Rattle.batch.specs.Merge.{left_next}
use Rattle.batch.specs.Places.{picked}
use Rattle.batch.specs.Found.{places_for, first_before}
use Rattle.batch.proofs.PlacedWords.{length-picked, get_or-picked, piece-at}
use Rattle.batch.proofs.Finding.{Finding, find-start, find_past, find-here, find-end}

one_right : {A : Type 0} (lt : A → A → Bool) (l : List A) (y : A) (ys : List A) → left_next lt l (y ∷ ys) ≡ left_next lt l (y ∷ [])
unfolding left_next
one_right lt [] y ys = refl
one_right lt (x ∷ l) y ys = refl

module _ (w n key : ℕ) (old : List ℕ) (s : ℕ) (y : List ℕ) where
  pub next-none : n ≤ s → false ≡ left_next (first_before key) (drop s (pieces w n old)) (y ∷ [])
  unfolding left_next
  next-none h =
      let l : length (pieces w n old) ≤ s = omega (arith, length-pieces w n old) in
      rw (drop_of_length-le (pieces w n old) l)

  next-piece : s < n → left_next (first_before key) (drop s (pieces w n old)) (y ∷ []) ≡ first_before key (part w old (s * w)) y
  unfolding left_next
  next-piece h =
      let l : s < length (pieces w n old) = omega (arith, length-pieces w n old) in
      rw (drop_here (pieces w n old) s [] l, piece-at w n old s h)

first-words : (w key : ℕ) (a : List ℕ) (p : ℕ) (b : List ℕ) (q : ℕ) → key ≤ w → lex_before (part key a p) (part key b q) ≡ first_before key (part w a p) (part w b q)
unfolding first_before part
first-words w key a p b q h = sym (ap₂ lex_before (take-take key w (drop p a) h) (take-take key w (drop q b) h))

pub next-words : (w n key : ℕ) (old : List ℕ) (s : ℕ) (new : List ℕ) (q : ℕ) → key ≤ w → s < n
    → lex_before (part key old (s * w)) (part key new q) ≡ left_next (first_before key) (drop s (pieces w n old)) (part w new q ∷ [])
next-words w n key old s new q k h = first-words w key old (s * w) new q k ∙ sym (next-piece w n key old s (part w new q) h)

pub record FindingWords (w n key : ℕ) (old new order d x : List ℕ) (s j : ℕ) : Type 0 where
  pub s-in : s ≤ n
  pub j-in : j ≤ length order
  pub same : length x ≡ length d
  pub state : Finding (first_before key) [] (pieces w n old) (picked w w new order) d x s j

module _ {w n key : ℕ} {old new order d : List ℕ} where
  pub words-start : length order ≤ length d → FindingWords w n key old new order d d 0 0
  words-start h =
      record { s-in = omega arith; j-in = omega arith; same = refl; state = find-start (omega (arith, length-picked w w new order)) }

  -- the code's test is the law's
  tests : {x : List ℕ} {s j : ℕ} → FindingWords w n key old new order d x s j → j < length order → {b : Bool} → b ≡ left_next (first_before key) (drop s (pieces w n old)) (part w new (get_or order j 0 * w) ∷ [])
      → left_next (first_before key) (drop s (pieces w n old)) (drop j (picked w w new order)) ≡ b
  tests {x} {s} {j} c h e =
      let l : j < length (picked w w new order) = omega (arith, length-picked w w new order) in
      let y : drop j (picked w w new order) ≡ part w new (get_or order j 0 * w) ∷ drop (j + 1) (picked w w new order) =
      drop_here (picked w w new order) j [] l ∙ ap (λ (v : List ℕ). v ∷ drop (j + 1) (picked w w new order)) (get_or-picked w w new order j h) in
      rw y (one_right (first_before key) (drop s (pieces w n old)) (part w new (get_or order j 0 * w)) (drop (j + 1) (picked w w new order)) ∙ sym e)

  pub there-is : {x : List ℕ} {s j : ℕ} → FindingWords w n key old new order d x s j → true ≡ left_next (first_before key) (drop s (pieces w n old)) (part w new (get_or order j 0 * w) ∷ []) → s < n
  there-is {x} {s} {j} c e =
      by_order s n (λ h. h)
      (λ h. absurd (let z : ◌≡◌ {A = ℕ} 0 1 = cc (next-none w n key old s (part w new (get_or order j 0 * w)) h) in omega arith))

  pub words-past : {x : List ℕ} {s j : ℕ} → FindingWords w n key old new order d x s j → j < length order
      → true ≡ left_next (first_before key) (drop s (pieces w n old)) (part w new (get_or order j 0 * w) ∷ []) → FindingWords w n key old new order d x (s + 1) j
  words-past {x} {s} {j} c h e =
      let l : s < n = there-is c e in
      record {
        s-in = omega arith;
        j-in = c.j-in;
        same = c.same;
        state = find_past c.state (omega (arith, length-pieces w n old)) (omega (arith, length-picked w w new order)) (tests c h e);
      }

  pub words-here : {x : List ℕ} {s j : ℕ} → FindingWords w n key old new order d x s j → j < length order
      → false ≡ left_next (first_before key) (drop s (pieces w n old)) (part w new (get_or order j 0 * w) ∷ []) → FindingWords w n key old new order d (set x j s) s (j + 1)
  words-here {x} {s} {j} c h e =
      let t = find-here c.state (omega (arith, length-picked w w new order)) (tests c h e) in
      record { s-in = c.s-in; j-in = omega arith; same = t.same; state = t }

  pub words-end : {x : List ℕ} {s j : ℕ} → FindingWords w n key old new order d x s j → length order ≤ j
      → x ≡ places_for (first_before key) 0 (pieces w n old) (picked w w new order) ++ drop (length order) d
  words-end {x} {s} {j} c h =
      find-end c.state (omega (arith, length-picked w w new order)) ∙ ap (λ (k : ℕ). places_for (first_before key) 0 (pieces w n old) (picked w w new order) ++ drop k d) (length-picked w w new order)
