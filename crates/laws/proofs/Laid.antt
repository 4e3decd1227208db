-- Pieces of one width, laid end to end: they can be cut out again, whatever stands behind them.
use Prim.Native.Nat.{ℕ, zero, suc, ◌+◌, ◌*◌, ◌≤◌}
use mathlib.Core.Path.{◌≡◌, refl, sym, ap, ap₂, ◌∙◌}
use mathlib.Core.List.{List, [], ◌∷◌, ◌++◌, append_assoc}
use native.Mathlib.Nat.{zero-mul, suc-mul}
use native.Mathlib.Omega.{arith}
use lib.ListN.{length, take, drop, length-append, length-drop}
use lib.Seq.{take_at, drop_at, length-take-le}
use Rattle.model.specs.Basic.{pieces, concat}
use Rattle.laws.proofs.Members.{not-nil, here, there, All, all_cons}

module _ {A : Type 0} (w : ℕ) where
  -- what is cut from a list that is long enough has its width
  pub cut-wide : (n : ℕ) (xs : List A) → n * w ≤ length xs → All (λ l. length l ≡ w) (pieces w n xs)
  cut-wide zero xs h = λ l m. absurd (not-nil m)
  cut-wide (suc n) xs h =
      let k : w + n * w ≤ length xs = omega (arith, suc-mul n w) in
      all_cons (λ l. length l ≡ w) (length-take-le w xs (omega arith)) (cut-wide n (drop w xs) (rw (length-drop w xs) (omega arith)))

  pub laid-length : (ls : List (List A)) → All (λ l. length l ≡ w) ls → length (concat ls) ≡ length ls * w
  laid-length [] a = sym (zero-mul w)
  laid-length (l ∷ ls) a =
      omega (arith, length-append l (concat ls), a l (here refl), laid-length ls (λ k m. a k (there m)), suc-mul (length ls) w)

  pub cut-laid : (ls : List (List A)) (rest : List A) → All (λ l. length l ≡ w) ls → pieces w (length ls) (concat ls ++ rest) ≡ ls
  cut-laid [] rest a = refl
  cut-laid (l ∷ ls) rest a =
      let e = append_assoc l (concat ls) rest in
      let wide = a l (here refl) in
      ap₂ ◌∷◌ (ap (take w) e ∙ take_at l (concat ls ++ rest) w wide)
      (ap (λ xs. pieces w (length ls) (drop w xs)) e ∙ ap (pieces w (length ls)) (drop_at l (concat ls ++ rest) w wide) ∙ cut-laid ls rest (λ k m. a k (there m)))

  -- as many pieces with the same words are the same pieces
  pub laid_same : (ls ks : List (List A)) → All (λ l. length l ≡ w) ls → All (λ l. length l ≡ w) ks → length ls ≡ length ks → concat ls ≡ concat ks → ls ≡ ks
  laid_same ls ks a b n e =
      sym (cut-laid ls [] a) ∙ ap₂ (λ k xs. pieces w k (xs ++ [])) n e ∙ cut-laid ks [] b
