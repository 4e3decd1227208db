-- Successor entries placed where they were found to go are merged, by the definition's order.
use mathlib.Core.Path.{◌≡◌, refl, ap, ◌∙◌}
use mathlib.Core.Bool.{Bool, true, false, ◌||◌, ◌&&◌}
use mathlib.Core.List.{List, [], ◌∷◌, ◌++◌}
use Prim.Native.Nat.{ℕ, zero, suc, ◌+◌, ◌*◌, ◌≤◌}
use native.Mathlib.Omega.{arith}
use lib.Dec.{ltb, eqb}
use lib.ListN.{length, take, drop}
use lib.Seq.{take_at}
use Rattle.model.specs.Basic.{pieces}
use Rattle.model.specs.Sizes.{succ_words}
use Rattle.model.specs.Document.{succ_before}
use Rattle.laws.proofs.Members.{Mem, here, there, All, map-from}
use Rattle.laws.proofs.Laid.{cut-wide}
use Rattle.laws.proofs.Placing.{put_at, merge_two}
use Rattle.batch.specs.Parts.{part}
use Rattle.batch.specs.Places.{picked, Asked}
use Rattle.batch.specs.Merge.{merge, Known}
use Rattle.batch.specs.Found.{places_for, first_before}
use Rattle.batch.proofs.Copies.{length_part}
use Rattle.batch.proofs.PlacedWords.{length-picked}
use Rattle.batch.proofs.Finding.{put-found}
use Rattle.batch.proofs.FoundPlaces.{length_found, found-asked}

-- ── full width
pub wide-picked : (w : ℕ) (src order : List ℕ) → Known w src order → All (λ p. length p ≡ w) (picked w w src order)
unfolding picked
wide-picked w src order k p m =
    let x = map-from (λ x. part w src (x * w)) order m in
    ap length x.2 ∙ length_part w src (x.0 * w) (k x.0 x.1)

-- ── merging by a test that agrees on the members
module _ {A : Type 0} (lt lt' : A → A → Bool) where
  two-ext : (n : ℕ) (xs ys : List A) → ((x y : A) → Mem x xs → Mem y ys → lt x y ≡ lt' x y) → merge_two lt n xs ys ≡ merge_two lt' n xs ys
  two-ext zero xs ys h = refl
  two-ext (suc n) [] ys h = refl
  two-ext (suc n) (x ∷ xs) [] h = refl
  two-ext (suc n) (x ∷ xs) (y ∷ ys) h =
      rw (h x y (here refl) (here refl), two-ext n xs (y ∷ ys) (λ a b m k. h a b (there m) k), two-ext n (x ∷ xs) ys (λ a b m k. h a b m (there k)))

  pub merge-ext : (xs ys : List A) → ((x y : A) → Mem x xs → Mem y ys → lt x y ≡ lt' x y) → merge lt xs ys ≡ merge lt' xs ys
  unfolding merge
  merge-ext xs ys h = two-ext (length xs + length ys) xs ys h

-- ── an entry's order is that of its first two words
abbrev pub succ_key : ℕ
succ_key = 2

succ-first : (s t : List ℕ) → length s ≡ succ_words → length t ≡ succ_words → first_before succ_key s t ≡ succ_before s t
unfolding first_before succ_before
succ-first (a ∷ b ∷ s) (c ∷ d ∷ t) h k = last (ltb a c) (eqb a c) (ltb b d) (eqb b d)
  where
    last : (p q l e : Bool) → p || q && (l || e && false) ≡ p || q && l
    last true q l e = refl
    last false true true e = refl
    last false true false true = refl
    last false true false false = refl
    last false false l e = refl
succ-first [] t h k = absurd (omega arith)
succ-first (a ∷ []) t h k = absurd (omega arith)
succ-first (a ∷ b ∷ s) [] h k = absurd (omega arith)
succ-first (a ∷ b ∷ s) (c ∷ []) h k = absurd (omega arith)

module _ (m : ℕ) (old new order d : List ℕ) (known : Known succ_words new order) {x : List ℕ}
    (found : x ≡ places_for (first_before succ_key) 0 (pieces succ_words m old) (picked succ_words succ_words new order) ++ drop (length order) d) where
  taken : take (length order) x ≡ places_for (first_before succ_key) 0 (pieces succ_words m old) (picked succ_words succ_words new order)
  taken =
      ap (take (length order)) found
      ∙ take_at (places_for (first_before succ_key) 0 (pieces succ_words m old) (picked succ_words succ_words new order)) (drop (length order) d) (length order)
      (length_found (first_before succ_key) (pieces succ_words m old) (picked succ_words succ_words new order) ∙ length-picked succ_words succ_words new order)

  pub succs-asked : Asked succ_words m succ_words new order (take (length order) x)
  succs-asked = rw taken (found-asked succ_words m succ_key old new order (omega arith) known)

  pub succs-merged : m * succ_words ≤ length old → {r : List (List ℕ)} → r ≡ put_at (picked succ_words succ_words new order) (take (length order) x) (pieces succ_words m old)
      → r ≡ merge succ_before (pieces succ_words m old) (picked succ_words succ_words new order)
  succs-merged h e =
      let rs = pieces succ_words m old in
      let ns = picked succ_words succ_words new order in
      e
      ∙ ap (λ (ps : List ℕ). put_at ns ps rs) taken
      ∙ put-found (first_before succ_key) rs ns
      ∙ merge-ext (first_before succ_key) succ_before rs ns (λ a b i j. succ-first a b (cut-wide succ_words m old h a i) (wide-picked succ_words new order known b j))
