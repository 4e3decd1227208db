-- Where the next object with a new row stands, among new rows and among the document's, in both of which objects ascend.
use mathlib.Core.Path.{◌≡◌, sym}
use mathlib.Core.List.{List, [], ◌∷◌, map}
use Prim.Native.Nat.{ℕ, zero, suc, ◌≤◌, ◌<◌}
use native.Mathlib.Nat.{not-suc-le-zero, le_of_suc-le-suc}
use native.Mathlib.Omega.{arith}
use lib.ListN.{length, get_or, length-map}
use Rattle.model.specs.Row.{Row, object_of}
use Rattle.laws.proofs.Tests.{by_order}
use Rattle.laws.proofs.Parts.{get_or-map}
use Rattle.batch.specs.Places.{Rising}
use Rattle.batch.specs.Walk.{lower}
use Rattle.batch.specs.Groups.{below}
use Rattle.batch.proofs.Halving.{lower-at}
use Rattle.batch.proofs.Rising.{rising-rest}
use Rattle.batch.proofs.Between.{lower-none, lower-more}

-- ── on either side of the number below v
pub lower-low : (v : ℕ) (l : List ℕ) → Rising l → (i : ℕ) → i < lower v l → get_or l i 0 < v
unfolding lower
lower-low v [] r i h = absurd (not-suc-le-zero h)
lower-low v (x ∷ l) r zero h = by_order x v (λ k. k) (λ k. absurd (let e = lower-none v x l r k in omega arith))
lower-low v (x ∷ l) r (suc i) h =
    by_order x v (λ k. lower-low v l (rising-rest r) i (let e = lower-more v x l k in omega arith)) (λ k. absurd (let e = lower-none v x l r k in omega arith))

pub lower_high : (v : ℕ) (l : List ℕ) → Rising l → (i : ℕ) → lower v l ≤ i → i < length l → v ≤ get_or l i 0
lower_high v [] r i h m = absurd (not-suc-le-zero m)
lower_high v (x ∷ l) r zero h m = by_order x v (λ k. absurd (let e = lower-more v x l k in omega arith)) (λ k. k)
lower_high v (x ∷ l) r (suc i) h m =
    by_order x v (λ k. lower_high v l (rising-rest r) i (let e = lower-more v x l k in omega arith) (le_of_suc-le-suc m))
    (λ k. let q = r.rises 0 (suc i) (omega arith) m in omega arith)

-- the next row's object o: it is not below the bound, and so many rows are below o as are below the bound
module _ (l : List Row) (r : Rising (map object_of l)) (b : ℕ) (h : below b l < length l) (o : ℕ) (e : o ≡ object_of (get_or l (below b l) [])) where
  object-at : (i : ℕ) → i < length l → get_or (map object_of l) i 0 ≡ object_of (get_or l i [])
  object-at i m = get_or-map object_of l i [] 0 m

  pub bound-up : b ≤ o
  unfolding below
  bound-up =
      let q = lower_high b (map object_of l) r (below b l) (omega arith) (omega (arith, length-map l object_of)) in
      omega (arith, object-at (below b l) h)

  pub object-starts : below o l ≡ below b l
  unfolding below
  object-starts =
      sym
      (lower-at o (map object_of l) (below b l) (omega (arith, length-map l object_of))
      (λ i k. let q = lower-low b (map object_of l) r i k in omega (arith, bound-up))
      (λ i k m. let q = r.rises (below b l) i k m in omega (arith, object-at (below b l) h)))

  pub object-some : below b l < below (suc o) l
  unfolding below
  object-some =
      by_order (below b l) (below (suc o) l) (λ k. k)
      (λ k. absurd (let q = lower_high (suc o) (map object_of l) r (below b l) k (omega (arith, length-map l object_of)) in omega (arith, object-at (below b l) h)))
