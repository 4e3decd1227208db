-- How many of a rising table's tags are below v, found by halving.
use mathlib.Core.Path.{◌≡◌, refl, sym, ap, ◌∙◌}
use mathlib.Core.List.{List, [], ◌∷◌, map}
use Prim.Native.Nat.{ℕ, zero, suc, ◌+◌, ◌≤◌, ◌<◌, suc-le-suc}
use native.Mathlib.Nat.{not-suc-le-zero, le_of_suc-le-suc}
use native.Mathlib.Omega.{arith}
use borrow.Author.Tests.{lt-ltb, le-ltb, ltb-true, ltb-false}
use mathlib.Core.Bool.{true, false}
use Rattle.std.specs.List.Sorted.{IsPartitionPoint, IsPartitionedBy}
use Rattle.std.proofs.lemmas.List.{get_or_default}
use lib.Dec.{ltb}
use lib.ListN.{length, get_or, length-map}
use Rattle.model.specs.Basic.{filter, pieces}
use Rattle.model.specs.Sizes.{row_words}
use Rattle.model.specs.Row.{object_of}
use Rattle.laws.proofs.Pieces.{length-pieces, get_or-pieces}
use Rattle.laws.proofs.Parts.{get_or-map}
use Rattle.ids.specs.Words.{piece_at}
use Rattle.batch.specs.Places.{Rising}
use Rattle.batch.specs.Walk.{lower, doc_from}

-- ── the number by what stands on either side of it
none_below : (v : ℕ) (l : List ℕ) → ((i : ℕ) → i < length l → v ≤ get_or l i 0) → length (filter (λ t. ltb t v) l) ≡ 0
none_below v [] h = refl
none_below v (t ∷ l) h =
    let k : v ≤ t = h 0 (omega arith) in
    rw (le-ltb t v k) (none_below v l (λ i m. h (suc i) (suc-le-suc m)))

pub lower-at : (v : ℕ) (l : List ℕ) (r : ℕ) → r ≤ length l → ((i : ℕ) → i < r → get_or l i 0 < v) → ((i : ℕ) → r ≤ i → i < length l → v ≤ get_or l i 0) → r ≡ lower v l
unfolding lower
lower-at v l zero h a b = sym (none_below v l (λ i m. b i (omega arith) m))
lower-at v [] (suc r) h a b = absurd (not-suc-le-zero h)
lower-at v (t ∷ l) (suc r) h a b =
    let k : t < v = a 0 (omega arith) in
    rw (lt-ltb t v k) (ap suc (lower-at v l r (le_of_suc-le-suc h) (λ i m. a (suc i) (suc-le-suc m)) (λ i m n. b (suc i) (suc-le-suc m) (suc-le-suc n))))

-- ── std's search
pub lower_split : (v : ℕ) (l : List ℕ) (r : ℕ) → r ≤ length l → IsPartitionPoint (λ t. ltb t v ≡ true) (λ t. ltb t v ≡ false) l r → r ≡ lower v l
lower_split v l r h p = lower-at v l r h (λ i k. ltb-true (get_or l i 0) v (p.0 i 0 (omega arith) k)) (λ i k m. ltb-false (get_or l i 0) v (p.1 i 0 k m))

pub rising_split : (v : ℕ) (l : List ℕ) → Rising l → IsPartitionedBy (λ t. ltb t v) l
rising_split v l r i j d h k e =
    let n : i < length l = omega arith in
    let m : get_or l j 0 < v = ltb-true (get_or l j 0) v (rw (get_or_default l j d 0 k) at e) in
    rw (get_or_default l i d 0 n) (lt-ltb (get_or l i 0) v (omega (arith, r.rises i j h k)))

-- ── the loop
pub record Halving (v : ℕ) (tags : List ℕ) (from to : ℕ) : Type 0 where
  pub from-to : from ≤ to
  pub to_in : to ≤ length tags
  pub rising : Rising tags
  pub low : (i : ℕ) → i < from → get_or tags i 0 < v
  pub high : (i : ℕ) → to ≤ i → i < length tags → v ≤ get_or tags i 0

module _ {v : ℕ} {tags : List ℕ} where
  pub halve-start : Rising tags → Halving v tags 0 (length tags)
  halve-start r =
      record { from-to = omega arith; to_in = omega arith; rising = r; low = λ i h. absurd (not-suc-le-zero h); high = λ i h k. absurd (omega arith) }

  pub halve-up : {from to mid : ℕ} → Halving v tags from to → from ≤ mid → mid < to → get_or tags mid 0 < v → Halving v tags (mid + 1) to
  halve-up {from} {to} {mid} c a b h =
      record {
        from-to = omega arith;
        to_in = c.to_in;
        rising = c.rising;
        low = λ i k. let l = c.rising.rises i mid (omega arith) (omega (arith, c.to_in)) in omega arith;
        high = c.high;
      }

  pub halve-down : {from to mid : ℕ} → Halving v tags from to → from ≤ mid → mid < to → v ≤ get_or tags mid 0 → Halving v tags from mid
  halve-down {from} {to} {mid} c a b h =
      record {
        from-to = a;
        to_in = omega (arith, c.to_in);
        rising = c.rising;
        low = c.low;
        high = λ i k l. let m = c.rising.rises mid i k l in omega arith;
      }

  pub halve-end : {from to : ℕ} → Halving v tags from to → to ≤ from → from ≡ lower v tags
  halve-end {from} {to} c h = lower-at v tags from (omega (arith, c.from-to, c.to_in)) c.low (λ i k l. c.high i (omega arith) l)

-- ── the objects of a document's rows
pub length-objects : (rows : List ℕ) (n : ℕ) → length (map object_of (doc_from rows n 0)) ≡ n
unfolding doc_from
length-objects rows n = length-map (pieces row_words n rows) object_of ∙ length-pieces row_words n rows

pub object-at : (rows : List ℕ) (n i : ℕ) → i < n → get_or (map object_of (doc_from rows n 0)) i 0 ≡ object_of (piece_at row_words rows i)
unfolding doc_from piece_at
object-at rows n i h =
    get_or-map object_of (pieces row_words n rows) i [] 0 (omega (arith, length-pieces row_words n rows)) ∙ ap object_of (get_or-pieces row_words n i rows h)
