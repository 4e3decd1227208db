-- New pieces put among old ones in a slice: n old pieces of w words at its start, with room behind them for the new ones.
use mathlib.Core.Path.{◌≡◌, refl, sym, ◌∙◌}
use mathlib.Core.List.{List, []}
use Prim.Native.Nat.{ℕ, ◌+◌, ◌*◌, ◌≤◌, ◌<◌}
use native.Mathlib.Omega.{arith}
use borrow.Rule.Slice.PartMut.{put_mid}
use lib.ListN.{length, get_or, set, take, drop, length-map}
use lib.Seq.{sets, paste, length-sets}
use Rattle.model.specs.Basic.{pieces}
use Rattle.laws.proofs.Pieces.{length-pieces, get_or-pieces, slot-in}
use Rattle.laws.proofs.Placing.{put_at}
use Rattle.laws.proofs.Parts.{get_or-map}
use Rattle.batch.specs.Parts.{part}
use Rattle.batch.specs.Places.{picked, Asked}
use Rattle.batch.proofs.Copies.{length_part, copied, moved}
use Rattle.batch.proofs.Slots.{take-pieces, pieces-sets, drop-piece}
use Rattle.batch.proofs.Placing.{Placing, place-start, place-old, place-new, place_end}

pub length-picked : (w stride : ℕ) (src order : List ℕ) → length (picked w stride src order) ≡ length order
unfolding picked
length-picked w stride src order = length-map order (λ x. part w src (x * stride))

pub get_or-picked : (w stride : ℕ) (src order : List ℕ) (q : ℕ) → q < length order → get_or (picked w stride src order) q [] ≡ part w src (get_or order q 0 * stride)
unfolding picked
get_or-picked w stride src order q h = get_or-map (λ x. part w src (x * stride)) order q 0 [] h

pub piece-at : (w n : ℕ) (xs : List ℕ) (i : ℕ) → i < n → get_or (pieces w n xs) i [] ≡ part w xs (i * w)
unfolding part
piece-at w n xs i h = get_or-pieces w n i xs h

pub record Inserting (w n stride : ℕ) (d src order places x : List ℕ) (s j : ℕ) : Type 0 where
  pub s-in : s ≤ n
  pub j-in : j ≤ length order
  pub room : (n + length order) * w ≤ length d
  pub asked : Asked w n stride src order places
  pub same : length x ≡ length d
  pub past : drop ((n + length order) * w) x ≡ drop ((n + length order) * w) d
  pub slots : Placing (pieces w n d) (picked w stride src order) places (pieces w (n + length order) x) s j

module _ {w n stride : ℕ} {d src order places : List ℕ} where
  pub insert-start : (n + length order) * w ≤ length d → Asked w n stride src order places → Inserting w n stride d src order places d n (length order)
  insert-start h a =
      let le : n ≤ n + length order = omega arith in
      let l : length (picked w stride src order) ≡ length order = length-picked w stride src order in
      let m : length (pieces w n d) ≡ n = length-pieces w n d in
      let b : (i : ℕ) → i < length places → get_or places i 0 ≤ length (pieces w n d) = λ i u. rw m (a.most i u) in
      record {
        s-in = omega arith;
        j-in = omega arith;
        room = h;
        asked = a;
        same = refl;
        past = refl;
        slots =
            rw (m, l) at
            (place-start {rs = pieces w n d} {ns = picked w stride src order} {ps = places} {R = pieces w (n + length order) d}
            (rw (m, l) (length-pieces w (n + length order) d)) (a.pairs ∙ sym l) b (rw m (take-pieces w (n + length order) n d le)));
      }

  -- one piece stored at slot m
  put : {x : List ℕ} {s j : ℕ} (m : ℕ) (r : List ℕ) → Inserting w n stride d src order places x s j → m < n + length order → length r ≡ w → {s' j' : ℕ} → s' ≤ n → j' ≤ length order
      → Placing (pieces w n d) (picked w stride src order) places (set (pieces w (n + length order) x) m r) s' j'
      → Inserting w n stride d src order places (sets x (m * w) r) s' j'
  put {x} m r p h l a b q =
      let room : (n + length order) * w ≤ length x = omega (arith, p.room, p.same) in
      record {
        s-in = a;
        j-in = b;
        room = p.room;
        asked = p.asked;
        same = length-sets x (m * w) r ∙ p.same;
        past = drop-piece w (n + length order) x m r h l ∙ p.past;
        slots = rw (pieces-sets w (n + length order) x m r h room l) q;
      }

  pub insert-old : {x : List ℕ} {s j : ℕ} (t q : ℕ) → Inserting w n stride d src order places x s j → s ≡ t + 1 → j ≡ q + 1 → get_or places q 0 < s
      → {m : ℕ} → m ≡ w → {x' : List ℕ} → x' ≡ paste x ((t + j) * w) (drop (t * w) x) m → Inserting w n stride d src order places x' t j
  insert-old {x} {s} {j} t q p es ej h em e =
      let m : t < n + length order = omega (arith, p.s-in) in
      let b : t * w + w ≤ length x = slot-in w t (n + length order) (length x) m (omega (arith, p.room, p.same)) in
      let to : (t + j) * w + w ≤ length x = slot-in w (t + j) (n + length order) (length x) (omega (arith, p.s-in, p.j-in)) (omega (arith, p.room, p.same)) in
      rw (moved w x ((t + j) * w) (t * w) to b em e)
      (put (t + j) (part w x (t * w)) p (omega (arith, p.s-in, p.j-in)) (length_part w x (t * w) b) (omega (arith, p.s-in)) p.j-in
      (rw (← piece-at w (n + length order) x t m) (place-old t q [] p.slots p.asked.rising es ej h)))

  pub insert-new : {x : List ℕ} {s j : ℕ} (q : ℕ) → Inserting w n stride d src order places x s j → j ≡ q + 1 → s ≤ get_or places q 0
      → {m k : ℕ} → m ≡ w → k ≡ w → {r : List ℕ} → r ≡ take k (drop (get_or order q 0 * stride) src) → Inserting w n stride d src order places (put_mid ((s + q) * w) m x r) s q
  insert-new {x} {s} {j} q p ej h em ek e =
      let i : q < length order = omega (arith, p.j-in) in
      let to : (s + q) * w + w ≤ length x = slot-in w (s + q) (n + length order) (length x) (omega (arith, p.s-in, p.j-in)) (omega (arith, p.room, p.same)) in
      rw (copied w x ((s + q) * w) (get_or order q 0 * stride) src to (p.asked.known q i) em ek e)
      (put (s + q) (part w src (get_or order q 0 * stride)) p (omega (arith, p.s-in)) (length_part w src (get_or order q 0 * stride) (p.asked.known q i)) p.s-in (omega (arith, p.j-in))
      (rw (← get_or-picked w stride src order q i) (place-new q [] p.slots ej h)))

  pub insert-end : {x : List ℕ} {s j : ℕ} → Inserting w n stride d src order places x s j → j ≤ 0
      → (pieces w (n + length order) x ≡ put_at (picked w stride src order) places (pieces w n d)) × (drop ((n + length order) * w) x ≡ drop ((n + length order) * w) d)
  insert-end {x} {s} {j} p h =
      let e : j ≡ 0 = omega arith in
      (sym (place_end {s = s} (rw e at p.slots)), p.past)
