-- The next object, as the code finds it: by the table of the new rows' objects, and by halving.
use mathlib.Core.Path.{◌≡◌, sym, ap, ap₂, subst, ◌∙◌}
use mathlib.Core.List.{List, [], map}
use Prim.Native.Nat.{ℕ, suc, ◌+◌, ◌-◌, ◌≤◌, ◌<◌}
use native.Mathlib.Numerals.{add-one}
use native.Mathlib.Omega.{arith}
use borrow.Rule.Slice.PartMut.{put_mid}
use lib.ListN.{length, get_or, take, drop, length-map, length-drop}
use lib.Seq.{length-take-le}
use Rattle.model.specs.Sizes.{word_range}
use Rattle.model.specs.Row.{Row, object_of}
use Rattle.laws.proofs.Members.{All, Mem}
use Rattle.laws.proofs.Placing.{news_in, places_in}
use Rattle.laws.proofs.Parts.{get_or-map}
use Rattle.batch.specs.Walk.{lower, doc_from, new_rows_of}
use Rattle.batch.specs.Groups.{below, object_out, group_of, Object, Grouped, Grouping}
use Rattle.batch.proofs.Between.{below-most}
use Rattle.batch.proofs.Grouping.{small-object, more-than, at_most, the-object, group-is, group-turn}
use Rattle.batch.proofs.NewRows.{length-new}
use Rattle.batch.proofs.WalkTests.{length-doc}

-- a part of a slice from lo to hi
pub part-size : {A : Type 0} (lo hi : ℕ) (xs : List A) → lo ≤ hi → hi ≤ length xs → length (take (hi - lo) (drop lo xs)) ≡ hi - lo
part-size lo hi xs h l = length-take-le (hi - lo) (drop lo xs) (let e = length-drop lo xs in omega arith)

module _ (ops sorted objects : List ℕ) (q : objects ≡ map object_of (new_rows_of ops sorted)) where
  abbrev news : List Row
  news = new_rows_of ops sorted

  pub objects-size : length objects ≡ length sorted
  objects-size = ap length q ∙ length-map news object_of ∙ length-new ops sorted

  pub object-read : (lo : ℕ) → lo < length sorted → get_or objects lo 0 ≡ object_of (get_or news lo [])
  object-read lo m = ap (λ (l : List ℕ). get_or l lo 0) q ∙ get_or-map object_of news lo [] 0 (omega (arith, length-new ops sorted))

  pub hi-is : (o : ℕ) {r : ℕ} → r ≡ lower (o + 1) objects → r ≡ below (suc o) news
  unfolding below
  hi-is o e = e ∙ ap₂ lower (add-one o) q

pub z-is : (doc : List Row) (o : ℕ) {r : ℕ} → r ≡ below (o + 1) doc → r ≡ below (suc o) doc
z-is doc o e = e ∙ ap (λ (i : ℕ). below i doc) (add-one o)

module _ {rows : List ℕ} {n : ℕ} {ops sorted : List ℕ} (g : Grouped rows n ops sorted) {order places : List ℕ} {lo : ℕ} (c : Grouping rows n ops sorted order places lo) (m : lo < length sorted) (o : ℕ)
    (e : o ≡ object_of (get_or (new_rows_of ops sorted) lo [])) {hi a z : ℕ} (p : hi ≡ below (suc o) (new_rows_of ops sorted)) (x : a ≡ below o (doc_from rows n 0)) (y : z ≡ below (suc o) (doc_from rows n 0)) where
  abbrev doc : List Row
  doc = doc_from rows n 0

  pub lo-hi : lo < hi
  lo-hi = let k = more-than g c m o e in omega arith

  pub hi-in : hi ≤ length sorted
  hi-in = let k = at_most g c m o e in omega arith

  group_at : take (hi - lo) (drop lo sorted) ≡ group_of ops sorted o
  group_at = ap (λ (i : ℕ). take (i - lo) (drop lo sorted)) p ∙ group-is g c m o e

  pub asked : Object rows a z ops (take (hi - lo) (drop lo sorted))
  asked =
      subst (λ (l : List ℕ). Object rows a z ops l) (sym group_at)
      (subst (λ (i : ℕ). Object rows i z ops (group_of ops sorted o)) (sym x) (subst (λ (i : ℕ). Object rows (below o doc) i ops (group_of ops sorted o)) (sym y) (the-object g c m o e)))

  pub z-most : z - a ≤ n
  z-most = let k = below-most (suc o) doc in let w = length-doc rows n 0 in omega arith

  pub turned : (part spots : List ℕ) → length part ≡ hi - lo → length spots ≡ hi - lo
      → news_in (object_out (new_rows_of ops (take (hi - lo) (drop lo sorted))) (doc_from rows z a)) ≡ new_rows_of ops part
      → places_in a (object_out (new_rows_of ops (take (hi - lo) (drop lo sorted))) (doc_from rows z a)) ≡ spots
      → All (λ i. Mem i (take (hi - lo) (drop lo sorted))) part
      → Grouping rows n ops sorted (put_mid lo (hi - lo) order part) (put_mid lo (hi - lo) places spots) hi
  turned part spots s t d k f =
      let out : object_out (new_rows_of ops (take (hi - lo) (drop lo sorted))) (doc_from rows z a) ≡ object_out (new_rows_of ops (group_of ops sorted o)) (doc_from rows (below (suc o) doc) (below o doc)) =
      ap₂ object_out (ap (new_rows_of ops) group_at) (ap₂ (doc_from rows) y x) in
      subst (λ (i : ℕ). Grouping rows n ops sorted (put_mid lo (i - lo) order part) (put_mid lo (i - lo) places spots) i) (sym p)
      (group-turn g c m o e part spots (s ∙ ap (λ (i : ℕ). i - lo) p) (t ∙ ap (λ (i : ℕ). i - lo) p) (sym (ap news_in out) ∙ d)
      (ap₂ places_in (sym x) (sym out) ∙ k) (subst (λ (l : List ℕ). All (λ i. Mem i l) part) group_at f))

-- the run of new rows of the next object, and of the document's: what the code may cut out
pub record Run (rows : List ℕ) (n : ℕ) (ops sorted : List ℕ) (lo hi a z : ℕ) : Type 0 where
  pub some : lo < hi
  pub within : hi ≤ length sorted
  pub few : z - a ≤ n
  pub object : Object rows a z ops (take (hi - lo) (drop lo sorted))

module _ {rows : List ℕ} {n : ℕ} {ops sorted objects order places : List ℕ} {lo : ℕ} (g : Grouped rows n ops sorted) (q : objects ≡ map object_of (new_rows_of ops sorted)) (m : lo < length sorted) (c : Grouping rows n ops sorted order places lo) where
  abbrev next : ℕ
  next = get_or objects lo 0

  e : next ≡ object_of (get_or (new_rows_of ops sorted) lo [])
  e = object-read ops sorted objects q lo m

  pub next-small : next + 1 < word_range
  next-small = small-object g c m next e

  module _ {hi a z : ℕ} (h : hi ≡ lower (next + 1) objects) (x : a ≡ below next (doc_from rows n 0)) (y : z ≡ below (next + 1) (doc_from rows n 0)) where
    pub run : Run rows n ops sorted lo hi a z
    run =
        let p = hi-is ops sorted objects q next h in
        let w = z-is (doc_from rows n 0) next y in
        record { some = lo-hi g c m next e p x w; within = hi-in g c m next e p x w; few = z-most g c m next e p x w; object = asked g c m next e p x w }

    pub run-turned : {part spots : List ℕ} → length part ≡ hi - lo → length spots ≡ hi - lo
        → (news_in (object_out (new_rows_of ops (take (hi - lo) (drop lo sorted))) (doc_from rows z a)) ≡ new_rows_of ops part)
        × (places_in a (object_out (new_rows_of ops (take (hi - lo) (drop lo sorted))) (doc_from rows z a)) ≡ spots)
        × All (λ i. Mem i (take (hi - lo) (drop lo sorted))) part
        → Grouping rows n ops sorted (put_mid lo (hi - lo) order part) (put_mid lo (hi - lo) places spots) hi
    run-turned {part} {spots} s t r =
        turned g c m next e (hi-is ops sorted objects q next h) x (z-is (doc_from rows n 0) next y) part spots s t r.0 r.1 r.2
