-- The turns of a map's walk.
use mathlib.Core.Path.{◌≡◌, refl, sym, ap, ap₂, ◌∙◌}
use mathlib.Core.Bool.{true, false}
use mathlib.Core.List.{List, [], ◌∷◌, ◌++◌, append-nil}
use Prim.Native.Nat.{ℕ, zero, suc, ◌+◌, ◌-◌, ◌*◌, ◌≤◌, ◌<◌}
use native.Mathlib.Numerals.{add-one}
use native.Mathlib.Omega.{arith}
use borrow.Author.Tests.{not-true, not-false}
use lib.ListN.{length, get_or, take, drop, set, length-set, drop_of_length-le}
use lib.Seq.{take-suc, take_all}
use Rattle.model.specs.Sizes.{row_words, op_words}
use Rattle.model.specs.Row.{Row}
use Rattle.laws.proofs.Tests.{by_order, of-true}
use Rattle.laws.proofs.Members.{Mem, get_or-mem}
use Rattle.laws.proofs.Passes.{map_next}
use Rattle.laws.proofs.Untangle.{Event, old, new}
use Rattle.laws.proofs.MapMerge.{map_rows}
use Rattle.laws.proofs.Placing.{news_in, places_in}
use Rattle.laws.proofs.Parts.{drop_here}
use Rattle.batch.specs.Parts.{part}
use Rattle.batch.specs.Rank.{op_before}
use Rattle.batch.specs.Walk.{doc_from, new_rows_of}
use Rattle.batch.specs.Groups.{map_first, map_out, Mapped}
use Rattle.batch.proofs.WalkTests.{doc-here, doc-none, doc-mem, length-doc}
use Rattle.batch.proofs.NewRows.{length-new, new-at, new_none, new-next}
use Rattle.batch.proofs.Fronts.{put_next, front-next}

-- ── one row at a time
map_at : {n m : ℕ} {news news' doc doc' : List Row} → n ≡ m → news ≡ news' → doc ≡ doc' → map_rows n news doc ≡ map_rows m news' doc'
map_at a b c = rw (a, b, c)

step-old : (n : ℕ) (u d : Row) (news doc : List Row) → map_next u d ≡ false → map_rows (suc n) (u ∷ news) (d ∷ doc) ≡ old d ∷ map_rows n (u ∷ news) doc
step-old n u d news doc e = rw e

step-new : (n : ℕ) (u d : Row) (news doc : List Row) → map_next u d ≡ true → map_rows (suc n) (u ∷ news) (d ∷ doc) ≡ new u ∷ map_rows n news (d ∷ doc)
step-new n u d news doc e = rw e

-- with no new rows left, none comes out
only-old : (n k : ℕ) (doc : List Row) → (news_in (map_rows n [] doc) ≡ []) × (places_in k (map_rows n [] doc) ≡ [])
only-old zero k doc = (refl, refl)
only-old (suc n) k [] = (refl, refl)
only-old (suc n) k (d ∷ doc) = only-old n (suc k) doc

-- ── the state: `out` new rows have their places, row `row` is next
pub record Mapping (rows : List ℕ) (a z : ℕ) (ops group order places : List ℕ) (row out : ℕ) : Type 0 where
  pub row_from : a ≤ row
  pub row-to : row ≤ z
  pub out-in : out ≤ length group
  pub numbers : length order ≡ length group
  pub spots : length places ≡ length group
  pub same : take out order ≡ take out group
  pub news : news_in (map_out (new_rows_of ops group) (doc_from rows z a)) ≡ new_rows_of ops (take out order) ++ news_in (map_rows (length group - out + (z - row)) (drop out (new_rows_of ops group)) (doc_from rows z row))
  pub puts : places_in a (map_out (new_rows_of ops group) (doc_from rows z a)) ≡ take out places ++ places_in row (map_rows (length group - out + (z - row)) (drop out (new_rows_of ops group)) (doc_from rows z row))

module _ (rows : List ℕ) (a z : ℕ) (ops group : List ℕ) (g : Mapped rows a z ops group) where
  abbrev fresh : List Row
  fresh = new_rows_of ops group

  abbrev rest : ℕ → ℕ → List Event
  rest row out = map_rows (length group - out + (z - row)) (drop out fresh) (doc_from rows z row)

  starts : rest a 0 ≡ map_out fresh (doc_from rows z a)
  unfolding map_out
  starts =
      let n : length group - 0 + (z - a) ≡ length fresh + length (doc_from rows z a) = omega (arith, length-new ops group, length-doc rows z a) in
      map_at n refl refl

  pub map-starts : (order places : List ℕ) → length order ≡ length group → length places ≡ length group → Mapping rows a z ops group order places a 0
  map-starts order places n p =
      record {
        row_from = omega arith;
        row-to = g.within;
        out-in = omega arith;
        numbers = n;
        spots = p;
        same = refl;
        news = ap news_in (sym starts) ∙ ap (λ (l : List Row). l ++ news_in (rest a 0)) (sym (new_none ops));
        puts = ap (places_in a) (sym starts);
      }

  module _ {order places : List ℕ} {row out : ℕ} (c : Mapping rows a z ops group order places row out) (m : out < length group) where
    abbrev u : Row
    u = part row_words ops (get_or group out 0 * op_words)

    next-new : drop out fresh ≡ u ∷ drop (out + 1) fresh
    next-new =
        drop_here fresh out [] (omega (arith, length-new ops group)) ∙ ap (λ (r : Row). r ∷ drop (out + 1) fresh) (new-at ops group out m)

    u-new : Mem u fresh
    u-new = rw (new-at ops group out m) at (get_or-mem fresh out [] (omega (arith, length-new ops group)))

    pub keeps-row : map_first u (doc_from rows z row) ≡ true → (row < z) × Mapping rows a z ops group order places (row + 1) out
    keeps-row e =
        let k : row < z = by_order row z (λ k. k) (λ k. absurd (of-true (sym (ap (map_first u) (doc-none rows z row k)) ∙ e))) in
        let d : Row = part row_words rows (row * row_words) in
        let t : map_next u d ≡ false = g.by_rank u d u-new (doc-mem rows z a row c.row_from k) ∙ not-true (op_before u d) (sym (ap (map_first u) (doc-here rows z row k)) ∙ e) in
        let r : rest row out ≡ old d ∷ rest (row + 1) out =
        map_at {n = length group - out + (z - row)} {m = suc (length group - out + (z - (row + 1)))} (omega arith) next-new (doc-here rows z row k)
        ∙ step-old (length group - out + (z - (row + 1))) u d (drop (out + 1) fresh) (doc_from rows z (row + 1)) t
        ∙ ap (λ (l : List Row). old d ∷ map_rows (length group - out + (z - (row + 1))) l (doc_from rows z (row + 1))) (sym next-new) in (
          k,
          record {
            row_from = omega (arith, c.row_from);
            row-to = omega arith;
            out-in = c.out-in;
            numbers = c.numbers;
            spots = c.spots;
            same = c.same;
            news = c.news ∙ ap (λ (l : List Event). new_rows_of ops (take out order) ++ news_in l) r;
            puts =
                c.puts
                ∙ ap (λ (l : List Event). take out places ++ places_in row l) r
                ∙ ap (λ (i : ℕ). take out places ++ places_in i (rest (row + 1) out)) (sym (add-one row));
          },
        )

    next-put : map_first u (doc_from rows z row) ≡ false → rest row out ≡ new u ∷ rest row (out + 1)
    next-put e =
        by_order row z
        (λ k.
        let d : Row = part row_words rows (row * row_words) in
        let t : map_next u d ≡ true = g.by_rank u d u-new (doc-mem rows z a row c.row_from k) ∙ not-false (op_before u d) (sym (ap (map_first u) (doc-here rows z row k)) ∙ e) in
        map_at {n = length group - out + (z - row)} {m = suc (length group - (out + 1) + (z - row))} (omega arith) next-new (doc-here rows z row k)
        ∙ step-new (length group - (out + 1) + (z - row)) u d (drop (out + 1) fresh) (doc_from rows z (row + 1)) t
        ∙ ap (λ (l : List Row). new u ∷ map_rows (length group - (out + 1) + (z - row)) (drop (out + 1) fresh) l) (sym (doc-here rows z row k)))
        (λ k.
        map_at {n = length group - out + (z - row)} {m = suc (length group - (out + 1) + (z - row))} (omega arith) next-new (doc-none rows z row k)
        ∙ ap (λ (l : List Row). new u ∷ map_rows (length group - (out + 1) + (z - row)) (drop (out + 1) fresh) l) (sym (doc-none rows z row k)))

    pub puts-row : map_first u (doc_from rows z row) ≡ false → Mapping rows a z ops group (set order out (get_or group out 0)) (set places out row) row (out + 1)
    puts-row e =
        let x : ℕ = get_or group out 0 in
        let s : take (out + 1) group ≡ take out group ++ x ∷ [] = rw (add-one out) (take-suc group out 0 m) in
        let r = next-put e in
        record {
          row_from = c.row_from;
          row-to = c.row-to;
          out-in = omega arith;
          numbers = simp length-set c.numbers;
          spots = simp length-set c.spots;
          same = put_next order out x (omega (arith, c.numbers)) ∙ ap (λ (l : List ℕ). l ++ x ∷ []) c.same ∙ sym s;
          news = c.news ∙ ap (λ (l : List Event). new_rows_of ops (take out order) ++ news_in l) r ∙ new-next ops order out x (omega (arith, c.numbers)) (news_in (rest row (out + 1)));
          puts = c.puts ∙ ap (λ (l : List Event). take out places ++ places_in row l) r ∙ front-next places out row (omega (arith, c.spots)) (places_in row (rest row (out + 1)));
        }

  pub map-ends : {order places : List ℕ} {row out : ℕ} → Mapping rows a z ops group order places row out → length group ≤ out
      → (news_in (map_out fresh (doc_from rows z a)) ≡ new_rows_of ops order) × (places_in a (map_out fresh (doc_from rows z a)) ≡ places) × (order ≡ group)
  map-ends {order} {places} {row} {out} c h =
      let l : length fresh ≤ out = omega (arith, length-new ops group) in
      let none : drop out fresh ≡ [] = drop_of_length-le fresh l in
      let left = only-old (length group - out + (z - row)) row (doc_from rows z row) in
      let whole : take out order ≡ order = take_all out order (omega (arith, c.numbers)) in (
        c.news
            ∙ ap (λ (k : List Row). new_rows_of ops (take out order) ++ news_in (map_rows (length group - out + (z - row)) k (doc_from rows z row))) none
            ∙ ap₂ (λ (i : List ℕ) (k : List Row). new_rows_of ops i ++ k) whole left.0
            ∙ append-nil (new_rows_of ops order),
        c.puts
            ∙ ap (λ (k : List Row). take out places ++ places_in row (map_rows (length group - out + (z - row)) k (doc_from rows z row))) none
            ∙ ap₂ (λ (i k : List ℕ). i ++ k) (take_all out places (omega (arith, c.spots))) left.1
            ∙ append-nil places,
        sym whole ∙ c.same ∙ take_all out group h,
      )
