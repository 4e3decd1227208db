-- New rows that are placed where the walk put them: the walk's whole output stands in the slice.
use mathlib.Core.Path.{◌≡◌, sym, ap, ap₂, subst, ◌∙◌}
use mathlib.Core.List.{List, ◌++◌, map}
use Prim.Native.Nat.{ℕ, ◌+◌, ◌*◌, ◌≤◌, ◌<◌}
use native.Mathlib.Omega.{arith}
use lib.ListN.{length, get_or, take, drop}
use lib.Seq.{take_at}
use Rattle.model.specs.Basic.{pieces}
use Rattle.model.specs.Sizes.{row_words, op_words}
use Rattle.model.specs.Row.{Row}
use Rattle.model.specs.Calls.{over}
use Rattle.laws.proofs.Members.{All, Mem, get_or-mem}
use Rattle.laws.proofs.Untangle.{Event, row_in}
use Rattle.laws.proofs.Placing.{put_at, news_in, places_in, placed-out}
use Rattle.batch.specs.Places.{picked, Asked, Rising}
use Rattle.batch.specs.Rank.{ordered}
use Rattle.batch.specs.Walk.{doc_from, new_rows_of}
use Rattle.batch.specs.Groups.{doc_out, Mergeable}
use Rattle.batch.proofs.OrderedRows.{count-in, length-ordered}
use Rattle.batch.proofs.WalkTests.{length-doc}
use Rattle.batch.proofs.PlacesRise.{places-length, places-rising, places-most}
use Rattle.batch.proofs.SuccsWritten.{pieces-over}
use Rattle.batch.proofs.NewRows.{length-new}

module _ {rows : List ℕ} {n : ℕ} {ops sorted : List ℕ} (g : Mergeable rows n ops sorted) (order places : List ℕ)
    (news : news_in (doc_out (new_rows_of ops sorted) (doc_from rows n 0)) ≡ new_rows_of ops order) (spots : places_in 0 (doc_out (new_rows_of ops sorted) (doc_from rows n 0)) ≡ places)
    (from : All (λ x. Mem x sorted) order) where
  abbrev out : List Event
  out = doc_out (new_rows_of ops sorted) (doc_from rows n 0)

  as_many : length places ≡ length order
  as_many = ap length (sym spots) ∙ places-length 0 out ∙ ap length news ∙ length-new ops order

  pub place-asked : Asked row_words n op_words ops order places
  place-asked =
      record {
        wide = omega arith;
        pairs = as_many;
        known = λ i l. let k = g.walks.ops-in (get_or order i 0) (from (get_or order i 0) (get_or-mem order i 0 l)) in omega arith;
        most = λ i l.
            let k = places-most out i (subst (λ (p : List ℕ). i < length p) (sym spots) l) in
            let e = ap (λ (p : List ℕ). get_or p i 0) spots in
            omega (arith, ap length g.stays, length-doc rows n 0);
        rising = subst Rising spots (places-rising 0 out);
      }

  out-placed : {r : List (List ℕ)} → r ≡ put_at (picked row_words op_words ops order) places (pieces row_words n rows) → r ≡ map row_in out
  unfolding new_rows_of doc_from
  out-placed e =
      e
      ∙ ap₂ (λ (p : List Row) (q : List ℕ). put_at p q (pieces row_words n rows)) (sym news) (sym spots)
      ∙ ap (put_at (news_in out) (places_in 0 out)) (sym g.stays)
      ∙ sym (placed-out out)

  pub rows-over : {x : List ℕ} → length order ≡ length sorted → length x ≡ length rows → pieces row_words (n + length order) x ≡ put_at (picked row_words op_words ops order) places (pieces row_words n rows)
      → drop ((n + length order) * row_words) x ≡ drop ((n + length order) * row_words) rows → x ≡ over rows (map row_in out)
  rows-over {x} s l e p = pieces-over row_words (n + length order) rows x (subst (λ (k : ℕ). (n + k) * row_words ≤ length x) (sym s) (subst (λ (k : ℕ). (n + length sorted) * row_words ≤ k) (sym l) g.fits)) (out-placed e) p

-- ── the numbers of the batch's rows, at the front of a table
module _ (k : ℕ) (ops : List ℕ) {t : ℕ} (count : t ≡ length (ordered (pieces op_words k ops))) where
  pub numbers-few : t ≤ k
  numbers-few = count-in k ops (count ∙ length-ordered (pieces op_words k ops))

  pub numbers-front : {x : List ℕ} (rest : List ℕ) → x ≡ ordered (pieces op_words k ops) ++ rest → take t x ≡ ordered (pieces op_words k ops)
  numbers-front rest e = ap (take t) e ∙ take_at (ordered (pieces op_words k ops)) rest t (sym count)
