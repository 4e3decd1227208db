-- One object's walk is its list's or its map's, by the kind of its first new row's key.
use mathlib.Core.Path.{◌≡◌, sym, ap, ◌∙◌}
use mathlib.Core.Bool.{Bool, true, false, not}
use mathlib.Core.List.{List, [], ◌∷◌}
use Prim.Native.Nat.{ℕ, ◌*◌, ◌<◌}
use native.Mathlib.Omega.{arith}
use lib.Dec.{T}
use lib.ListN.{length, get_or}
use Rattle.model.specs.Sizes.{row_words, op_words}
use Rattle.model.specs.Row.{Row, on_list}
use Rattle.laws.proofs.Tests.{is_true, is_false, of-true}
use Rattle.laws.proofs.Members.{All, Mem}
use Rattle.laws.proofs.Placing.{news_in, places_in}
use Rattle.batch.specs.Walk.{list_out, doc_from, new_rows_of}
use Rattle.batch.specs.Groups.{map_out, object_out, Object}
use Rattle.batch.specs.Parts.{part}
use Rattle.batch.proofs.NewRows.{length-new, new-at}

object-list : (news doc : List Row) → 0 < length news → T (on_list (get_or news 0 [])) → object_out news doc ≡ list_out news doc
object-list [] doc h t = absurd (omega arith)
object-list (u ∷ news) doc h t = rw (is_true (on_list u) t)

object-map : (news doc : List Row) → 0 < length news → T (not (on_list (get_or news 0 []))) → object_out news doc ≡ map_out news doc
object-map [] doc h t = absurd (omega arith)
object-map (u ∷ news) doc h t = rw (is_false (on_list u) t)

module _ {rows : List ℕ} {a z : ℕ} {ops group : List ℕ} (g : Object rows a z ops group) where
  abbrev news : List Row
  news = new_rows_of ops group

  abbrev doc : List Row
  doc = doc_from rows z a

  some-new : 0 < length news
  some-new = omega (arith, length-new ops group, g.some)

  -- the kind of the first new row's key, as the code reads it
  kind : {r : Row} → r ≡ part row_words ops (get_or group 0 0 * op_words) → {b : Bool} → b ≡ on_list r → on_list (get_or news 0 []) ≡ b
  kind e q = ap on_list (new-at ops group 0 g.some ∙ sym e) ∙ sym q

  pub stands_on_list : {r : Row} → r ≡ part row_words ops (get_or group 0 0 * op_words) → {b : Bool} → b ≡ on_list r → b ≡ true → T (on_list (get_or news 0 []))
  stands_on_list e q t = of-true (kind e q ∙ t)

  pub off_list : {r : Row} → r ≡ part row_words ops (get_or group 0 0 * op_words) → {b : Bool} → b ≡ on_list r → b ≡ false → T (not (on_list (get_or news 0 [])))
  off_list e q f = of-true (ap not (kind e q ∙ f))

  abbrev Done : List ℕ → List ℕ → Type 0
  Done order places = (news_in (object_out news doc) ≡ new_rows_of ops order) × (places_in a (object_out news doc) ≡ places) × All (λ x. Mem x group) order

  pub list_done : {order places : List ℕ} → T (on_list (get_or news 0 []))
      → (news_in (list_out news doc) ≡ new_rows_of ops order) × (places_in a (list_out news doc) ≡ places) × All (λ x. Mem x group) order → Done order places
  list_done t r = let e = object-list news doc some-new t in (ap news_in e ∙ r.0, ap (places_in a) e ∙ r.1, r.2)

  pub map-done : {order places : List ℕ} → T (not (on_list (get_or news 0 [])))
      → (news_in (map_out news doc) ≡ new_rows_of ops order) × (places_in a (map_out news doc) ≡ places) × (order ≡ group) → Done order places
  map-done t r = let e = object-map news doc some-new t in (ap news_in e ∙ r.0, ap (places_in a) e ∙ r.1, λ x m. rw r.2 at m)
