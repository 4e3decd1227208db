-- The loop over a batch's operations: their entries one after another, at the start of the slice.
use mathlib.Core.Path.{◌≡◌, refl, sym, ap, ◌∙◌}
use mathlib.Core.Bool.{Bool}
use mathlib.Core.List.{List, [], ◌∷◌, ◌++◌, append-nil}
use Prim.Native.Nat.{ℕ, ◌+◌, ◌*◌, ◌≤◌, ◌<◌}
use native.Mathlib.Omega.{arith}
use native.Mathlib.Numerals.{add-one}
use lib.ListN.{length, get_or, take, drop, length-append, take-append-drop}
use lib.Seq.{drop-drop, take_all, take-suc}
use Rattle.model.specs.Basic.{pieces}
use Rattle.model.specs.Sizes.{succ_words}
use Rattle.model.specs.Row.{Op, preds_of}
use Rattle.laws.proofs.Members.{concat_map-append}
use Rattle.batch.specs.Entries.{entries_of, new_entries}
use Rattle.batch.proofs.Adding.{length-entries}

module _ (counter : ℕ → Bool) where
  new-append : (a b : List Op) → new_entries counter (a ++ b) ≡ new_entries counter a ++ new_entries counter b
  unfolding new_entries
  new-append a b = concat_map-append (entries_of counter) a b

  new-one : (o : Op) → new_entries counter (o ∷ []) ≡ entries_of counter o
  unfolding new_entries
  new-one o = append-nil (entries_of counter o)

  new_none : new_entries counter [] ≡ []
  unfolding new_entries
  new_none = refl

  front-few : (i : ℕ) (b : List Op) → length (new_entries counter (take i b)) ≤ length (new_entries counter b)
  front-few i b =
      let e : length (new_entries counter b) ≡ length (new_entries counter (take i b)) + length (new_entries counter (drop i b)) =
      ap (λ l. length (new_entries counter l)) (sym (take-append-drop i b)) ∙ ap length (new-append (take i b) (drop i b)) ∙ length-append (new_entries counter (take i b)) (new_entries counter (drop i b)) in
      omega arith

  -- one operation more
  next : (os : List Op) (i : ℕ) → i < length os → new_entries counter (take (i + 1) os) ≡ new_entries counter (take i os) ++ entries_of counter (get_or os i [])
  next os i h =
      ap (new_entries counter) (rw (add-one i) (take-suc os i [] h))
      ∙ new-append (take i os) (get_or os i [] ∷ [])
      ∙ ap (λ l. new_entries counter (take i os) ++ l) (new-one (get_or os i []))

pub record AllEntering (counter : ℕ → Bool) (os : List Op) (d x : List ℕ) (i t : ℕ) : Type 0 where
  pub room : length (new_entries counter os) * succ_words ≤ length d
  pub same : length x ≡ length d
  pub count : t ≡ length (new_entries counter (take i os))
  pub front : pieces succ_words t x ≡ new_entries counter (take i os)
  pub past : drop (t * succ_words) x ≡ drop (t * succ_words) d

module _ {counter : ℕ → Bool} {os : List Op} {d : List ℕ} where
  pub all_start : length (new_entries counter os) * succ_words ≤ length d → AllEntering counter os d d 0 0
  all_start r = record { room = r; same = refl; count = sym (ap length (new_none counter)); front = sym (new_none counter); past = refl }

  counted : {x : List ℕ} {i t : ℕ} → AllEntering counter os d x i t → i < length os → t + length (preds_of (get_or os i [])) ≡ length (new_entries counter (take (i + 1) os))
  counted {x} {i} {t} c h =
      let l = ap length (next counter os i h) ∙ length-append (new_entries counter (take i os)) (entries_of counter (get_or os i [])) in
      omega (arith, c.count, length-entries counter (get_or os i []))

  pub all_room : {x : List ℕ} {i t : ℕ} → AllEntering counter os d x i t → i < length os → (t + length (preds_of (get_or os i []))) * succ_words ≤ length x
  all_room {x} {i} {t} c h = omega (arith, counted c h, front-few counter (i + 1) os, c.room, c.same)

  pub all-turn : {x : List ℕ} {i t : ℕ} → AllEntering counter os d x i t → i < length os → {r : ℕ} {y : List ℕ} → length y ≡ length x → r ≡ t + length (preds_of (get_or os i []))
      → pieces succ_words r y ≡ pieces succ_words t x ++ entries_of counter (get_or os i []) → drop (r * succ_words) y ≡ drop (r * succ_words) x → AllEntering counter os d y (i + 1) r
  all-turn {x} {i} {t} c h {r} {y} l e f p =
      let n : ℕ = length (preds_of (get_or os i [])) in
      let m : t * succ_words + n * succ_words ≡ r * succ_words = omega arith in
      record {
        room = c.room;
        same = l ∙ c.same;
        count = e ∙ counted c h;
        front = f ∙ ap (λ (u : List (List ℕ)). u ++ entries_of counter (get_or os i [])) c.front ∙ sym (next counter os i h);
        past =
            p
            ∙ ap (λ (j : ℕ). drop j x) (sym m)
            ∙ sym (drop-drop (n * succ_words) (t * succ_words) x)
            ∙ ap (drop (n * succ_words)) c.past
            ∙ drop-drop (n * succ_words) (t * succ_words) d
            ∙ ap (λ (j : ℕ). drop j d) m;
      }

  pub all_end : {x : List ℕ} {i t : ℕ} → AllEntering counter os d x i t → length os ≤ i
      → (t ≡ length (new_entries counter os)) × (pieces succ_words t x ≡ new_entries counter os) × (drop (t * succ_words) x ≡ drop (t * succ_words) d)
  all_end {x} {i} {t} c h =
      let e : take i os ≡ os = take_all i os h in
      (rw e at c.count, rw e at c.front, c.past)
