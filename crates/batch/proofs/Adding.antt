-- A loop that puts pieces es of w words behind the t that a slice has.
use Rattle.std.specs.Prelude.{min}
use mathlib.Core.Path.{◌≡◌, refl, sym, ap, ◌∙◌}
use mathlib.Core.Bool.{Bool, true, false, cond}
use mathlib.Core.List.{List, [], ◌∷◌, ◌++◌, append_assoc, append-nil}
use Prim.Native.Nat.{ℕ, suc, ◌+◌, ◌*◌, ◌≤◌, ◌<◌}
use native.Mathlib.Nat.{add-zero, mul-le-mul_right}
use native.Mathlib.Numerals.{add-one}
use native.Mathlib.Omega.{arith}
use lib.ListN.{length, get_or, take, drop, length-take, length-map}
use lib.Seq.{sets, length-sets, take-suc, take_all, get_or-take, get_or-drop}
use Rattle.model.specs.Basic.{pieces}
use Rattle.model.specs.Sizes.{row_words, succ_words}
use Rattle.model.specs.Row.{Op, preds_of, pred_count_of, pred_room_of}
use Rattle.laws.proofs.Parts.{get_or-map}
use Rattle.batch.specs.Entries.{carried, entry_by, entries_of}
use Rattle.batch.proofs.Slots.{drop-piece, pieces_more}

pub record Adding (w t : ℕ) (es : List (List ℕ)) (d x : List ℕ) (q : ℕ) : Type 0 where
  pub within : q ≤ length es
  pub room : (t + length es) * w ≤ length d
  pub same : length x ≡ length d
  pub front : pieces w (t + q) x ≡ pieces w t d ++ take q es
  pub past : drop ((t + length es) * w) x ≡ drop ((t + length es) * w) d

module _ {w t : ℕ} {es : List (List ℕ)} {d : List ℕ} where
  pub add_start : (t + length es) * w ≤ length d → Adding w t es d d 0
  add_start h =
      record { within = omega arith; room = h; same = refl; front = ap (λ (k : ℕ). pieces w k d) (add-zero t) ∙ sym (append-nil (pieces w t d)); past = refl }

  pub add_turn : {x : List ℕ} {q : ℕ} → Adding w t es d x q → q < length es → {e : List ℕ} → e ≡ get_or es q [] → length e ≡ w → {y : List ℕ} → y ≡ sets x ((t + q) * w) e → Adding w t es d y (q + 1)
  add_turn {x} {q} c h {e} g l z =
      let k : suc (t + q) ≤ t + length es = omega arith in
      let room : suc (t + q) * w ≤ length x = omega (arith, c.room, c.same, mul-le-mul_right w k) in
      let s : t + (q + 1) ≡ suc (t + q) = omega arith in
      let more : take (q + 1) es ≡ take q es ++ e ∷ [] = ap (λ (i : ℕ). take i es) (add-one q) ∙ take-suc es q [] h ∙ ap (λ (v : List ℕ). take q es ++ v ∷ []) (sym g) in
      rw z
      record {
        within = omega arith;
        room = c.room;
        same = length-sets x ((t + q) * w) e ∙ c.same;
        front =
            ap (λ (i : ℕ). pieces w i (sets x ((t + q) * w) e)) s
            ∙ pieces_more w (t + q) x e room l
            ∙ ap (λ (r : List (List ℕ)). r ++ e ∷ []) c.front
            ∙ append_assoc (pieces w t d) (take q es) (e ∷ [])
            ∙ ap (λ (r : List (List ℕ)). pieces w t d ++ r) (sym more);
        past = drop-piece w (t + length es) x (t + q) e k l ∙ c.past;
      }

  pub add-end : {x : List ℕ} {q : ℕ} → Adding w t es d x q → length es ≤ q → pieces w (t + length es) x ≡ pieces w t d ++ es
  add-end {x} {q} c h =
      let e : q ≡ length es = omega (arith, c.within) in
      ap (λ (k : ℕ). pieces w (t + k) x) (sym e) ∙ c.front ∙ ap (λ (r : List (List ℕ)). pieces w t d ++ r) (take_all q es h)

-- ── the entries of an operation
pub entry-wide : (counter : Bool) (o : Op) (p : ℕ) → length (entry_by counter o p) ≡ succ_words
unfolding entry_by
entry-wide counter o p = go (carried o counter)
  where
    go : (t : Bool) → length (cond t (p ∷ get_or o 0 0 ∷ 1 ∷ get_or o 11 0 ∷ []) (p ∷ get_or o 0 0 ∷ 0 ∷ 0 ∷ [])) ≡ succ_words
    go true = refl
    go false = refl

length-preds : (o : Op) → length (preds_of o) ≡ min (length (pred_room_of o)) (pred_count_of o)
length-preds o = omega (arith, length-take (pred_count_of o) (pred_room_of o))

module _ (counter : ℕ → Bool) (o : Op) where
  pub length-entries : length (entries_of counter o) ≡ length (preds_of o)
  unfolding entries_of
  length-entries = length-map (preds_of o) (λ p. entry_by (counter p) o p)

  pred-word : (q : ℕ) → q < length (preds_of o) → get_or o (suc row_words + q) 0 ≡ get_or (preds_of o) q 0
  pred-word q h =
      let l : q < pred_count_of o = omega (arith, length-preds o) in
      sym (get_or-drop (suc row_words) o q 0) ∙ sym (get_or-take (pred_count_of o) (pred_room_of o) q 0 l)

  entry_at : (q : ℕ) → q < length (preds_of o) → {p : ℕ} → p ≡ get_or o (suc row_words + q) 0 → entry_by (counter p) o p ≡ get_or (entries_of counter o) q []
  unfolding entries_of
  entry_at q h e =
      ap (λ (p : ℕ). entry_by (counter p) o p) (e ∙ pred-word q h) ∙ sym (get_or-map (λ p. entry_by (counter p) o p) (preds_of o) q 0 [] h)

  -- the loop over its predecessors
  module _ {t : ℕ} {d : List ℕ} where
    pub enter-start : (t + length (preds_of o)) * succ_words ≤ length d → Adding succ_words t (entries_of counter o) d d 0
    enter-start r = add_start (rw length-entries r)

    pub enter-turn : {x : List ℕ} {q : ℕ} → Adding succ_words t (entries_of counter o) d x q → q < length (preds_of o) → {p : ℕ} → p ≡ get_or o (suc row_words + q) 0
        → (b : Bool) → entry_by b o p ≡ entry_by (counter p) o p → {y : List ℕ} → y ≡ sets x ((t + q) * succ_words) (entry_by b o p) → Adding succ_words t (entries_of counter o) d y (q + 1)
    enter-turn {x} {q} c h {p} w b e z = add_turn c (omega (arith, length-entries)) (e ∙ entry_at q h w) (entry-wide b o p) z

    pub enter-end : {x : List ℕ} {q : ℕ} → Adding succ_words t (entries_of counter o) d x q → length (preds_of o) ≤ q → {r : ℕ} → r ≡ t + length (preds_of o)
        → (r ≡ t + length (preds_of o)) × (pieces succ_words r x ≡ pieces succ_words t d ++ entries_of counter o) × (drop (r * succ_words) x ≡ drop (r * succ_words) d)
    enter-end c h e =
        let l : length (entries_of counter o) ≡ length (preds_of o) = length-entries in
        (e, rw (e, ← l) (add-end c (omega arith)), rw (e, ← l) c.past)
