-- The slots that ids of a batch fall on are marked.
use Prim.Native.Nat.{ℕ, suc, ◌+◌, ◌<◌, ◌≤◌}
use mathlib.Core.Path.{◌≡◌, refl, sym, ap, ◌∙◌}
use mathlib.Core.Bool.{Bool, true, false}
use mathlib.Core.List.{List, [], ◌∷◌}
use native.Mathlib.Omega.{arith}
use lib.Dec.{eqb, eqb→eq}
use lib.ListN.{length, get_or, set, length-set}
use lib.Seq.{get_or-set_same, get_or-set_other}
use Rattle.model.specs.Basic.{any}
use Rattle.model.specs.Row.{Op, id_of}
use Rattle.laws.proofs.Tests.{by-eq, by-test, is_false, of-true}
use Rattle.refusal.specs.Slots.{slots, slot_of}
use Rattle.refusal.specs.TakenIds.{has_word, word_in}
use Rattle.refusal.specs.Known.{Marked}

none-by-index : {A : Type 0} (p : A → Bool) (d : A) (l : List A) → ((j : ℕ) → j < length l → p (get_or l j d) ≡ false) → any p l ≡ false
none-by-index p d [] h = refl
none-by-index p d (x ∷ l) h = rw (h 0 (omega arith)) (none-by-index p d l (λ j o. h (suc j) (omega arith)))

-- of the first j
pub record Marking (marks : List Bool) (b : List Op) (j : ℕ) : Type 0 where
  pub table : length marks ≡ slots
  pub each : (i : ℕ) → i < j → get_or marks (slot_of (id_of (get_or b i []))) false ≡ true

module _ {b : List Op} where
  pub mark-start : {x : List Bool} → length x ≡ slots → Marking x b 0
  mark-start e = record { table = e; each = λ j h. absurd (omega arith) }

  pub mark-turn : {x : List Bool} {j : ℕ} → Marking x b j → {id at : ℕ} → id ≡ id_of (get_or b j []) → at ≡ slot_of id → at < slots → Marking (set x at true) b (j + 1)
  mark-turn {x} {j} m {id} {at} e f h =
      record { table = length-set x at true ∙ m.table; each = each }
    where
      each : (i : ℕ) → i < j + 1 → get_or (set x at true) (slot_of (id_of (get_or b i []))) false ≡ true
      each i l =
          by-eq (slot_of (id_of (get_or b i []))) at
          (λ q. rw q (get_or-set_same x at true false (omega (arith, m.table))))
          (λ ne. get_or-set_other x at (slot_of (id_of (get_or b i []))) true false ne
          ∙ m.each i (by-eq i j (λ q. absurd (ne (ap (λ (v : ℕ). slot_of (id_of (get_or b v []))) q ∙ ap slot_of (sym e) ∙ sym f))) (λ o. omega arith)))

  pub marked : {x : List Bool} {j : ℕ} → length b ≤ j → Marking x b j → Marked x b
  marked l m = record { table = m.table; each = λ i o. m.each i (omega arith) }

  pub unmarked : {marks : List Bool} (id : ℕ) → Marked marks b → get_or marks (slot_of id) false ≡ false → false ≡ word_in 0 id b
  unfolding word_in has_word
  unmarked {marks} id m z = sym (none-by-index (has_word 0 id) [] b none)
    where
      none : (j : ℕ) → j < length b → has_word 0 id (get_or b j []) ≡ false
      none j h =
          by-test (eqb id (id_of (get_or b j [])))
          (λ t. absurd (of-true (sym z ∙ ap (λ (v : ℕ). get_or marks (slot_of v) false) (eqb→eq id (id_of (get_or b j [])) t) ∙ m.each j h)))
          (λ t. is_false (eqb id (id_of (get_or b j []))) t)
