-- Rows from a up to e of a slice, as a part of all: their members, and how the parts lie.
use mathlib.Core.Path.{◌≡◌, sym, ap, ◌∙◌}
use mathlib.Core.List.{List, [], ◌∷◌}
use Prim.Native.Nat.{ℕ, suc, ◌+◌, ◌-◌, ◌≤◌, ◌<◌}
use native.Mathlib.Omega.{arith}
use lib.ListN.{length, get_or, drop, length-drop}
use lib.Seq.{get_or-drop}
use Rattle.model.specs.Basic.{pieces}
use Rattle.laws.proofs.Members.{Mem, not-nil, on-mem, mem-cast, get_or-mem}
use Rattle.laws.proofs.Pieces.{length-pieces}
use Rattle.ids.specs.Words.{piece_at}
use Rattle.ids.proofs.Pieces.{piece-at}

pub mem_index : {A : Type 0} (d : A) {x : A} (l : List A) → Mem x l → (i : ℕ) × (i < length l) × (x ≡ get_or l i d)
mem_index d [] m = absurd (not-nil m)
mem_index d (y ∷ l) m = on-mem m (λ e. (0, omega arith, e)) (λ n. let r = mem_index d l n in (suc r.0, omega (arith, r.1), r.2))

module _ (w : ℕ) (xs : List ℕ) where
  pub range-mem : (a e : ℕ) {x : List ℕ} → Mem x (drop a (pieces w e xs)) → (j : ℕ) × (a ≤ j) × (j < e) × (x ≡ piece_at w xs j)
  range-mem a e m =
      let r = mem_index [] (drop a (pieces w e xs)) m in
      let b : a + r.0 < e = omega (arith, r.1, length-drop a (pieces w e xs), length-pieces w e xs) in
      (a + r.0, omega arith, b, r.2 ∙ get_or-drop a (pieces w e xs) r.0 [] ∙ piece-at w e xs (a + r.0) b)

  pub range-in : (a e j : ℕ) → a ≤ j → j < e → Mem (piece_at w xs j) (drop a (pieces w e xs))
  range-in a e j h k =
      let l : j - a < length (drop a (pieces w e xs)) = omega (arith, length-drop a (pieces w e xs), length-pieces w e xs) in
      let n : a + (j - a) ≡ j = omega arith in
      mem-cast
      (sym (get_or-drop a (pieces w e xs) (j - a) [] ∙ ap (λ (i : ℕ). get_or (pieces w e xs) i []) n ∙ piece-at w e xs j k))
      (get_or-mem (drop a (pieces w e xs)) (j - a) [] l)
