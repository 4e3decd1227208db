-- The members from a up to e of a list: what they are, and how such parts lie.
use mathlib.Core.Path.{◌≡◌, sym, ap, ◌∙◌}
use mathlib.Core.List.{List, [], ◌∷◌, ◌++◌}
use Prim.Native.Nat.{ℕ, suc, ◌+◌, ◌-◌, ◌≤◌, ◌<◌, min}
use native.Mathlib.Omega.{arith}
use lib.ListN.{length, get_or, take, drop, length-drop}
use lib.Seq.{drop-append-le, get_or-drop, take-suc}
use Rattle.std.proofs.lemmas.List.{get_or-take, length-take}
use Rattle.laws.proofs.Members.{Mem, mem-cast, get_or-mem}
use Rattle.ids.proofs.Ranges.{mem_index}

module _ {A : Type 0} (d : A) (l : List A) where
  pub part-mem : (a e : ℕ) {x : A} → Mem x (drop a (take e l)) → (j : ℕ) × (a ≤ j) × (j < e) × (j < length l) × (x ≡ get_or l j d)
  part-mem a e m =
      let r = mem_index d (drop a (take e l)) m in
      let b : a + r.0 < min e (length l) = omega (arith, r.1, length-drop a (take e l), length-take e l) in
      (a + r.0, omega arith, omega arith, omega arith, r.2 ∙ get_or-drop a (take e l) r.0 d ∙ get_or-take e l (a + r.0) d (omega arith))

  pub part-in : (a e j : ℕ) → a ≤ j → j < e → j < length l → Mem (get_or l j d) (drop a (take e l))
  part-in a e j h k i =
      let b : j - a < length (drop a (take e l)) = omega (arith, length-drop a (take e l), length-take e l) in
      let n : a + (j - a) ≡ j = omega arith in
      mem-cast
      (sym (get_or-drop a (take e l) (j - a) d ∙ ap (λ (i : ℕ). get_or (take e l) i d) n ∙ get_or-take e l j d k))
      (get_or-mem (drop a (take e l)) (j - a) d b)

  -- one more
  pub part-more : (a i : ℕ) → a ≤ i → i < length l → drop a (take (suc i) l) ≡ drop a (take i l) ++ get_or l i d ∷ []
  part-more a i h k =
      ap (drop a) (take-suc l i d k) ∙ drop-append-le a (take i l) (get_or l i d ∷ []) (omega (arith, length-take i l))

  pub rest-mem : (a : ℕ) {x : A} → Mem x (drop a l) → (j : ℕ) × (a ≤ j) × (j < length l) × (x ≡ get_or l j d)
  rest-mem a m =
      let r = mem_index d (drop a l) m in
      (a + r.0, omega arith, omega (arith, r.1, length-drop a l), r.2 ∙ get_or-drop a l r.0 d)

  pub front-mem : (e : ℕ) {x : A} → Mem x (take e l) → (j : ℕ) × (j < e) × (j < length l) × (x ≡ get_or l j d)
  front-mem e m =
      let r = mem_index d (take e l) m in
      let b : r.0 < min e (length l) = omega (arith, r.1, length-take e l) in
      (r.0, omega arith, omega arith, r.2 ∙ get_or-take e l r.0 d (omega arith))
