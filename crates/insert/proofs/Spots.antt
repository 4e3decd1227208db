-- What the definition of the spot says of an element: its width, and the place behind its rows.
use mathlib.Core.Path.{◌≡◌, refl, sym, ap, ◌∙◌}
use mathlib.Core.Bool.{Bool, false, ◌&&◌}
use mathlib.Core.List.{List, [], ◌∷◌, ◌++◌}
use Prim.Native.Nat.{ℕ, suc, ◌-◌}
use native.Mathlib.Omega.{arith}
use lib.Dec.{T, not_T}
use lib.ListN.{length, get_or, take, drop}
use lib.Seq.{take-suc}
use Rattle.std.proofs.lemmas.List.{take-append-drop, length-take-le}
use Rattle.model.specs.Basic.{flag, any, up_to_last}
use Rattle.model.specs.Row.{Row, Succ, id_of}
use Rattle.model.specs.Visible.{visible}
use Rattle.model.specs.Spot.{row_at, width, place_after}
use Rattle.laws.proofs.Tests.{T_and, bool-ext, is_true, is_false}
use Rattle.laws.proofs.Members.{here, there, append_left, append_right, any-from, any-in, get_or-mem}
use Rattle.ids.proofs.Ranges.{mem_index}
use Rattle.visible.specs.Scope.{Ascends, seen_in}
use Rattle.visible.proofs.Owned.{seen-owned}
use Rattle.insert.specs.Lists.{document, ListStart, ListEnd, Listed}
use Rattle.insert.proofs.Parts.{part-mem, part-in, rest-mem}
use Rattle.insert.proofs.Elements.{Element, in-element, of-element}

-- ── up to the last that passes
module _ (p : Row → Bool) where
  none-up : (l : List Row) → any p l ≡ false → up_to_last p l ≡ []
  none-up [] e = refl
  none-up (x ∷ l) e = rw e

  pub up_to : (l k : List Row) (x : Row) → T (p x) → any p k ≡ false → up_to_last p ((l ++ x ∷ []) ++ k) ≡ l ++ x ∷ []
  up_to [] k x t e = rw (is_true (p x) t, none-up k e)
  up_to (y ∷ l) k x t e =
      rw (is_true (any p (y ∷ (l ++ x ∷ []) ++ k)) (any-in p (y ∷ (l ++ x ∷ []) ++ k) (there (append_left k (append_right l (here refl)))) t), up_to l k x t e)

module _ {rows : List Row} {list : ℕ} (listed : Listed rows list) {first end : ℕ} (s : ListStart rows list first) (l : ListEnd rows first list end) {a e : ℕ} (g : Element rows first end a e) where
  pub place_after-is : (succs : List Succ) → place_after (document rows succs) list (id_of (get_or rows a [])) ≡ e
  unfolding place_after
  place_after-is succs =
      let p = row_at list (id_of (get_or rows a [])) in
      let i = e - 1 in
      let q : suc i ≡ e = omega (arith, g.some) in
      let after = drop e rows in
      let no : any p after ≡ false =
      is_false (any p after)
      (not_T (any p after)
      (λ t.
      let r = any-from p after t in
      let j = rest-mem [] rows e r.1 in
      let b = of-element listed s l g j.0 j.2 (rw j.3 at r.2) in
      omega (arith, b.1, j.1))) in
      let front : take e rows ≡ take i rows ++ get_or rows i [] ∷ [] = ap (λ (k : ℕ). take k rows) (sym q) ∙ take-suc rows i [] (omega (arith, g.within, l.within)) in
      ap (λ (k : List Row). length (up_to_last p k)) (sym (take-append-drop e rows) ∙ ap (λ (k : List Row). k ++ after) front)
      ∙ ap length (up_to p (take i rows) after (get_or rows i []) (in-element listed s l g i (omega (arith, g.some)) (omega (arith, g.some))) no ∙ sym front)
      ∙ length-take-le e rows (omega (arith, g.within, l.within))

  pub element-width : (clock : List ℕ) {succs : List Succ} → Ascends succs
      → width clock (document rows succs) list (id_of (get_or rows a [])) ≡ flag (any (seen_in clock succs) (drop a (take e rows)))
  unfolding width
  element-width clock {succs} asc =
      let d = document rows succs in
      let p : Row → Bool = λ r. row_at list (id_of (get_or rows a [])) r && visible clock d r in
      let v = seen_in clock succs in
      let here = drop a (take e rows) in
      ap flag
      (bool-ext (any p rows) (any v here)
      (λ t.
      let r = any-from p rows t in
      let j = mem_index [] rows r.1 in
      let u = (T_and (row_at list (id_of (get_or rows a [])) r.0) (visible clock d r.0)).0 r.2 in
      let b = of-element listed s l g j.0 j.1 (rw j.2 at u.0) in
      any-in v here (part-in [] rows a e j.0 b.0 b.1 j.1) (rw (seen-owned clock (document rows succs) asc (get_or rows j.0 []), ← j.2) u.1))
      (λ t.
      let r = any-from v here t in
      let j = part-mem [] rows a e r.1 in
      let x = get_or rows j.0 [] in
      any-in p rows (get_or-mem rows j.0 [] j.3)
      ((T_and (row_at list (id_of (get_or rows a [])) x) (visible clock d x)).1
      (in-element listed s l g j.0 j.1 j.2, rw (← seen-owned clock (document rows succs) asc x, ← j.4) r.2))))
