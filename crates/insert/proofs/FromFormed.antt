-- A well-formed document has what the spot goes by.
use mathlib.Core.Path.{◌≡◌, refl, sym, ap, ◌∙◌}
use mathlib.Core.Bool.{true, false}
use mathlib.Core.List.{List, [], ◌∷◌}
use Prim.Native.Nat.{ℕ, zero, suc, ◌<◌}
use native.Mathlib.Omega.{arith}
use lib.ListN.{length, get_or}
use lib.Dec.{T, T_not, eqb, eqb→eq}
use Rattle.model.specs.Basic.{any}
use Rattle.model.specs.Row.{Row, Succ, id_of, object_of, on_list, is_insert, is_make_sequence, element_of}
use Rattle.model.specs.Order.{preorder, before}
use Rattle.laws.proofs.Tests.{T_and, is_true, of-false, of-true, by_order, by-eq}
use Rattle.laws.proofs.Members.{Mem, any-from, get_or-mem}
use Rattle.laws.proofs.Formed.{Formed, formed}
use Rattle.laws.proofs.SameKey.{SameKey}
use Rattle.laws.proofs.Standing.{in_order, own-element, positive, on-made, element-row, rank-of, object-rises, id-rises, between, elements-stand}
use Rattle.ids.proofs.ByIndex.{pairwise-at}
use Rattle.ids.proofs.Ranges.{mem_index}
use Rattle.visible.specs.Scope.{Ascends}
use Rattle.model.specs.Spot.{first_place}
use Rattle.model.specs.WellFormed.{well_formed}
use Rattle.insert.specs.Lists.{document, makes, Listed, ListStart, ListEnd, Walkable}
use Rattle.insert.proofs.Lists.{first-place}

-- every list can be walked over
pub record Spottable (rows : List Row) (succs : List Succ) : Type 0 where
  pub lists : (list : ℕ) → T (any (makes list) rows) → Listed rows list
  pub ascend : Ascends succs

same-element : (a b : Row) → object_of a ≡ object_of b → on_list a ≡ true → on_list b ≡ true → element_of a ≡ element_of b → SameKey a b
same-element a b o x y e = (o, x ∙ sym y, rw (x, y, e))

element-of-key : (a b : Row) → SameKey a b → on_list a ≡ true → element_of a ≡ element_of b
element-of-key a b s x =
    let y = sym s.1 ∙ x in
    let k : element_of a ∷ [] ≡ element_of b ∷ [] = rw (x, y) at s.2 in
    cc

module _ (rows : List Row) (succs : List Succ) (f : Formed (document rows succs)) where
  stands : (i j : ℕ) → i < j → j < length rows → T (before (preorder rows) (get_or rows i []) (get_or rows j []))
  stands = pairwise-at (λ a b. T (before (preorder rows) a b)) [] rows (in_order f)

  ids-apart : (i j : ℕ) → i < length rows → j < length rows → id_of (get_or rows i []) ≡ id_of (get_or rows j []) → i ≡ j
  ids-apart i j h k e =
      let apart = pairwise-at (λ a b. id_of a ≡ id_of b → ⊥) [] rows f.apart in
      by_order i j (λ x. absurd (apart i j x k e)) (λ x. by_order j i (λ y. absurd (apart j i y h (sym e))) (λ y. omega arith))

module _ (rows : List Row) (succs : List Succ) (f : Formed (document rows succs)) (list : ℕ) (q : Row) (made : Mem q rows) (e : id_of q ≡ list) (t : T (is_make_sequence q)) where
  of-list : (j : ℕ) → j < length rows → object_of (get_or rows j []) ≡ list → on_list (get_or rows j []) ≡ true
  of-list j h o = on-made f (get_or rows j []) q (get_or-mem rows j [] h) made (e ∙ sym o) t

  -- the insert row of row j's element stands before it
  before-it : (j : ℕ) → j < length rows → object_of (get_or rows j []) ≡ list → is_insert (get_or rows j []) ≡ false
      → (i : ℕ) × (i < j) × (object_of (get_or rows i []) ≡ list) × (element_of (get_or rows i []) ≡ element_of (get_or rows j []))
  before-it j h o plain =
      let es = preorder rows in
      let r = element-row f (get_or rows j []) (get_or-mem rows j [] h) (of-list j h o) in
      let i = mem_index [] rows r.1 in
      let ins : T (is_insert (get_or rows i.0 [])) = rw i.2 at r.2 in
      let obj : object_of (get_or rows i.0 []) ≡ list = ap object_of (sym i.2) ∙ r.3 ∙ o in
      let el : element_of (get_or rows i.0 []) ≡ element_of (get_or rows j []) = own-element (get_or rows i.0 []) (is_true (is_insert (get_or rows i.0 [])) ins) ∙ ap id_of (sym i.2) ∙ r.4 in
      let key = same-element (get_or rows j []) (get_or rows i.0 []) (o ∙ sym obj) (of-list j h o) (of-list i.0 i.1 obj) (sym el) in
      let first : i.0 < j =
      by_order i.0 j (λ x. x)
      (λ x. by-eq j i.0 (λ y. absurd (T_not (is_insert (get_or rows j [])) (of-false plain) (rw (← y) at ins)))
      (λ ne.
      absurd
      (omega (arith, r.5, ap id_of i.2, id-rises es (get_or rows j []) (get_or rows i.0 []) (o ∙ sym obj) (rank-of es (get_or rows j []) (get_or rows i.0 []) key) (stands rows succs f j i.0 (omega arith) i.1))))) in
      (i.0, first, obj, el)

  follow : (j : ℕ) → j < length rows → object_of (get_or rows j []) ≡ list → is_insert (get_or rows j []) ≡ false
      → (i : ℕ) × (j ≡ suc i) × (object_of (get_or rows i []) ≡ list) × (element_of (get_or rows j []) ≡ element_of (get_or rows i []))
  follow zero h o plain = let b = before-it zero h o plain in absurd (omega (arith, b.1))
  follow (suc i) h o plain =
      let b = before-it (suc i) h o plain in
      let k : i < length rows = omega arith in
      by-eq b.0 i
      (λ x. (i, refl, ap (λ (y : ℕ). object_of (get_or rows y [])) (sym x) ∙ b.2, sym b.3 ∙ ap (λ (y : ℕ). element_of (get_or rows y [])) x))
      (λ ne.
      let l : b.0 < length rows = omega (arith, b.1) in
      let key = same-element (get_or rows b.0 []) (get_or rows (suc i) []) (b.2 ∙ sym o) (of-list b.0 l b.2) (of-list (suc i) h o) b.3 in
      let s =
      between f (get_or rows b.0 []) (get_or rows i []) (get_or rows (suc i) []) (get_or-mem rows b.0 [] l) (get_or-mem rows i [] k)
      (stands rows succs f b.0 i (omega (arith, b.1)) k) (stands rows succs f i (suc i) (omega arith) h) key in
      (i, refl, sym s.0 ∙ b.2, sym b.3 ∙ element-of-key (get_or rows b.0 []) (get_or rows i []) s (of-list b.0 l b.2)))

  pub formed-listed : Listed rows list
  formed-listed =
      record {
        rising = λ i j h k. object-rises (preorder rows) (get_or rows i []) (get_or rows j []) (stands rows succs f i j h k);
        follows = follow;
        apart = ids-apart rows succs f;
        no-head = λ i h. positive f (get_or rows i []) (get_or-mem rows i [] h);
        preordered = elements-stand f list q made e t;
      }

module _ (rows : List Row) (succs : List Succ) (f : Formed (document rows succs)) where
  pub formed-spottable : Spottable rows succs
  unfolding makes
  formed-spottable =
      record {
        lists = λ list t.
            let q = any-from (makes list) rows t in
            let u = (T_and (eqb (id_of q.0) list) (is_make_sequence q.0)).0 q.2 in
            formed-listed rows succs f list q.0 q.1 (eqb→eq (id_of q.0) list u.0) u.1;
        ascend = record { up = f.ascend };
      }

pub walkable : (rows : List Row) (succs : List Succ) (list first end : ℕ) → well_formed (document rows succs) ≡ true → any (makes list) rows ≡ true → ListStart rows list first → ListEnd rows first list end
    → Walkable rows succs list first end
walkable rows succs list first end w m s e =
    let p = formed-spottable rows succs ((formed (document rows succs)).0 (of-true w)) in
    record { listed = p.lists list (of-true m); start = s; finish = e; ascend = p.ascend }

pub first_place_is : (rows : List Row) (succs : List Succ) (list first : ℕ) → well_formed (document rows succs) ≡ true → any (makes list) rows ≡ true → ListStart rows list first
    → first_place (document rows succs) list ≡ first
first_place_is rows succs list first w m s =
    let p = formed-spottable rows succs ((formed (document rows succs)).0 (of-true w)) in
    first-place (p.lists list (of-true m)) s succs
