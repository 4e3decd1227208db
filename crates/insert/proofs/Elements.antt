-- The rows of an element: from its insert row up to the next, or to the list's end.
use mathlib.Core.Path.{◌≡◌, sym, ap, ◌∙◌}
use mathlib.Core.Bool.{Bool, true, false, ◌&&◌}
use mathlib.Core.List.{List, [], ◌∷◌, map}
use Prim.Native.Nat.{ℕ, zero, suc, ◌+◌, ◌≤◌, ◌<◌}
use native.Mathlib.Omega.{arith}
use lib.Dec.{T, eqb, eqb→eq}
use lib.ListN.{length, get_or, drop}
use Rattle.model.specs.Basic.{filter}
use Rattle.model.specs.Row.{Row, id_of, object_of, is_insert, element_of}
use Rattle.model.specs.Spot.{row_at}
use Rattle.laws.proofs.Tests.{T_and, by-test, by-eq, by_order, is_true, is_false, of-true, eq→eqb}
use Rattle.laws.proofs.Parts.{drop_here}
use Rattle.laws.proofs.Standing.{own-element}
use Rattle.insert.specs.Lists.{ListStart, ListEnd, Listed}
use Rattle.insert.proofs.Lists.{in_list}

-- an insert row of the list
abbrev pub inserted : ℕ → Row → Bool
inserted list r = is_insert r && eqb (object_of r) list

-- the insert rows from a on
unfoldable pub inserts_from : ℕ → List Row → ℕ → List ℕ
inserts_from list rows a = map id_of (filter (inserted list) (drop a rows))

module _ (list : ℕ) (rows : List Row) where
  pub insert-here : (a : ℕ) → a < length rows → is_insert (get_or rows a []) ≡ true → object_of (get_or rows a []) ≡ list → inserts_from list rows a ≡ id_of (get_or rows a []) ∷ inserts_from list rows (a + 1)
  unfolding inserts_from
  insert-here a h i o = rw (drop_here rows a [] h, i, is_true (eqb (object_of (get_or rows a [])) list) (eq→eqb (object_of (get_or rows a [])) list o))

  pub insert-none : (a : ℕ) → a < length rows → is_insert (get_or rows a []) ≡ false → inserts_from list rows a ≡ inserts_from list rows (a + 1)
  unfolding inserts_from
  insert-none a h i = rw (drop_here rows a [] h, i)

-- the insert row of row j's element
pub record Owner (rows : List Row) (list j : ℕ) : Type 0 where
  pub own : ℕ
  pub before : own ≤ j
  pub inserts : is_insert (get_or rows own []) ≡ true
  pub element : element_of (get_or rows j []) ≡ id_of (get_or rows own [])
  pub none : (k : ℕ) → own < k → k ≤ j → is_insert (get_or rows k []) ≡ false

module _ {rows : List Row} {list : ℕ} (listed : Listed rows list) where
  itself : (j : ℕ) → is_insert (get_or rows j []) ≡ true → Owner rows list j
  itself j e = record { own = j; before = omega arith; inserts = e; element = own-element (get_or rows j []) e; none = λ k h l. absurd (omega arith) }

  further : (j : ℕ) → is_insert (get_or rows (suc j) []) ≡ false → element_of (get_or rows (suc j) []) ≡ element_of (get_or rows j []) → Owner rows list j → Owner rows list (suc j)
  further j e q o =
      record {
        own = o.own;
        before = omega (arith, o.before);
        inserts = o.inserts;
        element = q ∙ o.element;
        none = λ k h l. by-eq k (suc j) (λ x. rw x e) (λ ne. o.none k h (omega arith));
      }

  pub owner : (j : ℕ) → j < length rows → object_of (get_or rows j []) ≡ list → Owner rows list j
  owner zero h q =
      by-test (is_insert (get_or rows zero [])) (λ t. itself zero (is_true (is_insert (get_or rows zero [])) t))
      (λ t. let f = listed.follows zero h q (is_false (is_insert (get_or rows zero [])) t) in absurd (omega (arith, f.1)))
  owner (suc j) h q =
      by-test (is_insert (get_or rows (suc j) [])) (λ t. itself (suc j) (is_true (is_insert (get_or rows (suc j) [])) t))
      (λ t.
      let i = is_false (is_insert (get_or rows (suc j) [])) t in
      let f = listed.follows (suc j) h q i in
      let e : f.0 ≡ j = omega (arith, f.1) in
      further j i (f.3 ∙ ap (λ (k : ℕ). element_of (get_or rows k [])) e) (owner j (omega arith) (ap (λ (k : ℕ). object_of (get_or rows k [])) (sym e) ∙ f.2)))

-- rows a .. e are those of one element
pub record Element (rows : List Row) (first end a e : ℕ) : Type 0 where
  pub start : first ≤ a
  pub some : a < e
  pub within : e ≤ end
  pub inserts : is_insert (get_or rows a []) ≡ true
  pub none : (k : ℕ) → a < k → k < e → is_insert (get_or rows k []) ≡ false
  pub stops : e < end → is_insert (get_or rows e []) ≡ true

clash : {b : Bool} {C : Type 0} → b ≡ true → b ≡ false → C
clash e f = absurd (of-true (sym f ∙ e))

module _ {rows : List Row} {list : ℕ} (listed : Listed rows list) {first end : ℕ} (s : ListStart rows list first) (l : ListEnd rows first list end) {a e : ℕ} (g : Element rows first end a e) where
  pub in-element : (j : ℕ) → a ≤ j → j < e → T (row_at list (id_of (get_or rows a [])) (get_or rows j []))
  unfolding row_at
  in-element j h k =
      let q = l.own j (omega (arith, g.start)) (omega (arith, g.within)) in
      let o = owner listed j (omega (arith, g.within, l.within)) q in
      let at : o.own ≡ a =
      by_order o.own a (λ x. clash g.inserts (o.none a x h))
      (λ x. by_order a o.own (λ y. clash o.inserts (g.none o.own y (omega (arith, o.before)))) (λ y. omega arith)) in
      (T_and (eqb (object_of (get_or rows j [])) list) (eqb (element_of (get_or rows j [])) (id_of (get_or rows a [])))).1
      (eq→eqb (object_of (get_or rows j [])) list q, eq→eqb (element_of (get_or rows j [])) (id_of (get_or rows a [])) (o.element ∙ ap (λ (k : ℕ). id_of (get_or rows k [])) at))

  pub of-element : (j : ℕ) → j < length rows → T (row_at list (id_of (get_or rows a [])) (get_or rows j [])) → (a ≤ j) × (j < e)
  unfolding row_at
  of-element j h t =
      let u = (T_and (eqb (object_of (get_or rows j [])) list) (eqb (element_of (get_or rows j [])) (id_of (get_or rows a [])))).0 t in
      let q = eqb→eq (object_of (get_or rows j [])) list u.0 in
      let i = in_list listed s l j h q in
      let o = owner listed j h q in
      let x : o.own < length rows = omega (arith, o.before) in
      let y : a < length rows = omega (arith, g.some, g.within, l.within) in
      let at : o.own ≡ a = listed.apart o.own a x y (sym o.element ∙ eqb→eq (element_of (get_or rows j [])) (id_of (get_or rows a [])) u.1) in (
        omega (arith, o.before),
        by_order j e (λ z. z)
            (λ z. clash (g.stops (omega (arith, i.1))) (o.none e (omega (arith, g.some)) z)),
      )
