-- The walk over a list's elements, with the visible elements that are left to come.
use mathlib.Core.Path.{◌≡◌, refl, sym, ap, ◌∙◌}
use mathlib.Core.Bool.{Bool, true, false, ◌||◌}
use mathlib.Core.List.{List, [], ◌∷◌, ◌++◌, map}
use Prim.Native.Nat.{ℕ, ◌+◌, ◌-◌, ◌≤◌, ◌<◌}
use native.Mathlib.Numerals.{add-one}
use native.Mathlib.Omega.{arith}
use borrow.Author.Tests.{eq-eqb, lt-ltb, le-ltb, le-leb, lt-leb, ne_eqb}
use lib.Dec.{not_T, eqb, eqb→eq}
use lib.ListN.{length, get_or, take, drop, drop_of_length-le}
use Rattle.std.specs.Prelude.{Option, Some, None}
use Rattle.std.specs.Bool.{then_some}
use Rattle.std.proofs.lemmas.List.{take-append-drop, length-take}
use Rattle.model.specs.Basic.{flag, any, filter}
use Rattle.model.specs.Row.{Row, Succ, id_of, object_of, is_insert}
use Rattle.model.specs.Order.{inserts, elements}
use Rattle.model.specs.Spot.{width, widths, reaching, spot_element, spot_place}
use Rattle.laws.proofs.Tests.{T_and, by-test, by-eq, by_order, is_true, is_false}
use Rattle.laws.proofs.Members.{Mem, filter-append, filter_none, any_append}
use Rattle.visible.specs.Scope.{seen_in}
use Rattle.insert.specs.declared.spot.Spot.{Spot}
use Rattle.insert.specs.Lists.{document, Walkable}
use Rattle.insert.specs.Spotted.{spotted}
use Rattle.insert.proofs.Lists.{in_list}
use Rattle.insert.proofs.Parts.{part-more, front-mem, rest-mem}
use Rattle.insert.proofs.Elements.{inserted, inserts_from, insert-here, insert-none, Element}
use Rattle.insert.proofs.Spots.{place_after-is, element-width}

-- ── over the rows of the element that starts at a
pub record Rows (clock : List ℕ) (rows : List Row) (succs : List Succ) (list end a : ℕ) (shows : Bool) (place : ℕ) : Type 0 where
  pub some : a < place
  pub within : place ≤ end
  pub none : (k : ℕ) → a < k → k < place → is_insert (get_or rows k []) ≡ false
  pub rest : inserts_from list rows (a + 1) ≡ inserts_from list rows place
  pub shown : shows ≡ any (seen_in clock succs) (drop a (take place rows))

more-shown : (v : Row → Bool) (rows : List Row) (a i : ℕ) (shows : Bool) → a ≤ i → i < length rows → shows ≡ any v (drop a (take i rows))
    → (shows || v (get_or rows i [])) ≡ any v (drop a (take (i + 1) rows))
more-shown v rows a i shows h k e =
    let l = drop a (take i rows) in
    let last : any v (get_or rows i [] ∷ []) ≡ v (get_or rows i []) =
    by-test (v (get_or rows i [])) (λ t. rw (is_true (v (get_or rows i [])) t)) (λ t. rw (is_false (v (get_or rows i [])) t)) in
    sym (ap (λ (k : ℕ). any v (drop a (take k rows))) (add-one i)
    ∙ ap (any v) (part-more [] rows a i h k)
    ∙ any_append v l (get_or rows i [] ∷ [])
    ∙ ap (λ (b : Bool). b || any v (get_or rows i [] ∷ [])) (sym e)
    ∙ ap (λ (b : Bool). shows || b) last)

module _ {clock : List ℕ} {rows : List Row} {succs : List Succ} {list end a : ℕ} where
  pub rows_start : {shows : Bool} {r : Row} → a < end → end ≤ length rows → r ≡ get_or rows a [] → shows ≡ seen_in clock succs r → Rows clock rows succs list end a shows (a + 1)
  rows_start {shows} {r} h l q e =
      let none : drop a (take a rows) ≡ [] = drop_of_length-le (take a rows) (omega (arith, length-take a rows)) in
      record {
        some = omega arith;
        within = omega arith;
        none = λ k i j. absurd (omega arith);
        rest = refl;
        shown = e ∙ ap (seen_in clock succs) q ∙ more-shown (seen_in clock succs) rows a a false (omega arith) (omega arith) (rw none);
      }

  pub rows-turn : {shows new : Bool} {place : ℕ} {r : Row} → Rows clock rows succs list end a shows place → place < end → end ≤ length rows → r ≡ get_or rows place []
      → is_insert r ≡ false → new ≡ (shows || seen_in clock succs r) → Rows clock rows succs list end a new (place + 1)
  rows-turn {shows} {new} {place} {r = x} r h l y i e =
      record {
        some = omega (arith, r.some);
        within = omega arith;
        none = λ k j o. by-eq k place (λ q. rw (q, ← y) i) (λ ne. r.none k j (omega arith));
        rest = r.rest ∙ insert-none list rows place (omega arith) (rw (← y) i);
        shown = e ∙ ap (λ (z : Row). shows || seen_in clock succs z) y ∙ more-shown (seen_in clock succs) rows a place shows (omega (arith, r.some)) (omega arith) r.shown;
      }

-- ── over the elements
abbrev pub spot_at : ℕ → ℕ → Option Spot
spot_at element place = Some (record { element = element; place = place })

pub record Open (clock : List ℕ) (rows : List Row) (succs : List Succ) (list target left place : ℕ) : Type 0 where
  pub reach : reaching (width clock (document rows succs) list) target (elements rows list)
      ≡ reaching (width clock (document rows succs) list) left (inserts_from list rows place)
  pub sum : widths (width clock (document rows succs) list) (elements rows list) + left
      ≡ target + widths (width clock (document rows succs) list) (inserts_from list rows place)

pub record Walking (clock : List ℕ) (rows : List Row) (succs : List Succ) (list first end target element left place : ℕ) : Type 0 where
  pub positive : 0 < target
  pub after : first ≤ place
  pub within : place ≤ end
  pub at : place < end → is_insert (get_or rows place []) ≡ true
  pub going : 0 < left → Open clock rows succs list target left place
  pub shut : left ≡ 0 → (end ≤ place) × (spot_at element place ≡ spotted clock (document rows succs) list target)

pub walking-still : {clock : List ℕ} {rows : List Row} {succs : List Succ} {list first end target element left place : ℕ}
    → Walking clock rows succs list first end target element left place → place < end → 0 < left
walking-still {left = left} g here = by_order 0 left (λ h. h) (λ h. absurd (omega (arith, (g.shut (omega arith)).0)))

module _ {rows : List Row} {succs : List Succ} {list first end : ℕ} (k : Walkable rows succs list first end) where
  first-insert : first < end → is_insert (get_or rows first []) ≡ true
  first-insert h =
      let r = get_or rows first [] in
      let o = k.finish.own first (omega arith) h in
      by-test (is_insert r) (is_true (is_insert r))
      (λ t.
      let f = k.listed.follows first (omega (arith, k.finish.within)) o (is_false (is_insert r) t) in
      absurd (omega (arith, f.1, f.2, k.start.below f.0 (omega (arith, f.1)))))

  none-of : (l : List Row) → ((x : Row) → Mem x l → object_of x ≡ list → ⊥) → filter (inserted list) l ≡ []
  none-of l f =
      filter_none (inserted list) l
      (λ x i. not_T (inserted list x) (λ t. f x i (eqb→eq (object_of x) list ((T_and (is_insert x) (eqb (object_of x) list)).0 t).1)))

  all-inserts : elements rows list ≡ inserts_from list rows first
  unfolding inserts_from inserts
  all-inserts =
      let p = inserted list in
      let before = take first rows in
      let after = drop first rows in
      let no : filter p before ≡ [] =
      none-of before (λ x i e. let j = front-mem [] rows first i in omega (arith, k.start.below j.0 j.1, ap object_of j.3)) in
      k.listed.preordered
      ∙ ap (map id_of) (ap (filter p) (sym (take-append-drop first rows)) ∙ filter-append p before after ∙ ap (λ (l : List Row). l ++ filter p after) no)

  no-inserts : inserts_from list rows end ≡ []
  unfolding inserts_from
  no-inserts =
      ap (map id_of)
      (none-of (drop end rows)
      (λ x i e.
      let j = rest-mem [] rows end i in
      omega (arith, j.1, (in_list k.listed k.start k.finish j.0 j.2 (ap object_of (sym j.3) ∙ e)).1)))

  pub walking_start : (clock : List ℕ) {target : ℕ} → 0 < target → Walking clock rows succs list first end target 0 target first
  walking_start clock {target} h =
      let w = width clock (document rows succs) list in
      record {
        positive = h;
        after = omega arith;
        within = k.finish.after;
        at = first-insert;
        going = λ g. record { reach = ap (reaching w target) all-inserts; sum = omega (arith, ap (widths w) all-inserts) };
        shut = λ e. absurd (omega arith);
      }

  module _ {clock : List ℕ} {target element left a place : ℕ} {shows : Bool} (g : Walking clock rows succs list first end target element left a) (here : a < end)
      (r : Rows clock rows succs list end a shows place) (stops : place < end → is_insert (get_or rows place []) ≡ true) where
    group : Element rows first end a place
    group = record { start = g.after; some = r.some; within = r.within; inserts = g.at here; none = r.none; stops = stops }

    still : 0 < left
    still = walking-still g here

    element-rest : inserts_from list rows a ≡ id_of (get_or rows a []) ∷ inserts_from list rows place
    element-rest =
        insert-here list rows a (omega (arith, k.finish.within)) (g.at here) (k.finish.own a g.after here)
        ∙ ap (λ (l : List ℕ). id_of (get_or rows a []) ∷ l) r.rest

    element-is : width clock (document rows succs) list (id_of (get_or rows a [])) ≡ flag shows
    element-is = element-width k.listed k.start k.finish group clock k.ascend ∙ ap flag (sym r.shown)

    -- the element reaches the target
    pub walking-found : {el : ℕ} → el ≡ id_of (get_or rows a []) → left - flag shows ≡ 0 → spot_at el place ≡ spotted clock (document rows succs) list target
    unfolding spotted spot_element spot_place
    walking-found {el} q z =
        let d = document rows succs in
        let w = width clock d list in
        let es = elements rows list in
        let o = g.going still in
        let e = id_of (get_or rows a []) in
        let is = element-is in
        let enough : left ≤ w e = omega arith in
        let reached : reaching w target es ≡ e = o.reach ∙ ap (reaching w left) element-rest ∙ rw (le-leb left (w e) enough) in
        let there : target ≤ widths w es = omega (arith, o.sum, ap (widths w) element-rest) in
        let real : e ≡ 0 → ⊥ = λ x. omega (arith, k.listed.no-head a (omega (arith, k.finish.within))) in
        rw (
          q,
          le-ltb (widths w es) target there,
          ne_eqb target 0 (λ x. omega (arith, g.positive)),
          reached,
          ne_eqb e 0 real,
          place_after-is k.listed k.start k.finish group succs,
        )

    -- or it does not, and the walk goes on behind it
    pub walking-next : {el left' : ℕ} → el ≡ id_of (get_or rows a []) → left' ≡ left - flag shows → (place < end → 0 < left')
        → Walking clock rows succs list first end target el left' place
    walking-next {el} {left'} q z more =
        let d = document rows succs in
        let w = width clock d list in
        let o = g.going still in
        let e = id_of (get_or rows a []) in
        let is = element-is in
        record {
          positive = g.positive;
          after = omega (arith, g.after, r.some);
          within = r.within;
          at = stops;
          going = λ h.
              let short : w e < left = omega arith in
              let rest : left - w e ≡ left' = omega arith in
              record {
                reach = o.reach ∙ ap (reaching w left) element-rest ∙ rw (lt-leb left (w e) short, rest);
                sum = omega (arith, o.sum, ap (widths w) element-rest);
              };
          shut = λ h. (by_order place end (λ x. absurd (omega (arith, more x))) (λ x. x), walking-found q (sym z ∙ h));
        }

  -- no element is left
  walking-end : {clock : List ℕ} {target element left place : ℕ} → Walking clock rows succs list first end target element left place → end ≤ place → (left ≡ 0 → ⊥)
      → None ≡ spotted clock (document rows succs) list target
  unfolding spotted
  walking-end {clock} {target} {element} {left} {place} g h ne =
      let w = width clock (document rows succs) list in
      let es = elements rows list in
      let e : place ≡ end = omega (arith, g.within) in
      let o = g.going (omega arith) in
      let none = ap (λ (i : ℕ). inserts_from list rows i) e ∙ no-inserts in
      let above : widths w es < target = omega (arith, o.sum, ap (widths w) none) in
      rw (lt-ltb (widths w es) target above)

  -- where the walk has come to the end
  pub walking_ends : {clock : List ℕ} {target element left place : ℕ} → Walking clock rows succs list first end target element left place → end ≤ place
      → then_some (eqb left 0) (record { element = element; place = place }) ≡ spotted clock (document rows succs) list target
  walking_ends {left = left} g h =
      by-eq left 0 (λ z. rw (eq-eqb left 0 z) (g.shut z).1) (λ ne. rw (ne_eqb left 0 ne) (walking-end g h ne))
