-- The rows from the list's start to its end are the list's.
use mathlib.Core.Path.{◌≡◌, sym, ap, ◌∙◌}
use mathlib.Core.Bool.{Bool}
use mathlib.Core.List.{List, [], ◌++◌, append-nil}
use Prim.Native.Nat.{ℕ, ◌≤◌, ◌<◌}
use native.Mathlib.Omega.{arith}
use lib.Dec.{not_T, ltb, lt→ltb, ltb→lt}
use lib.ListN.{length, get_or, take, drop}
use Rattle.std.proofs.lemmas.List.{take-append-drop, length-take-le}
use Rattle.std.specs.Prelude.{Option, Some, None}
use Rattle.std.specs.Option.{MatchOption, unwrap_or}
use Rattle.model.specs.Basic.{filter}
use Rattle.model.specs.Row.{Row, Succ, object_of}
use Rattle.model.specs.Spot.{first_place}
use Rattle.laws.proofs.Tests.{by-eq, by_order}
use Rattle.laws.proofs.Members.{filter-append, filter-all, filter_none}
use Rattle.insert.specs.Lists.{document, ListStart, ListEnd, Listed}
use Rattle.insert.proofs.Parts.{front-mem, rest-mem}

-- the end is the first row from `first` on that is not the list's
pub list_ends : {n : ℕ} (rows : List Row) (first list : ℕ) (found : Option ℕ) {r : ℕ} → first ≤ length rows → n ≡ length rows → r ≡ unwrap_or found n
    → MatchOption found ((k : ℕ) → first ≤ k → k < n → object_of (get_or rows k []) ≡ list)
    (λ i. (first ≤ i) × (i < n) × (object_of (get_or rows i []) ≡ list → ⊥) × ((k : ℕ) → first ≤ k → k < i → object_of (get_or rows k []) ≡ list))
    → ListEnd rows first list r
list_ends rows first list None h e q m =
    record { after = omega arith; within = omega arith; own = λ j k l. m j k (omega arith); ends = λ l. absurd (omega arith) }
list_ends rows first list (Some i) h e q m =
    record { after = omega (arith, m.0); within = omega (arith, m.1); own = λ j k l. m.3 j k (omega arith); ends = λ l. rw q m.2 }

-- ── the rows of the list are those from `first` up to `end`
module _ {rows : List Row} {list : ℕ} (listed : Listed rows list) {first : ℕ} (s : ListStart rows list first) where
  from_first : (j : ℕ) → first ≤ j → j < length rows → list ≤ object_of (get_or rows j [])
  from_first j h k =
      by-eq first j (λ e. rw (← e) (s.ends (omega arith)))
      (λ ne. let l : list ≤ object_of (get_or rows first []) = s.ends (omega arith) in omega (arith, listed.rising first j (omega arith) k))

  pub in_list : {end : ℕ} → ListEnd rows first list end → (j : ℕ) → j < length rows → object_of (get_or rows j []) ≡ list → (first ≤ j) × (j < end)
  in_list {end} e j h q =
      let a : first ≤ j = by_order j first (λ l. absurd (omega (arith, s.below j l))) (λ l. l) in
      (a, by_order j end (λ l. l) (λ l. absurd (past j h q a l)))
    where
      past : (j : ℕ) → j < length rows → object_of (get_or rows j []) ≡ list → first ≤ j → end ≤ j → ⊥
      past j h q a l =
          let k : end < length rows = omega arith in
          let u : list ≤ object_of (get_or rows end []) = from_first end e.after k in
          by-eq end j (λ x. e.ends k (rw x q)) (λ ne. e.ends k (omega (arith, listed.rising end j (omega arith) h)))

  -- and `first` is the definition's
  pub first-place : (succs : List Succ) → first_place (document rows succs) list ≡ first
  unfolding first_place
  first-place succs =
      let p : Row → Bool = λ r. ltb (object_of r) list in
      let before = take first rows in
      let after = drop first rows in
      let yes : filter p before ≡ before =
      filter-all p before (λ x i. let q = front-mem [] rows first i in rw q.3 (lt→ltb (object_of (get_or rows q.0 [])) list (s.below q.0 q.1))) in
      let no : filter p after ≡ [] =
      filter_none p after
      (λ x i.
      let q = rest-mem [] rows first i in
      not_T (p x) (λ t. omega (arith, ltb→lt (object_of x) list t, ap object_of q.3, from_first q.0 q.1 q.2))) in
      let whole : filter p before ++ filter p after ≡ before = rw (yes, no) (append-nil before) in
      ap (λ (l : List Row). length (filter p l)) (sym (take-append-drop first rows))
      ∙ ap length (filter-append p before after ∙ whole)
      ∙ length-take-le first rows s.within
