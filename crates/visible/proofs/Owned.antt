-- In a table of successors that ascends, the entries that are looked at are all that the row has: what they show, the document shows.
use mathlib.Core.Path.{◌≡◌, sym, ap, ◌∙◌}
use mathlib.Core.Bool.{Bool, not, ◌&&◌}
use mathlib.Core.List.{List, [], ◌++◌, append-nil}
use Prim.Native.Nat.{ℕ, ◌+◌, ◌<◌}
use native.Mathlib.Omega.{arith}
use lib.Dec.{T, not_T, eqb, eqb→eq}
use lib.ListN.{length, take, drop, take-append-drop, length-take, length-drop}
use lib.Seq.{get_or-take, get_or-drop}
use Rattle.model.specs.Basic.{filter}
use Rattle.model.specs.Id.{covered}
use Rattle.model.specs.Row.{Row, Succ, id_of, owner_of, succ_of}
use Rattle.model.specs.Document.{Document}
use Rattle.model.specs.Visible.{covered_succs, visible, total}
use Rattle.model.specs.Picture.{outgrown, shown_value}
use Rattle.laws.proofs.Tests.{T_and}
use Rattle.laws.proofs.Members.{filter-append, filter_none}
use Rattle.ids.proofs.Ranges.{mem_index}
use Rattle.visible.specs.Scope.{first_of, end_of, scope, owned, Ascends, seen_in}
use Rattle.visible.specs.Scoped.{scoped}
use Rattle.visible.proofs.Found.{rises, first-splits, run_ends}

module _ (clock : List ℕ) (d : Document) (asc : Ascends d.succs) (r : Row) where
  covered-owned : covered_succs clock (scope (owned d.succs r)) r ≡ covered_succs clock d r
  unfolding covered_succs owned scope
  covered-owned =
      let id = id_of r in
      let c : Succ → Bool = λ s. eqb (owner_of s) id && covered clock (succ_of s) in
      let succs = d.succs in
      let from = first_of succs id in
      let to = end_of succs id in
      let split = first-splits asc id in
      let ends = run_ends id succs from split.within in
      let other : (s : Succ) → (owner_of s ≡ id → ⊥) → T (not (c s)) = λ s ne.
      not_T (c s) (λ t. ne (eqb→eq (owner_of s) id ((T_and (eqb (owner_of s) id) (covered clock (succ_of s))).0 t).0)) in
      let front = take to succs in
      let before = take from front in
      let own = drop from front in
      let behind = drop to succs in
      let none_before : filter c before ≡ [] =
      filter_none c before
      (λ s i.
      let j = mem_index [] before i in
      let l : j.0 < from = omega (arith, j.1, length-take from front) in
      let k : j.0 < to = omega arith in
      let q = ap owner_of (j.2 ∙ get_or-take from front j.0 [] l ∙ get_or-take to succs j.0 [] k) in
      other s (λ e. omega (arith, split.below j.0 l, q))) in
      let none-behind : filter c behind ≡ [] =
      filter_none c behind
      (λ s i.
      let j = mem_index [] behind i in
      let l : to + j.0 < length succs = omega (arith, j.1, length-drop to succs) in
      let a = split.above to (omega arith) (omega arith) in
      let b = ends.other (omega arith) in
      let q = ap owner_of (j.2 ∙ get_or-drop to succs j.0 []) in
      other s (λ e. omega (arith, rises asc to (to + j.0) (omega arith) l, q))) in
      let whole : filter c succs ≡ filter c own =
      ap (filter c) (sym (take-append-drop to succs) ∙ ap (λ (l : List Succ). l ++ behind) (sym (take-append-drop from front)))
      ∙ filter-append c (before ++ own) behind
      ∙ ap (λ (l : List Succ). l ++ filter c behind) (filter-append c before own ∙ ap (λ (l : List Succ). l ++ filter c own) none_before)
      ∙ ap (λ (l : List Succ). filter c own ++ l) none-behind
      ∙ append-nil (filter c own) in
      sym whole

  visible-owned : visible clock (scope (owned d.succs r)) r ≡ visible clock d r
  unfolding visible
  visible-owned = rw covered-owned

  pub seen-owned : seen_in clock d.succs r ≡ visible clock d r
  unfolding seen_in
  seen-owned = visible-owned

  total-owned : total clock (scope (owned d.succs r)) r ≡ total clock d r
  unfolding total
  total-owned = rw covered-owned

  pub scoped-owned : scoped clock (scope (owned d.succs r)) r ≡ scoped clock d r
  unfolding scoped outgrown shown_value
  scoped-owned = rw (visible-owned, total-owned)
