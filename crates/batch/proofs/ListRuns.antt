-- The new rows of one list, in the order of their ranks: what waits for an element is a run of them, found by tags.
use mathlib.Core.Path.{◌≡◌, refl, sym, ap, ap₂, ◌∙◌}
use mathlib.Core.Bool.{not, ◌&&◌}
use mathlib.Core.List.{List, [], ◌∷◌, map, reverse, reverse-append}
use Prim.Native.Nat.{ℕ, zero, suc, ◌+◌, ◌-◌, ◌*◌, ◌≤◌, ◌<◌}
use native.Mathlib.Omega.{arith}
use lib.Dec.{T, not_T, ltb, eqb, ltb→lt, lt→ltb, nltb→le, eqb→eq}
use lib.ListN.{length, get_or, take, drop, length-map, length-drop}
use lib.Seq.{get_or-drop, take-suc}
use Rattle.model.specs.Basic.{filter, sort}
use Rattle.model.specs.Row.{Row, named_of, insert_of, is_insert}
use Rattle.laws.proofs.Tests.{T_and, bool-ext, eq→eqb, ne→neqb, neqb→ne}
use Rattle.laws.proofs.Members.{All, filter-ext}
use Rattle.laws.proofs.RowOrder.{Apart}
use Rattle.laws.proofs.Untangle.{updates, waiting}
use Rattle.laws.proofs.Sort.{Sorted, sorted_sort}
use Rattle.batch.specs.Places.{Rising}
use Rattle.batch.specs.Rank.{op_before}
use Rattle.batch.specs.Walk.{tag_of, lower, fall, rows_at, cut_rows}
use Rattle.batch.proofs.OrderedRuns.{ListRow, rank-order, run-updates, run-waiting}
use Rattle.batch.proofs.Between.{cut-between, lower-most}
use Rattle.batch.proofs.RanksRise.{tags-rise}

-- ── tags tell the element and the kind
within : (t v w : ℕ) → T (not (ltb t v) && ltb t w) → (v ≤ t) × (t < w)
within t v w u = let p = (T_and (not (ltb t v)) (ltb t w)).0 u in (nltb→le t v p.0, ltb→lt t w p.1)

is_within : (t v w : ℕ) → v ≤ t → t < w → T (not (ltb t v) && ltb t w)
is_within t v w h k = (T_and (not (ltb t v)) (ltb t w)).1 (not_T (ltb t v) (λ u. omega (arith, ltb→lt t v u)), lt→ltb t w k)

update-tag : (e : ℕ) (r : Row) → insert_of r ≤ 1 → (not (ltb (tag_of r) (e * 2)) && ltb (tag_of r) (e * 2 + 1)) ≡ (not (is_insert r) && eqb (named_of r) e)
unfolding tag_of
update-tag e r f =
    let t = named_of r * 2 + insert_of r in
    bool-ext (not (ltb t (e * 2)) && ltb t (e * 2 + 1)) (not (is_insert r) && eqb (named_of r) e)
    (λ u.
    let w = within t (e * 2) (e * 2 + 1) u in
    let a = w.0 in
    let b = w.1 in
    (T_and (not (is_insert r)) (eqb (named_of r) e)).1 (ne→neqb (insert_of r) 1 (λ q. omega arith), eq→eqb (named_of r) e (omega arith)))
    (λ u.
    let p = (T_and (not (is_insert r)) (eqb (named_of r) e)).0 u in
    let ne = neqb→ne (insert_of r) 1 p.0 in
    let n = eqb→eq (named_of r) e p.1 in
    is_within t (e * 2) (e * 2 + 1) (omega arith) (omega arith))

insert-tag : (e : ℕ) (r : Row) → insert_of r ≤ 1 → (not (ltb (tag_of r) (e * 2 + 1)) && ltb (tag_of r) (e * 2 + 2)) ≡ (is_insert r && eqb (named_of r) e)
unfolding tag_of
insert-tag e r f =
    let t = named_of r * 2 + insert_of r in
    bool-ext (not (ltb t (e * 2 + 1)) && ltb t (e * 2 + 2)) (is_insert r && eqb (named_of r) e)
    (λ u.
    let w = within t (e * 2 + 1) (e * 2 + 2) u in
    let a = w.0 in
    let b = w.1 in
    (T_and (is_insert r) (eqb (named_of r) e)).1 (eq→eqb (insert_of r) 1 (omega arith), eq→eqb (named_of r) e (omega arith)))
    (λ u.
    let p = (T_and (is_insert r) (eqb (named_of r) e)).0 u in
    let i = eqb→eq (insert_of r) 1 p.0 in
    let n = eqb→eq (named_of r) e p.1 in
    is_within t (e * 2 + 1) (e * 2 + 2) (omega arith) (omega arith))

-- ── a run from its end
pub rows-fall : (l : List Row) (q n : ℕ) → q + n ≤ length l → rows_at l (fall q n) ≡ reverse (take n (drop q l))
rows-fall l q zero h = refl
rows-fall l q (suc n) h =
    let k : n < length (drop q l) = rw (length-drop q l) (omega arith) in
    ap₂ (λ (r : Row) (rs : List Row). r ∷ rs) (sym (get_or-drop q l n [])) (rows-fall l q n (omega arith))
    ∙ sym (ap reverse (take-suc (drop q l) n [] k) ∙ reverse-append (take n (drop q l)) (get_or (drop q l) n [] ∷ []))

module _ (o : ℕ) (l : List Row) (apart : Apart l) (sorted : Sorted op_before l) (rows : All (ListRow o) l) where
  abbrev tags : List ℕ
  tags = map tag_of l

  stays : sort op_before l ≡ l
  stays = sorted_sort op_before l (rank-order l apart) sorted

  pub list-rising : Rising tags
  list-rising = tags-rise o l rows sorted

  pub list-up-to : (v : ℕ) → lower v tags ≤ length l
  list-up-to v = omega (arith, lower-most v tags, length-map l tag_of)

  pub list-updates : (e : ℕ) → updates e l ≡ cut_rows (lower (e * 2) tags) (lower (e * 2 + 1) tags) l
  list-updates e =
      sym
      (cut-between tag_of (e * 2) (e * 2 + 1) (omega arith) l list-rising
      ∙ filter-ext (λ r. not (ltb (tag_of r) (e * 2)) && ltb (tag_of r) (e * 2 + 1)) (λ r. not (is_insert r) && eqb (named_of r) e) l (λ r m. update-tag e r (rows r m).flag)
      ∙ ap (filter (λ r. not (is_insert r) && eqb (named_of r) e)) (sym stays)
      ∙ run-updates o e l apart rows)

  pub list-waits : (e : ℕ) → waiting e l ≡ rows_at l (fall (lower (e * 2 + 1) tags) (lower (e * 2 + 2) tags - lower (e * 2 + 1) tags))
  list-waits e =
      let v = lower (e * 2 + 1) tags in
      let w = lower (e * 2 + 2) tags in
      let h : v + (w - v) ≤ length l = omega (arith, list-up-to (e * 2 + 1), list-up-to (e * 2 + 2)) in
      sym
      (rows-fall l v (w - v) h
      ∙ ap reverse
      (cut-between tag_of (e * 2 + 1) (e * 2 + 2) (omega arith) l list-rising
      ∙ filter-ext (λ r. not (ltb (tag_of r) (e * 2 + 1)) && ltb (tag_of r) (e * 2 + 2)) (λ r. is_insert r && eqb (named_of r) e) l (λ r m. insert-tag e r (rows r m).flag)
      ∙ ap (filter (λ r. is_insert r && eqb (named_of r) e)) (sym stays))
      ∙ run-waiting o e l apart rows)
