-- The pass over all groups writes the picture.
use mathlib.Core.Path.{◌≡◌, refl, sym, ap, ◌∙◌}
use mathlib.Core.List.{List, [], ◌∷◌, ◌++◌, map, map-append}
use Prim.Native.Nat.{ℕ, ◌+◌, ◌*◌, ◌≤◌, ◌<◌}
use native.Mathlib.Omega.{arith}
use lib.ListN.{length, take, drop, length-map, length-take, length-drop, length-append}
use Rattle.std.specs.List.{prefix_len}
use Rattle.std.proofs.lemmas.List.{take_all}
use Rattle.model.specs.Basic.{filter}
use Rattle.model.specs.Sizes.{row_words, entry_words}
use Rattle.model.specs.Row.{Row}
use Rattle.model.specs.Key.{same_key}
use Rattle.model.specs.Document.{Document}
use Rattle.model.specs.Visible.{visible}
use Rattle.model.specs.Picture.{seen, picture_entry, picture}
use Rattle.laws.proofs.Members.{All, map-from, filter-append, filter-ext, filter-length, filter-from}
use Rattle.visible.proofs.Owned.{seen-owned, scoped-owned}
use Rattle.visible.specs.Scope.{seen_in}
use Rattle.found_op.specs.Group.{found_in, group_length, row_shown, group_shown}
use Rattle.found_op.specs.Page.{Page, page, writes, shown}
use Rattle.found_op.proofs.Entries.{picture-wide, shown-entries}
use Rattle.found_op.proofs.Groups.{Cut, group, more, group-is, whole, of_group, group-rivals, cut-next, gathered}
use Rattle.found_op.proofs.Keyed.{Keyed, Together, together-drop}
use Rattle.found_op.proofs.Pages.{Wide, writes-append, writes-count, writes-length, writes-over}

-- the entries of the visible rows among rs
abbrev pub entries : List ℕ → Document → List Row → List (List ℕ)
entries clock d rs = map (picture_entry clock d) (filter (visible clock d) rs)

entries-append : (clock : List ℕ) (d : Document) (xs ys : List Row) → entries clock d (xs ++ ys) ≡ entries clock d xs ++ entries clock d ys
entries-append clock d xs ys = ap (map (picture_entry clock d)) (filter-append (visible clock d) xs ys) ∙ map-append (picture_entry clock d) (filter (visible clock d) xs) (filter (visible clock d) ys)

entries-few : (clock : List ℕ) (d : Document) (l : List Row) → length (entries clock d l) ≤ length l
entries-few clock d l = omega (arith, length-map (filter (visible clock d) l) (picture_entry clock d), filter-length (visible clock d) l)

-- what is written so far, with the rows that are left
pub record Picturing (clock : List ℕ) (d : Document) (out₀ : List ℕ) (rest : List Row) (out : List ℕ) (k : ℕ) : Type 0 where
  pub few : k + length rest ≤ length d.rows
  pub same : length out ≡ length out₀
  pub cut : Cut d.rows rest
  pub together : Together rest
  pub todo : writes (page out₀ 0) (entries clock d d.rows) ≡ writes (page out k) (entries clock d rest)

module _ {clock : List ℕ} {d : Document} (keyed : Keyed d) (wide : All (λ r. length r ≡ row_words) d.rows) where
  pub picturing-start : {out : List ℕ} {rest : List Row} → rest ≡ d.rows → Picturing clock d out rest out 0
  picturing-start e = rw e record { few = omega arith; same = refl; cut = record { from = λ r m. m; all = λ r m. refl }; together = keyed.together; todo = refl }

  module _ {out₀ : List ℕ} (r : Row) (l : List Row) {out : List ℕ} {k : ℕ} (p : Picturing clock d out₀ (r ∷ l) out k) where
    abbrev here : List Row
    here = group keyed r l p.cut p.together

    abbrev behind : List Row
    behind = more keyed r l p.cut p.together

    group-shows : group_shown clock d.succs here ≡ entries clock d here
    unfolding group_shown row_shown
    group-shows =
        let vs = filter (visible clock d) here in
        let found = ap found_in (filter-ext (seen_in clock d.succs) (visible clock d) here (λ x i. seen-owned clock d keyed.ascends x)) in
        gathered (row_shown clock d.succs (found_in (filter (seen_in clock d.succs) here))) (visible clock d) (picture_entry clock d) here
        (λ x i. rw (found, scoped-owned clock d keyed.ascends x) (shown-entries clock d x (wide x (p.cut.from x (of_group keyed r l p.cut p.together x i))) vs (group-rivals keyed r l p.cut p.together clock x i)))

    pub turn : {new : List ℕ} {k' : ℕ} → page new k' ≡ writes (page out k) (group_shown clock d.succs here) → Picturing clock d out₀ behind new k'
    turn {new} {k'} w =
        let q : page new k' ≡ writes (page out k) (entries clock d here) = w ∙ ap (writes (page out k)) group-shows in
        let n = entries-few clock d here in
        let c = ap (λ (x : Page). x.count) q ∙ writes-count (page out k) (entries clock d here) in
        let all = ap length (whole keyed r l p.cut p.together) in
        record {
          few = omega (arith, p.few, length-append here behind);
          same = ap (λ (x : Page). length x.out) q ∙ writes-length (page out k) (entries clock d here) ∙ p.same;
          cut = cut-next keyed r l p.cut p.together;
          together = together-drop (prefix_len (same_key r) l) l p.together.1;
          todo =
              p.todo
              ∙ ap (λ (x : List Row). writes (page out k) (entries clock d x)) (sym (whole keyed r l p.cut p.together))
              ∙ ap (writes (page out k)) (entries-append clock d here behind)
              ∙ writes-append (page out k) (entries clock d here) (entries clock d behind)
              ∙ ap (λ (x : Page). writes x (entries clock d behind)) (sym q);
        }

  -- the same, from what the code has: the group, and the rows behind it
  pub picturing-turn : (rest : List Row) {out₀ : List ℕ} {part back : List Row} {size n : ℕ} {out new : List ℕ} {k k' : ℕ} → Picturing clock d out₀ rest out k → 0 < length rest → size ≡ group_length rest
      → part ≡ take size rest → page new k' ≡ writes (page out k) (group_shown clock d.succs part) → n ≡ length rest → back ≡ drop size (take n rest) → Picturing clock d out₀ back new k'
  picturing-turn [] p i e f w h g = absurd (omega arith)
  picturing-turn (r ∷ l) {n = n} {out = out} {k = k} p i e f w h g =
      let s = e ∙ group-is keyed r l p.cut p.together in
      let q : length (r ∷ l) ≤ n = omega arith in
      rw (g, s, take_all n (r ∷ l) q) (turn r l p (w ∙ ap (λ (x : List Row). writes (page out k) (group_shown clock d.succs x)) (f ∙ ap (λ (j : ℕ). take j (r ∷ l)) s)))

  pub picturing-smaller : (rest : List Row) {out₀ : List ℕ} {back : List Row} {size n : ℕ} {out : List ℕ} {k : ℕ} → Picturing clock d out₀ rest out k → 0 < length rest → size ≡ group_length rest
      → n ≡ length rest → back ≡ drop size (take n rest) → length back < length rest
  picturing-smaller [] p i e h g = absurd (omega arith)
  picturing-smaller (r ∷ l) {size = size} {n = n} p i e h g =
      let s = e ∙ group-is keyed r l p.cut p.together in
      omega (arith, ap length g, length-drop size (take n (r ∷ l)), length-take n (r ∷ l))

  pub picturing-end : {out₀ out : List ℕ} {rest : List Row} {k : ℕ} → Picturing clock d out₀ rest out k → rest ≡ [] → length d.rows * entry_words ≤ length out₀ → page out k ≡ shown (picture clock d) out₀
  unfolding picture seen
  picturing-end {out₀} {out} {rest} {k} p e h =
      let all = entries clock d d.rows in
      sym (p.todo ∙ ap (λ (l : List Row). writes (page out k) (entries clock d l)) e)
      ∙ writes-over out₀ all entries-wide (omega (arith, entries-few clock d d.rows))
    where
      entries-wide : Wide (entries clock d d.rows)
      entries-wide x i =
          let r = map-from (picture_entry clock d) (filter (visible clock d) d.rows) i in
          ap length r.2 ∙ picture-wide clock d r.0 (wide r.0 (filter-from (visible clock d) d.rows r.1))
