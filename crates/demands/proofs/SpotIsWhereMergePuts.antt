-- THEOREM spot-is-where-merge-puts: merging one insert on the spot's element, with an id above all others, puts its row at the spot's place and
-- leaves the rows around it as they were.
use mathlib.Core.Path.{◌≡◌, refl, sym, ap, ap₂, subst, ◌∙◌}
use mathlib.Core.Logic.{inl, ⊎_elim}
use mathlib.Core.Bool.{Bool, true, false, not, ◌&&◌, ◌||◌, true≢false}
use mathlib.Core.List.{List, [], ◌∷◌, ◌++◌}
use Prim.Native.Nat.{ℕ, ◌<◌}
use native.Mathlib.Omega.{arith}
use lib.ListN.{length, get_or, take, drop}
use lib.Dec.{T, T_not, not_T, eqb}
use Rattle.model.specs.Basic.{filter}
use Rattle.model.specs.Id.{head}
use Rattle.model.specs.Row.{Op, id_of, object_of, named_of, is_insert, is_delete, is_increment, row_of}
use Rattle.model.specs.Order.{preorder, before, order}
use Rattle.model.specs.Document.{Document, new_rows, all_rows, merged}
use Rattle.model.specs.Answer.{Answer, accepted, refused, is_accepted, ◌otherwise◌}
use Rattle.model.specs.Refusal.{batch_refusal}
use Rattle.model.specs.WellFormed.{well_formed}
use Rattle.model.specs.Spot.{first_place, place_after, spot_element, spot_place, spot_refusal}
use Rattle.model.specs.Calls.{document_refusal, spot_answer}
use Rattle.laws.proofs.Tests.{T_and, T-or, by-eq, is_true, is_false, eq→eqb, ne→neqb}
use Rattle.laws.proofs.Members.{here, All, append_right, on-append, on-mem, not-nil}
use Rattle.laws.proofs.RowWords.{word_of, id-of}
use Rattle.laws.proofs.RowFits.{fits}
use Rattle.laws.proofs.Accepted.{Sound, batch-accepted, refuse-accepted}
use Rattle.laws.proofs.Formed.{Formed, formed}
use Rattle.laws.proofs.SubDocument.{Placed}
use Rattle.laws.proofs.LargestInsert.{puts, first-place, after-place}
use Rattle.laws.proofs.Refers.{names}
use Rattle.laws.proofs.Standing.{placed}
use Rattle.laws.proofs.Together.{all_placed}

-- ── an insert has a row, and no other
insert-no-delete : (d : Document) (x : Op) → Sound d (x ∷ []) → T (is_insert x) → T (not (is_delete x))
insert-no-delete d x s t =
    let other = is_delete x || is_increment x in
    not_T (is_delete x) (λ u. T_not (is_insert x && other) (fits x (s.rows_fit x (here refl))).plain ((T_and (is_insert x) other).1 (t, (T-or (is_delete x) (is_increment x)).1 (inl u))))

one-row : (d : Document) (x : Op) → T (not (is_delete x)) → all_rows d (x ∷ []) ≡ d.rows ++ row_of x ∷ []
unfolding all_rows new_rows
one-row d x t = rw (is_true (not (is_delete x)) t)

-- ── the merge of one insert with the largest id
module _ (d : Document) (x : Op) (f : Formed d) (s : Sound d (x ∷ [])) (ins : T (is_insert x)) (top : All (λ r. id_of r < id_of x) d.rows) where
  w0 : id_of (row_of x) ≡ id_of x
  w0 = id-of x

  w1 : object_of (row_of x) ≡ object_of x
  w1 = word_of x 1 (omega arith)

  w3 : named_of (row_of x) ≡ named_of x
  w3 = word_of x 3 (omega arith)

  rows_are : all_rows d (x ∷ []) ≡ d.rows ++ row_of x ∷ []
  rows_are = one-row d x (insert-no-delete d x s ins)

  pa : Placed (d.rows ++ row_of x ∷ [])
  pa = subst Placed rows_are (all_placed d (x ∷ []) f s)

  y-insert : T (is_insert (row_of x))
  y-insert = rw (word_of x 8 (omega arith)) ins

  above : All (λ r. id_of r < id_of (row_of x)) d.rows
  above r m = rw w0 (top r m)

  pub where-put : (merged d (x ∷ [])).rows ≡ take (spot_place d (object_of x) (named_of x)) d.rows ++ row_of x ∷ drop (spot_place d (object_of x) (named_of x)) d.rows
  where-put = unfold merged in
      ap order rows_are
      ∙ puts d.rows (row_of x) (placed f) pa f.ordered y-insert above
      ∙ ap (λ n. take n d.rows ++ row_of x ∷ drop n d.rows) place
    where
      place : length (filter (λ r. before (preorder (d.rows ++ row_of x ∷ [])) r (row_of x)) d.rows) ≡ spot_place d (object_of x) (named_of x)
      place = unfold spot_place first_place place_after in
          by-eq (named_of x) head
          (λ e.
          rw (is_true (eqb (named_of x) head) (eq→eqb (named_of x) head e))
          (first-place d.rows (row_of x) (placed f) pa f.ordered y-insert above (w3 ∙ e) ∙ rw w1))
          (λ ne.
          rw (is_false (eqb (named_of x) head) (ne→neqb (named_of x) head ne))
          (⊎_elim (λ z. absurd (ne (sym w3 ∙ z)))
          (λ k.
          let w = k.1 in
          on-append d.rows w.1
          (λ m. after-place d.rows (row_of x) (placed f) pa f.ordered y-insert above w.0 m w.2 w.3 w.4 ∙ rw (w1, w3))
          (λ m. on-mem m (λ e. absurd (omega (arith, k.0, w.4, ap id_of e))) (λ n. absurd (not-nil n))))
          (names (d.rows ++ row_of x ∷ []) (row_of x) (pa.elements (row_of x) (append_right d.rows (here refl))))))

-- ── what an accepted answer says
accepted-then : (a b : Answer) (vs : List ℕ) → a otherwise b ≡ accepted vs → T (is_accepted a) × (b ≡ accepted vs)
accepted-then (accepted us) b vs e = (tt, e)
accepted-then (refused n p) b vs e = absurd (true≢false (sym (ap is_accepted e)))

values_of : Answer → List ℕ
values_of (accepted vs) = vs
values_of (refused n p) = []

accepted-values : (us vs : List ℕ) → accepted us ≡ accepted vs → us ≡ vs
unfolding values_of
accepted-values us vs e = ap values_of e

pub spot-is-where-merge-puts : (d : Document) (clock : List ℕ) (object target element place : ℕ) (x : Op)
    → spot_answer clock d object target ≡ accepted (element ∷ place ∷ [])
    → T (is_accepted (batch_refusal d (x ∷ []))) → T (is_insert x) → object_of x ≡ object → named_of x ≡ element → All (λ r. id_of r < id_of x) d.rows
    → (merged d (x ∷ [])).rows ≡ take place d.rows ++ row_of x ∷ drop place d.rows
unfolding spot_answer document_refusal
spot-is-where-merge-puts d clock object target element place x e a t o n top =
    let el = spot_element clock d object target in
    let found = accepted (el ∷ spot_place d object el ∷ []) in
    let one = accepted-then (document_refusal d) (spot_refusal clock d object target otherwise found) (element ∷ place ∷ []) e in
    let two = accepted-then (spot_refusal clock d object target) found (element ∷ place ∷ []) one.1 in
    let vs = accepted-values (el ∷ spot_place d object el ∷ []) (element ∷ place ∷ []) two.1 in
    let el-is : el ≡ element = ap (λ l. get_or l 0 0) vs in
    let place_is : spot_place d object el ≡ place = ap (λ l. get_or l 1 0) vs in
    let wf : T (well_formed d) = not-not (well_formed d) ((refuse-accepted 2 (not (well_formed d))).0 one.0) in
    where-put d x ((formed d).0 wf) ((batch-accepted d (x ∷ [])).0 a).1 t top
    ∙ ap (λ k. take k d.rows ++ row_of x ∷ drop k d.rows) (ap₂ (spot_place d) o (n ∙ sym el-is) ∙ place_is)
  where
    not-not : (b : Bool) → T (not (not b)) → T b
    not-not true u = tt
    not-not false u = u
