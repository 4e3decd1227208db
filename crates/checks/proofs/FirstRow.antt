-- A row is found by its index; and where row ids differ, the rows with an id are the one that is found.
use Prim.Native.Nat.{ℕ}
use mathlib.Core.Path.{◌≡◌, refl, sym, ap, ◌∙◌}
use mathlib.Core.Bool.{not}
use mathlib.Core.List.{List, [], ◌∷◌}
use borrow.Author.Tests.{lt-ltb, le-ltb}
use lib.ListN.{length, get_or}
use lib.Dec.{T, eqb, eqb→eq}
use Rattle.model.specs.Row.{Row, id_of, rows_with}
use Rattle.laws.proofs.Tests.{by-test, by_order, is_true, is_false, ne→neqb}
use Rattle.laws.proofs.Members.{All, filter_none}
use Rattle.laws.proofs.RowOrder.{Apart}
use Rattle.std.specs.Prelude.{Bool, find, position, option_map}
use Rattle.std.specs.List.{position_or_len}
use Rattle.std.proofs.lemmas.List.Folds.{find_at}
use Rattle.std.proofs.lemmas.Option.{slice_get-get_or, slice_get_past}
use Rattle.checks.specs.Find.{has_id, first_row, found}
use Rattle.checks.specs.Refers.{found_rows}

pub rows_with_found : (id : ℕ) (l : List Row) → Apart l → rows_with l id ≡ found_rows (found l id)
unfolding found
rows_with_found id [] a = refl
rows_with_found id (x ∷ l) a =
    by-test (eqb (id_of x) id)
    (λ t.
    let none : All (λ y. T (not (eqb (id_of y) id))) l = λ y m. ne→neqb (id_of y) id (λ e. a.0 y m (eqb→eq (id_of x) id t ∙ sym e)) in
    rw (is_true (eqb (id_of x) id) t) (ap (λ k. x ∷ k) (filter_none (λ y. eqb (id_of y) id) l none)))
    (λ t. rw (is_false (eqb (id_of x) id) t) (rows_with_found id l a.1))

by_index : {A : Type 0} (p : A → Bool) (d : A) (l : List A) → find p l ≡ option_map (λ i. get_or l i d) (position p l)
by_index p d l =
    by_order (position_or_len p l) (length l)
    (λ h. rw (lt-ltb (position_or_len p l) (length l) h) (find_at p l ∙ slice_get-get_or l (position_or_len p l) d h))
    (λ h. rw (le-ltb (position_or_len p l) (length l) h) (find_at p l ∙ slice_get_past l (position_or_len p l) h))

pub found_is : (l : List Row) (id : ℕ) → found l id ≡ option_map (λ i. get_or l i []) (first_row l id)
unfolding found first_row
found_is l id = by_index (has_id id) [] l

-- by its index
pub found_row : (id : ℕ) (l : List Row) → Apart l → rows_with l id ≡ found_rows (option_map (λ i. get_or l i []) (first_row l id))
found_row id l a = rows_with_found id l a ∙ ap found_rows (found_is l id)
