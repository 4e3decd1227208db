-- An entry, beside the definition's.
use mathlib.Core.Path.{◌≡◌, refl}
use mathlib.Core.Bool.{cond}
use mathlib.Core.List.{List, [], ◌∷◌}
use Prim.Native.Nat.{ℕ}
use lib.ListN.{length}
use Rattle.std.proofs.Common.{Result}
use Rattle.model.specs.Sizes.{row_words, entry_words}
use Rattle.model.specs.Row.{Row}
use Rattle.model.specs.Document.{Document}
use Rattle.model.specs.Visible.{visible}
use Rattle.model.specs.Picture.{rivals, wins, in_conflict, outgrown, shown_value, picture_entry}
use Rattle.laws.proofs.Tests.{by-test, is_true, is_false}
use Rattle.ids.proofs.KeyWords.{key-words}
use Rattle.visible.specs.declared.sum.Outgrown.{Outgrown}
use Rattle.visible.specs.Scoped.{scoped}
use Rattle.found_op.specs.declared.group.Found.{Found}
use Rattle.found_op.specs.Entry.{entry_of}
use Rattle.found_op.specs.Group.{found_in, entries_of}

pub length-entry : (r : Row) (f : Found) (s : Result ℕ Outgrown) → length (entry_of r f s) ≡ entry_words
unfolding entry_of
length-entry r f s = refl

module _ (clock : List ℕ) (d : Document) (r : Row) (wide : length r ≡ row_words) where
  pub picture-wide : length (picture_entry clock d r) ≡ entry_words
  unfolding picture_entry
  picture-wide = rw (key-words r wide)

  -- what a row shows, in the group of its rivals
  pub shown-entries : (vs : List Row) → rivals clock d r ≡ vs → entries_of (found_in vs) r (scoped clock d r) ≡ cond (visible clock d r) (picture_entry clock d r ∷ []) []
  unfolding scoped picture_entry wins in_conflict shown_value entry_of
  shown-entries vs q =
      by-test (visible clock d r)
      (λ t. by-test (outgrown clock d r)
      (λ u. rw (is_true (visible clock d r) t, is_true (outgrown clock d r) u, q, key-words r wide))
      (λ u. rw (is_true (visible clock d r) t, is_false (outgrown clock d r) u, q, key-words r wide)))
      (λ t. rw (is_false (visible clock d r) t))
