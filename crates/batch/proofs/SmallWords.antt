-- Ids, objects and tags of rows that pass check 4 leave room in a word: the code may double them and add.
use mathlib.Core.Logic.{⊎_elim}
use Prim.Native.Nat.{ℕ, ◌+◌, ◌*◌, ◌<◌}
use native.Mathlib.Omega.{arith}
use lib.Dec.{T, eqb→eq}
use Rattle.model.specs.Sizes.{max_counter, word_range}
use Rattle.model.specs.Id.{is_id, root, head}
use Rattle.model.specs.Row.{Row, id_of, object_of, named_of, on_list}
use Rattle.model.specs.Malformed.{row_fits}
use Rattle.laws.proofs.Tests.{by-test, by-eq}
use Rattle.laws.proofs.Ids.{id-high}
use Rattle.laws.proofs.RowFits.{fits, list-key, map-key}
use Rattle.batch.specs.Walk.{tag_of}

-- the one place where the limit's number counts
id-room : (i : ℕ) → T (is_id i) → i * 2 + 2 < word_range
unfolding max_counter
id-room i t = omega (arith, id-high i t)

module _ (r : Row) (t : T (row_fits r)) where
  pub small-id : id_of r * 2 + 2 < word_range
  small-id = id-room (id_of r) (fits r t).id

  pub small-object : object_of r + 1 < word_range
  small-object = ⊎_elim (λ u. let e = eqb→eq (object_of r) root u in omega arith) (λ u. let h = id-room (object_of r) u in omega arith) (fits r t).object

  pub small-tag : tag_of r < word_range
  unfolding tag_of
  small-tag =
      let f = (fits r t).insert in
      by-eq (named_of r) head (λ e. omega arith)
      (λ ne.
      by-test (on_list r)
      (λ u. let h = id-room (named_of r) ((list-key r t u).from-element ne) in omega arith)
      (λ u. let e = (map-key r t u).no-element in omega arith))
