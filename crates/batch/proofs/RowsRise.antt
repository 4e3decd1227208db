-- The rows of a well-formed document, and those of a batch that is not refused, by rank: what the walk over all objects asks of both.
use mathlib.Core.List.{List, ◌++◌, map}
use Rattle.model.specs.Basic.{sort}
use Rattle.model.specs.Row.{Op, id_of, object_of}
use Rattle.model.specs.Document.{Document, new_rows, all_rows}
use Rattle.laws.proofs.Pairs.{KeyDistinct, key-distinct-nodup}
use Rattle.laws.proofs.Sort.{Sorted, sort_sorted}
use Rattle.laws.proofs.Perms.{perm-refl, perm-append, sort-perm-self}
use Rattle.laws.proofs.Formed.{Formed}
use Rattle.laws.proofs.Accepted.{Sound}
use Rattle.laws.proofs.SubDocument.{Placed}
use Rattle.laws.proofs.Together.{new-rows-apart, all_placed, placed-perm}
use Rattle.laws.proofs.Standing.{placed}
use Rattle.laws.proofs.Passes.{rising}
use Rattle.laws.proofs.Pass.{pass-order}
use Rattle.batch.specs.Places.{Rising}
use Rattle.batch.specs.Rank.{op_before}
use Rattle.batch.proofs.OrderedRuns.{rank-order}
use Rattle.batch.proofs.Rising.{rising-by}
use Rattle.batch.proofs.RanksRise.{objects-rise}

pub rows-rise : {d : Document} → Formed d → Rising (map object_of d.rows)
rows-rise {d} f = rising-by object_of d.rows (rising d.rows ((pass-order d.rows (placed f)).1 f.ordered).next)

module _ (b : List Op) (apart : KeyDistinct id_of b) where
  pub news-sorted : Sorted op_before (sort op_before (new_rows b))
  news-sorted = let a = new-rows-apart b apart in sort_sorted op_before (new_rows b) (rank-order (new_rows b) a) (key-distinct-nodup id_of (new_rows b) a)

  pub news-rise : Rising (map object_of (sort op_before (new_rows b)))
  news-rise = objects-rise (sort op_before (new_rows b)) news-sorted

pub rows-placed : (d : Document) (b : List Op) → Formed d → Sound d b → Placed (d.rows ++ sort op_before (new_rows b))
unfolding all_rows
rows-placed d b f s = placed-perm (perm-append (perm-refl d.rows) (sort-perm-self op_before (new_rows b))) (all_placed d b f s)
