-- Ids that differ, row by row, and what it gives to later rules.
use mathlib.Core.Path.{◌≡◌, sym, ◌∙◌}
use mathlib.Core.Bool.{true, false}
use mathlib.Core.List.{List, [], ◌∷◌, map}
use Rattle.model.specs.Basic.{any, distinct}
use Rattle.model.specs.Row.{Row, id_of}
use Rattle.model.specs.WellFormed.{ids_differ}
use Rattle.laws.proofs.Tests.{of-true}
use Rattle.laws.proofs.Pairs.{distinct-nodup, key-distinct-map}
use Rattle.checks.specs.Find.{has_id}
use Rattle.wellformed.specs.Checked.{Differing}
use Rattle.wellformed.specs.Document.{document_of}
use Rattle.wellformed.proofs.Lists.{member-by}

-- the ids that are left to look at
pub record Differs (rows rest : List Row) : Type 0 where
  pub same : ids_differ (document_of rows []) ≡ distinct (map id_of rest)

module _ {rows : List Row} {r : Row} {rest : List Row} (s : Differs rows (r ∷ rest)) where
  pub differ-again : any (has_id (id_of r)) rest ≡ true → false ≡ ids_differ (document_of rows [])
  differ-again e = sym (s.same ∙ rw (member-by id_of (id_of r) rest, e))

  pub differ_new : any (has_id (id_of r)) rest ≡ false → Differs rows rest
  differ_new e = record { same = s.same ∙ rw (member-by id_of (id_of r) rest, e) }

pub differ-start : (rows : List Row) → Differs rows rows
unfolding ids_differ
differ-start rows = record { same = mathlib.Core.Path.refl }

pub differing : (rows : List Row) → ids_differ (document_of rows []) ≡ true → Differing rows
unfolding ids_differ
differing rows e =
    record { apart = (key-distinct-map id_of rows).1 ((distinct-nodup (map id_of rows)).0 (of-true e)) }
