-- How two ids stand to each other (01, "What is merged": "Ids compare by counter, then actor").
use Rattle.std.specs.Prelude.{ℕ, Bool, ◌&&◌, ◌||◌, ltb, eqb, if◌then◌else◌}
use Rattle.model.specs.Id.{counter, actor}
use Rattle.std.specs.declared.cmp.Ordering.{Ordering}
use Rattle.std.specs.declared.cmp.Ordering.TheVariants.{Less, Equal, Greater}

abbrev pub id_before : ℕ → ℕ → Bool
id_before a b = ltb (counter a) (counter b) || eqb (counter a) (counter b) && ltb (actor a) (actor b)

unfoldable pub compared : ℕ → ℕ → Ordering
compared a b = if id_before a b then Less else if id_before b a then Greater else Equal
