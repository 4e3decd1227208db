-- The walk of a list as its code holds it: what is asked, the state, what waits, and what comes out.
use Rattle.std.specs.Prelude.{ℕ, ◌+◌, ◌-◌, Bool, ◌≡◌, List, map, length}
use Rattle.model.specs.Row.{object_of}
use Rattle.laws.proofs.Members.{All, Mem}
use Rattle.laws.proofs.Placing.{news_in, places_in}
use Rattle.batch.specs.Walk.{wait_first, stacked, rows_at, doc_from, new_rows_of, list_out, Listed, Walking}
use Rattle.batch.specs.Groups.{Grouped, Grouping}
use Rattle.batch.specs.declared.walk_doc.NewRows.{NewRows}
use Rattle.batch.specs.declared.walk_list.Cursor.{Cursor}
use Rattle.batch.specs.declared.walk_list.List as Lists

abbrev pub Sound : Lists.List → Type 0
Sound l = Listed l.rows.now l.a l.z l.ops.now l.group.now l.tags.now

abbrev pub At : Lists.List → (stack order places : List ℕ) → Cursor → Type 0
At l stack order places at = Walking l.rows.now l.a l.z l.ops.now l.group.now stack order places at

-- does what waits on top go before row d?
abbrev pub waits : Lists.List → List ℕ → ℕ → ℕ → Bool
waits l stack depth d = wait_first (rows_at (new_rows_of l.ops.now l.group.now) (stacked stack depth)) (doc_from l.rows.now l.z d)

-- how many rows are still to come
abbrev pub left : Lists.List → Cursor → ℕ
left l at = length l.group.now - at.out + (l.z - at.row)

abbrev pub Walked : Lists.List → (order places : List ℕ) → Type 0
Walked l order places =
    (news_in (list_out (new_rows_of l.ops.now l.group.now) (doc_from l.rows.now l.z l.a)) ≡ new_rows_of l.ops.now order)
    × (places_in l.a (list_out (new_rows_of l.ops.now l.group.now) (doc_from l.rows.now l.z l.a)) ≡ places)
    × All (λ x. Mem x l.group.now) order

-- ── the walk of all objects
abbrev pub Told : NewRows → Type 0
Told d = Grouped d.rows.now d.n d.ops.now d.sorted.now × (d.objects.now ≡ map object_of (new_rows_of d.ops.now d.sorted.now))

abbrev pub Between : NewRows → (order places : List ℕ) → ℕ → Type 0
Between d order places lo = Grouping d.rows.now d.n d.ops.now d.sorted.now order places lo
