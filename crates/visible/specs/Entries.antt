-- Searches in the table of successors, a list of entries.
use Rattle.std.specs.Prelude.{ℕ, zero, suc, ◌+◌, ◌-◌, ◌/◌, List, [], ltb, eqb, get_or, if◌then◌else◌}
use Rattle.std.specs.List.{prefix_len}
use Rattle.model.specs.Row.{Succ, owner_of}

-- Entries low .. high halved, n times at most, to where a row's id is not below this one.
unfoldable pub narrowed : ℕ → ℕ → List Succ → ℕ → ℕ → ℕ
narrowed zero id succs low high = low
narrowed (suc n) id succs low high =
    if ltb low high
    then if ltb (owner_of (get_or succs (low + (high - low) / 2) [])) id
    then narrowed n id succs (low + (high - low) / 2 + 1) high
    else narrowed n id succs low (low + (high - low) / 2)
    else low

-- how many entries at the start are the row's with this id
unfoldable pub run : ℕ → List Succ → ℕ
run id succs = prefix_len (λ s. eqb (owner_of s) id) succs
