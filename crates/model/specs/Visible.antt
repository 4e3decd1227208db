-- What is visible under a clock, and a counter's total (01, "The rules", Visible).
use Rattle.std.specs.Prelude.{ℕ, suc, ◌-◌, ◌/◌, Bool, ◌&&◌, List, [], ◌∷◌, ltb, eqb, ℤ, pos, negsuc, ◌+ℤ◌, if◌then◌else◌}
use Rattle.std.specs.Int.Signed.{le_z}
use Rattle.model.specs.Basic.{all, filter}
use Rattle.model.specs.Sizes.{word_range}
use Rattle.model.specs.Id.{covered}
use Rattle.model.specs.Row.{Row, Succ, id_of, value_of, is_set_or_make, owner_of, succ_of, carries, carried_of}
use Rattle.model.specs.Document.{Document}

-- a row's covered successors
unfoldable pub covered_succs : List ℕ → Document → Row → List Succ
covered_succs clock d r = filter (λ s. eqb (owner_of s) (id_of r) && covered clock (succ_of s)) d.succs

-- "A row is visible if it is Set or Make, its id is covered, and no covered successor lacks an increment."
unfoldable pub visible : List ℕ → Document → Row → Bool
visible clock d r = is_set_or_make r && covered clock (id_of r) && all carries (covered_succs clock d r)

-- 64 bits as a signed number, a signed number as 64 bits, and whether they are enough
abbrev pub half : ℕ
half = word_range / 2

abbrev pub signed : ℕ → ℤ
signed w = if ltb w half then pos w else negsuc (word_range - suc w)

abbrev pub word : ℤ → ℕ
word (pos n) = n
word (negsuc n) = word_range - suc n

abbrev pub fits : ℤ → Bool
fits z = le_z (negsuc (half - 1)) z && le_z z (pos (half - 1))

-- the exact sum of increments: no partial sum is out of range here
abbrev pub sum : List Succ → ℤ
sum [] = pos 0
sum (s ∷ ss) = signed (carried_of s) +ℤ sum ss

-- "A visible counter shows its value plus the exact sum of its covered increments"
unfoldable pub total : List ℕ → Document → Row → ℤ
total clock d r = signed (value_of r) +ℤ sum (covered_succs clock d r)
