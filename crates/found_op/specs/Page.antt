-- The picture as it is written: the words of the output, and how many entries stand in it.
use Rattle.std.specs.Prelude.{ℕ, ◌+◌, ◌*◌, List, [], ◌∷◌, length}
use Rattle.std.proofs.lemmas.List.Edits.{sets}
use Rattle.model.specs.Sizes.{entry_words}
use Rattle.model.specs.Calls.{over}

pub record Page : Type 0 where
  pub out : List ℕ
  pub count : ℕ

abbrev pub page : List ℕ → ℕ → Page
page out count = record { out = out; count = count }

-- the page with these entries, and what the output had behind them
abbrev pub shown : List (List ℕ) → List ℕ → Page
shown es out = page (over out es) (length es)

abbrev pub writes : Page → List (List ℕ) → Page
writes p [] = p
writes p (e ∷ es) = writes (page (sets p.out (p.count * entry_words) e) (p.count + 1)) es
