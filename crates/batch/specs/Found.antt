-- The places of new pieces among old ones, both sorted: each goes before the first old one that is not before it.
use Rattle.std.specs.Prelude.{ℕ, zero, suc, ◌+◌, Bool, List, [], ◌∷◌, length, take, if◌then◌else◌}
use Rattle.model.specs.Basic.{lex_before}

module _ {A : Type 0} (lt : A → A → Bool) where
  -- k old ones have been passed; n bounds the steps, as in `merge_two`
  abbrev pub places_within : ℕ → ℕ → List A → List A → List ℕ
  places_within zero k rs ns = []
  places_within (suc n) k rs [] = []
  places_within (suc n) k [] (x ∷ ns) = k ∷ places_within n k [] ns
  places_within (suc n) k (r ∷ rs) (x ∷ ns) =
      if lt r x then places_within n (suc k) rs (x ∷ ns) else k ∷ places_within n k (r ∷ rs) ns

  unfoldable pub places_for : ℕ → List A → List A → List ℕ
  places_for k rs ns = places_within (length rs + length ns) k rs ns

-- by the first words of two pieces
unfoldable pub first_before : ℕ → List ℕ → List ℕ → Bool
first_before key a b = lex_before (take key a) (take key b)
