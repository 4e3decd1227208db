-- Rows of a slice that pass check 4 are of one object and key exactly where their words say so.
use Prim.Native.Nat.{ℕ, suc, ◌+◌, ◌*◌, ◌<◌, ◌≤◌}
use mathlib.Core.Path.{◌≡◌}
use mathlib.Core.Bool.{not}
use mathlib.Core.List.{List, [], ◌∷◌}
use native.Mathlib.Omega.{arith}
use lib.Dec.{T}
use lib.ListN.{length, get_or, take, drop}
use Rattle.model.specs.Sizes.{word_range, row_words}
use Rattle.model.specs.Row.{Row, on_list}
use Rattle.model.specs.Key.{same_key}
use Rattle.model.specs.Malformed.{row_fits}
use Rattle.laws.proofs.Members.{All, on-mem, not-nil}
use Rattle.laws.proofs.RowFits.{fits, map-key-fits}
use Rattle.laws.proofs.Keys.{Keyed, keyed}
use Rattle.ids.specs.Words.{row_in, same_words}
use Rattle.ids.proofs.KeyWords.{Whole, same-words}
use Rattle.ids.proofs.ByIndex.{whole_at, whole_row}

-- a row whose words may be trusted
pub record Plain (r : Row) : Type 0 where
  pub whole : Whole r
  pub fit : T (row_fits r)

pub one_key : (a b : Row) → Plain a → Plain b → same_words a b ≡ same_key a b
one_key a b j k = same-words a b j.whole k.whole (fits a j.fit).key (fits b k.fit).key

-- its map key, as the laws of keys ask it
small : (l : List ℕ) → ((j : ℕ) → get_or l j 0 < word_range) → All (λ w. w < word_range) l
small [] h w m = absurd (not-nil m)
small (x ∷ l) h w m = on-mem m (λ e. rw e (h 0)) (small l (λ j. h (suc j)) w)

pub map-keyed : (r : Row) → Plain r → T (not (on_list r)) → Keyed r
map-keyed r p t =
    let w = p.whole in
    keyed r (omega (arith, w.wide)) (small r w.range) (map-key-fits r p.fit t)

-- ---- the rows of a slice

pub row_plain : (xs : List ℕ) (at : ℕ) → ((j : ℕ) → get_or xs j 0 < word_range) → at + row_words ≤ length xs → T (row_fits (take row_words (drop at xs)))
    → Plain (take row_words (drop at xs))
row_plain xs at h l t = record { whole = whole_at xs at l h; fit = t }

-- row i of a table
pub row-in-plain : (n : ℕ) (rows : List ℕ) (i : ℕ) → ((j : ℕ) → get_or rows j 0 < word_range) → n * row_words ≤ length rows → i < n → T (row_fits (row_in rows i))
    → Plain (row_in rows i)
row-in-plain n rows i h l k t = record { whole = whole_row rows i (omega arith) h; fit = t }
