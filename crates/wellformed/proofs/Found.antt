-- Rules that speak of the rows with an id, decided by the row that is found.
use Prim.Native.Nat.{ℕ}
use mathlib.Core.Path.{◌≡◌, refl, sym, ap, subst, ◌∙◌}
use mathlib.Core.Bool.{Bool, true, ◌&&◌}
use mathlib.Core.List.{List}
use Rattle.std.specs.Prelude.{Option, Some, None}
use Rattle.model.specs.Row.{Row, rows_with}
use Rattle.model.specs.Key.{same_key}
use Rattle.laws.proofs.Members.{Mem, here, All}
use Rattle.laws.proofs.RowWords.{with-from}
use Rattle.laws.proofs.Tests.{and-true}
use Rattle.ids.specs.Words.{same_words}
use Rattle.checks.specs.Find.{found}
use Rattle.checks.specs.Refers.{found_rows}
use Rattle.checks.proofs.FirstRow.{rows_with_found}
use Rattle.checks.proofs.OneKey.{Plain, one_key}
use Rattle.wellformed.specs.Checked.{Differing, Checked}
use Rattle.wellformed.specs.Rules.{one_key_of}

pub found_with : (rs : List Row) → Differing rs → (id : ℕ) {f : Option Row} → f ≡ found rs id → found_rows f ≡ rows_with rs id
found_with rs d id e = ap found_rows e ∙ sym (rows_with_found id rs d.apart)

pub found_plain : (rs : List Row) → Checked rs → (id : ℕ) {f : Option Row} → f ≡ found rs id → All Plain (found_rows f)
found_plain rs s id {f} e r m = s.plain r (with-from rs id (subst (λ l. Mem r l) (found_with rs s.differing id e) m)).0

-- the rows with two ids
module _ (rs : List Row) (i j : ℕ) {f : Option Row} (e : found_rows f ≡ rows_with rs i) where
  pub key-no-first : f ≡ None → true ≡ one_key_of rs i j
  unfolding one_key_of
  key-no-first h = rw (← e, h)

  module _ {g : Option Row} (q : found_rows g ≡ rows_with rs j) {a : Row} (h : f ≡ Some a) where
    pub key-no-second : g ≡ None → true ≡ one_key_of rs i j
    unfolding one_key_of
    key-no-second l = rw (← e, h, ← q, l)

    pub key-both : All Plain (found_rows f) → All Plain (found_rows g) → {b : Row} {t : Bool} → g ≡ Some b → t ≡ same_words a b → t ≡ one_key_of rs i j
    unfolding one_key_of
    key-both m n {b} l t =
        t
        ∙ one_key a b (subst (λ o. All Plain (found_rows o)) h m a (here refl)) (subst (λ o. All Plain (found_rows o)) l n b (here refl))
        ∙ sym (rw (← e, h, ← q, l) (and-true (same_key a b && true) ∙ and-true (same_key a b)))
