-- The walk over a list's rows, one row at a time, by the tests of the code.
use mathlib.Core.Path.{◌≡◌, refl, sym, ap, ◌∙◌}
use mathlib.Core.Bool.{Bool, true, false, ◌&&◌, ◌||◌}
use mathlib.Core.List.{List, [], ◌∷◌, ◌++◌}
use Prim.Native.Nat.{ℕ, zero, suc}
use borrow.Author.Tests.{not-true, not-false}
use lib.Dec.{ltb}
use Rattle.model.specs.Row.{Row, id_of, is_insert}
use Rattle.laws.proofs.Tests.{T_and, is_true, of-true, of-false}
use Rattle.laws.proofs.Untangle.{old, new, waiting, updates}
use Rattle.laws.proofs.UntangleWalk.{walk_rows}
use Rattle.batch.specs.Walk.{row_first, wait_first}

module _ (news : List Row) (n : ℕ) where
  pub step-keep : (u d : Row) (up st doc : List Row) → row_first u (d ∷ doc) ≡ true → walk_rows news (suc n) (u ∷ up) st (d ∷ doc) ≡ old d ∷ walk_rows news n (u ∷ up) st doc
  step-keep u d up st doc e = rw (not-true (is_insert d || ltb (id_of u) (id_of d)) e)

  pub step-update : (u : Row) (up st doc : List Row) → row_first u doc ≡ false → walk_rows news (suc n) (u ∷ up) st doc ≡ new u ∷ walk_rows news n up st doc
  step-update u up st [] e = refl
  step-update u up st (d ∷ doc) e = rw (not-false (is_insert d || ltb (id_of u) (id_of d)) e)

  pub step-place : (s : Row) (st doc : List Row) → wait_first (s ∷ st) doc ≡ true
      → walk_rows news (suc n) [] (s ∷ st) doc ≡ new s ∷ walk_rows news n (updates (id_of s) news) (waiting (id_of s) news ++ st) doc
  step-place s st [] e = refl
  step-place s st (d ∷ doc) e =
      let t = (T_and (is_insert d) (ltb (id_of d) (id_of s))).0 (of-true e) in
      rw (is_true (is_insert d) t.0, is_true (ltb (id_of d) (id_of s)) t.1)

  pub step-open : (d : Row) (st doc : List Row) → wait_first st (d ∷ doc) ≡ false → is_insert d ≡ true
      → walk_rows news (suc n) [] st (d ∷ doc) ≡ old d ∷ walk_rows news n (updates (id_of d) news) (waiting (id_of d) news ++ st) doc
  step-open d [] doc e i = rw i
  step-open d (s ∷ st) doc e i =
      let q : ltb (id_of d) (id_of s) ≡ false = sym (ap (λ (b : Bool). b && ltb (id_of d) (id_of s)) i) ∙ e in
      rw (i, q)

  pub step-pass : (d : Row) (st doc : List Row) → is_insert d ≡ false → walk_rows news (suc n) [] st (d ∷ doc) ≡ old d ∷ walk_rows news n [] st doc
  step-pass d [] doc i = rw i
  step-pass d (s ∷ st) doc i = rw i

-- nothing is left to put out where neither test finds a row
pub step-none : (news : List Row) (n : ℕ) (st : List Row) → wait_first st [] ≡ false → walk_rows news n [] st [] ≡ []
step-none news zero st e = refl
step-none news (suc n) [] e = refl
step-none news (suc n) (s ∷ st) e = absurd (of-false e)
