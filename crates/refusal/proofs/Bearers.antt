-- A row that bears what is asked is found where it stands.
use Prim.Native.Nat.{ℕ, zero, suc, ◌<◌}
use mathlib.Core.Path.{◌≡◌, refl, sym, ap, ◌∙◌}
use mathlib.Core.Bool.{Bool, true, false, ◌||◌}
use mathlib.Core.List.{List, [], ◌∷◌}
use native.Mathlib.Omega.{arith}
use lib.ListN.{length, get_or}
use lib.Dec.{eqb}
use Rattle.std.specs.Prelude.{Some, None, find}
use Rattle.std.specs.Option.{is_some}
use Rattle.std.proofs.lemmas.Option.{none-some, same_Some}
use Rattle.model.specs.Basic.{any}
use Rattle.model.specs.Row.{Row, Op, row_of}
use Rattle.laws.proofs.Tests.{or-true, by-test, is_true, is_false, eqb-sym}
use Rattle.laws.proofs.RowWords.{id-of}
use Rattle.ids.specs.Words.{starts_with}
use Rattle.refusal.specs.TakenIds.{has_word, word_in}
use Rattle.refusal.specs.Bearing.{bears, bearing, bearer_in, op_bears}

at : {A : Type 0} (p : A → Bool) (d : A) (l : List A) (i : ℕ) → i < length l → p (get_or l i d) ≡ true → any p l ≡ true
at p d [] i h e = absurd (omega arith)
at p d (x ∷ l) zero h e = rw e
at p d (x ∷ l) (suc i) h e = ap (λ b. p x || b) (at p d l i (omega arith) e) ∙ or-true (p x)

pub bearer_at : (number : ℕ) (x : Row) (id : ℕ) (rs : List Row) (i : ℕ) → i < length rs → bearing number x id (get_or rs i []) ≡ true → true ≡ bearer_in number x id rs
unfolding bearer_in
bearer_at number x id rs i h e = sym (at (bearing number x id) [] rs i h e)

-- the first operation with an id, which is its first word: it bears what is asked, or there is none
module _ (number : ℕ) (x : Row) (id : ℕ) where
  pub first_bears : (b : List Op) {o : Op} → find (starts_with id) b ≡ Some o → bears number (row_of o) x ≡ true → true ≡ op_bears number x id b
  unfolding bearing
  first_bears [] {o} e t = absurd (none-some o e)
  first_bears (q ∷ b) {o} e t =
      by-test (eqb (get_or q 0 0) id)
      (λ u.
      let s : Some q ≡ Some o = rw (is_true (eqb (get_or q 0 0) id) u) at e in
      rw (id-of q, is_true (eqb (get_or q 0 0) id) u, ap (λ p. bears number (row_of p) x) (same_Some q o s) ∙ t))
      (λ u.
      let s : find (starts_with id) b ≡ Some o = rw (is_false (eqb (get_or q 0 0) id) u) at e in
      first_bears b s t ∙ sym (rw (id-of q, is_false (eqb (get_or q 0 0) id) u)))

  pub none-bears : (b : List Op) → find (starts_with id) b ≡ None → false ≡ op_bears number x id b
  unfolding bearing
  none-bears [] e = refl
  none-bears (q ∷ b) e =
      by-test (eqb (get_or q 0 0) id)
      (λ u. absurd (none-some q (sym (rw (is_true (eqb (get_or q 0 0) id) u) at e))))
      (λ u. rw (id-of q, is_false (eqb (get_or q 0 0) id) u) (none-bears b (rw (is_false (eqb (get_or q 0 0) id) u) at e)))

-- whether there is one
pub some-with : (id : ℕ) (b : List Op) → is_some (find (starts_with id) b) ≡ word_in 0 id b
unfolding word_in has_word
some-with id [] = refl
some-with id (q ∷ b) =
    by-test (eqb (get_or q 0 0) id)
    (λ u. rw (eqb-sym id (get_or q 0 0), is_true (eqb (get_or q 0 0) id) u))
    (λ u. rw (eqb-sym id (get_or q 0 0), is_false (eqb (get_or q 0 0) id) u) (some-with id b))
