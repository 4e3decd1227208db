-- The rows of document and batch that have an id and bear what a check asks are those that the code finds, rows first, then operations.
use Prim.Native.Nat.{ℕ}
use mathlib.Core.Path.{◌≡◌, refl, ap, ◌∙◌}
use mathlib.Core.Bool.{Bool, false, ◌&&◌, ◌||◌}
use mathlib.Core.List.{List, [], ◌∷◌, ◌++◌, map}
use lib.Dec.{T, eqb}
use Rattle.model.specs.Basic.{any}
use Rattle.model.specs.Row.{Row, Op, id_of, is_delete, rows_with, row_of}
use Rattle.model.specs.Document.{new_rows}
use Rattle.laws.proofs.Tests.{by-test, is_true, is_false, and-false}
use Rattle.laws.proofs.Members.{All, here, there, any_append}
use Rattle.refusal.specs.Bearing.{bears, bearing, bearer_in}

pub any-map : {A B : Type 0} (p : B → Bool) (f : A → B) (l : List A) → any p (map f l) ≡ any (λ x. p (f x)) l
any-map p f [] = refl
any-map p f (x ∷ l) = ap (λ (v : Bool). p (f x) || v) (any-map p f l)

-- those with an id
with-id : (q : Row → Bool) (id : ℕ) (l : List Row) → any q (rows_with l id) ≡ any (λ r. eqb (id_of r) id && q r) l
with-id q id [] = refl
with-id q id (r ∷ l) =
    let rest = with-id q id l in
    by-test (eqb (id_of r) id) (λ t. rw (is_true (eqb (id_of r) id) t, rest)) (λ t. rw (is_false (eqb (id_of r) id) t, rest))

-- those of a batch, where no Delete passes
of-batch : (q : Row → Bool) (b : List Op) → All (λ o. T (is_delete o) → q (row_of o) ≡ false) b → any q (new_rows b) ≡ any (λ o. q (row_of o)) b
unfolding new_rows
of-batch q [] h = refl
of-batch q (o ∷ b) h =
    let rest = of-batch q b (λ x m. h x (there m)) in
    by-test (is_delete o)
    (λ t. rw (is_true (is_delete o) t, h o (here refl) t) rest)
    (λ t. rw (is_false (is_delete o) t) (ap (λ (v : Bool). q (row_of o) || v) rest))

pub among : (number : ℕ) (x : Row) (id : ℕ) (rs : List Row) (b : List Op) → All (λ o. T (is_delete o) → bears number (row_of o) x ≡ false) b
    → any (λ r. bears number r x) (rows_with (rs ++ new_rows b) id) ≡ (bearer_in number x id rs || any (λ o. bearing number x id (row_of o)) b)
unfolding bearer_in bearing
among number x id rs b none =
    let q : Row → Bool = λ r. eqb (id_of r) id && bears number r x in
    with-id (λ r. bears number r x) id (rs ++ new_rows b)
    ∙ any_append q rs (new_rows b)
    ∙ ap (λ (v : Bool). any q rs || v)
    (of-batch q b (λ o m t. ap (λ (v : Bool). eqb (id_of (row_of o)) id && v) (none o m t) ∙ and-false (eqb (id_of (row_of o)) id)))
