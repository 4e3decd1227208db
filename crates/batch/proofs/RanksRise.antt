-- Rows in the order of their ranks: objects ascend; in one list the tags do, that is the elements named, with inserts behind the rest.
use mathlib.Core.Path.{◌≡◌, refl}
use mathlib.Core.Logic.{⊎_elim}
use mathlib.Core.List.{List, [], ◌∷◌, map}
use Prim.Native.Nat.{ℕ, ◌≤◌}
use native.Mathlib.Omega.{arith}
use borrow.Author.Tests.{le-ltb, eq-eqb}
use lib.Dec.{T}
use lib.ListN.{get_or}
use Rattle.model.specs.Basic.{lex_before}
use Rattle.model.specs.Row.{Row, id_of, object_of, named_of, insert_of}
use Rattle.laws.proofs.Members.{All}
use Rattle.laws.proofs.Pairs.{pairwise-mono}
use Rattle.laws.proofs.Sort.{Sorted}
use Rattle.laws.proofs.Lex.{lex-out}
use Rattle.batch.specs.Places.{Rising}
use Rattle.batch.specs.Rank.{rank_of, op_before}
use Rattle.batch.specs.Walk.{tag_of}
use Rattle.batch.proofs.Rising.{rising-by}
use Rattle.batch.proofs.OrderedRuns.{ListRow}

rank-object : (x y : Row) → T (op_before x y) → object_of x ≤ object_of y
unfolding op_before rank_of
rank-object x y t =
    let rest : Row → List ℕ = λ r. get_or r 5 0 ∷ get_or r 6 0 ∷ get_or r 7 0 ∷ get_or r 4 0 ∷ named_of r ∷ insert_of r ∷ id_of r ∷ [] in
    ⊎_elim (λ h. omega arith) (λ w. let e = w.0 in omega arith) (lex-out (object_of x) (object_of y) (rest x) (rest y) t)

pub objects-rise : (l : List Row) → Sorted op_before l → Rising (map object_of l)
objects-rise l s = rising-by object_of l (pairwise-mono l (λ x y i j t. rank-object x y t) s)

-- ── in one list
list-rank : (o : ℕ) (r : Row) → ListRow o r → rank_of r ≡ o ∷ 0 ∷ 0 ∷ 0 ∷ 0 ∷ named_of r ∷ insert_of r ∷ id_of r ∷ []
unfolding rank_of
list-rank o r a = rw (a.here-object, a.no_word, a.no-word-2, a.no-word-3, a.no_length)

rank-tag : (o : ℕ) (x y : Row) → ListRow o x → ListRow o y → T (op_before x y) → tag_of x ≤ tag_of y
unfolding op_before tag_of
rank-tag o x y a b t =
    let l : o ≤ o = omega arith in
    let u : T (lex_before (named_of x ∷ insert_of x ∷ id_of x ∷ []) (named_of y ∷ insert_of y ∷ id_of y ∷ [])) = rw (list-rank o x a, list-rank o y b, le-ltb o o l, eq-eqb o o refl) at t in
    ⊎_elim (λ h. omega (arith, a.flag, b.flag))
    (λ w.
    let e = w.0 in
    ⊎_elim (λ h. omega arith) (λ v. let g = v.0 in omega arith) (lex-out (insert_of x) (insert_of y) (id_of x ∷ []) (id_of y ∷ []) w.1))
    (lex-out (named_of x) (named_of y) (insert_of x ∷ id_of x ∷ []) (insert_of y ∷ id_of y ∷ []) u)

pub tags-rise : (o : ℕ) (l : List Row) → All (ListRow o) l → Sorted op_before l → Rising (map tag_of l)
tags-rise o l a s = rising-by tag_of l (pairwise-mono l (λ x y i j t. rank-tag o x y (a x i) (a y j) t) s)
