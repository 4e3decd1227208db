-- Rows in the order of their ranks, where their ids differ: it is strict. In one list the rows that name an element stand as the Untangler
-- wants them: first its updates, ascending, then its inserts, of which the last waits on top.
use mathlib.Core.Path.{◌≡◌, refl, sym, ap, ◌∙◌}
use mathlib.Core.Logic.{◌⊎◌, inl, inr, ⊎_elim, ◌↔◌}
use mathlib.Core.Bool.{Bool, true, false, not, ◌&&◌, ◌||◌}
use mathlib.Core.List.{List, [], ◌∷◌, ◌++◌, reverse, reverse_aux}
use Prim.Native.Nat.{ℕ, ◌≤◌}
use native.Mathlib.Omega.{arith}
use borrow.Author.Tests.{le-ltb, eq-eqb}
use lib.Dec.{T, T_not, ltb, eqb, eqb→eq}
use lib.ListN.{get_or}
use Rattle.model.specs.Basic.{filter, insert, sort, lex_before}
use Rattle.model.specs.Row.{Row, id_of, object_of, named_of, insert_of, is_insert}
use Rattle.laws.proofs.Tests.{T_and, by-test, is_true, is_false, neqb→ne}
use Rattle.laws.proofs.Members.{Mem, here, there, All, not-nil, on-mem, filter-from, filter_passes}
use Rattle.laws.proofs.Pairs.{Pairwise, NoDup, one_key, pairwise-mono, filter-pairwise}
use Rattle.laws.proofs.Sort.{OrderOn, Sorted, sort-from, sort-in, sort-unique, sort_sorted, sort-ext, sort-filter}
use Rattle.laws.proofs.Lex.{StrictTotal, ltb-strict, lex-strict, order-by}
use Rattle.laws.proofs.RowOrder.{Apart, falling}
use Rattle.laws.proofs.Untangle.{rises, falls, updates, waiting}
use Rattle.batch.specs.Rank.{rank_of, op_before, op_at_most}

-- ── strict
apart-nodup : (l : List Row) → Apart l → NoDup l
apart-nodup l d = pairwise-mono l (λ x y i j ne e. ne (ap id_of e)) d

rank-id : (x y : Row) → rank_of x ≡ rank_of y → id_of x ≡ id_of y
unfolding rank_of
rank-id x y e = ap (λ (w : List ℕ). get_or w 7 0) e

pub rank-order : (l : List Row) → Apart l → OrderOn op_before l
unfolding op_before
rank-order l d = order-by lex_before lex-strict rank_of l (λ x y m n e. one_key id_of l d x y m n (rank-id x y e))

module _ {A : Type 0} (le lt : A → A → Bool) where
  insert-on : (x : A) (l : List A) → All (λ y. le x y ≡ lt x y) l → insert le x l ≡ insert lt x l
  insert-on x [] h = refl
  insert-on x (y ∷ l) h = rw (h y (here refl), insert-on x l (λ z m. h z (there m)))

  pub sort-on : (l : List A) → Pairwise (λ x y. le x y ≡ lt x y) l → sort le l ≡ sort lt l
  sort-on [] p = refl
  sort-on (x ∷ l) p = ap (insert le x) (sort-on l p.1) ∙ insert-on x (sort lt l) (λ y m. p.0 y (sort-from lt l m))

rank-differs : (x y : Row) → (id_of x ≡ id_of y → ⊥) → op_at_most x y ≡ op_before x y
unfolding op_at_most op_before
rank-differs x y ne =
    let s = lex-strict in
    let a = rank_of x in
    let b = rank_of y in
    by-test (lex_before a b)
    (λ t. by-test (lex_before b a) (λ u. absurd (s.irreflexive a (s.transitive a b a t u))) (λ u. rw (is_true (lex_before a b) t, is_false (lex_before b a) u)))
    (λ t. ⊎_elim (λ u. absurd (T_not (lex_before a b) t u)) (λ u. rw (is_false (lex_before a b) t, is_true (lex_before b a) u)) (s.total a b (λ e. ne (rank-id x y e))))

pub rank-strict : (l : List Row) → Apart l → sort op_at_most l ≡ sort op_before l
rank-strict l d = sort-on op_at_most op_before l (pairwise-mono l (λ x y i j ne. rank-differs x y ne) d)

-- ── rows of list o: they have no key words, and the insert flag is one
pub record ListRow (o : ℕ) (r : Row) : Type 0 where
  pub here-object : object_of r ≡ o
  pub no_length : get_or r 4 0 ≡ 0
  pub no_word : get_or r 5 0 ≡ 0
  pub no-word-2 : get_or r 6 0 ≡ 0
  pub no-word-3 : get_or r 7 0 ≡ 0
  pub flag : insert_of r ≤ 1

lex-prefix : (p us vs : List ℕ) → lex_before (p ++ us) (p ++ vs) ≡ lex_before us vs
lex-prefix [] us vs = refl
lex-prefix (a ∷ p) us vs =
    let l : a ≤ a = omega arith in
    rw (le-ltb a a l, eq-eqb a a refl) (lex-prefix p us vs)

lex-one : (a b : ℕ) → lex_before (a ∷ []) (b ∷ []) ≡ ltb a b
lex-one a b = last (ltb a b) (eqb a b)
  where
    last : (l e : Bool) → l || e && false ≡ l
    last true e = refl
    last false true = refl
    last false false = refl

-- those that name one element, and are inserts or none: by id
by-id : (o : ℕ) (x y : Row) → ListRow o x → ListRow o y → named_of x ≡ named_of y → insert_of x ≡ insert_of y → op_before x y ≡ ltb (id_of x) (id_of y)
unfolding op_before rank_of
by-id o x y a b n i =
    let first : List ℕ = object_of x ∷ get_or x 5 0 ∷ get_or x 6 0 ∷ get_or x 7 0 ∷ get_or x 4 0 ∷ named_of x ∷ insert_of x ∷ [] in
    let r : rank_of y ≡ first ++ id_of y ∷ [] =
    rw (
      b.here-object ∙ sym a.here-object,
      b.no_word ∙ sym a.no_word,
      b.no-word-2 ∙ sym a.no-word-2,
      b.no-word-3 ∙ sym a.no-word-3,
      b.no_length ∙ sym a.no_length,
      sym n,
      sym i,
    ) in
    ap (lex_before (first ++ id_of x ∷ [])) r ∙ lex-prefix first (id_of x ∷ []) (id_of y ∷ []) ∙ lex-one (id_of x) (id_of y)

-- ── a run that is pushed on a stack, one after the other, lies there the other way round
pushed-in : {x : Row} (l st : List Row) → Mem x (reverse_aux l st) ↔ (Mem x l ⊎ Mem x st)
pushed-in [] st = (inr, ⊎_elim (λ m. absurd (not-nil m)) (λ m. m))
pushed-in (a ∷ l) st =
    let r = pushed-in l (a ∷ st) in (
      λ m. ⊎_elim (λ i. inl (there i)) (λ i. on-mem i (λ e. inl (here e)) inr) (r.0 m),
      ⊎_elim (λ i. on-mem i (λ e. r.1 (inr (here e))) (λ k. r.1 (inl k))) (λ i. r.1 (inr (there i))),
    )

pushed-falls : (l st : List Row) → Sorted rises l → Sorted falls st → ((x y : Row) → Mem x l → Mem y st → T (falls x y)) → Sorted falls (reverse_aux l st)
pushed-falls [] st s u h = u
pushed-falls (a ∷ l) st s u h =
    pushed-falls l (a ∷ st) s.1 (λ y m. h a y (here refl) m, u) (λ x y i j. on-mem j (λ e. rw e (s.0 x i)) (h x y (there i)))

id-order : (lt : ℕ → ℕ → Bool) → StrictTotal lt → (l : List Row) → Apart l → OrderOn (λ x y. lt (id_of x) (id_of y)) l
id-order lt s l d = order-by lt s id_of l (one_key id_of l d)

falls-reverse : (l : List Row) → Apart l → reverse (sort rises l) ≡ sort falls l
falls-reverse l d =
    sort-unique falls l (reverse (sort rises l)) (id-order (λ a b. ltb b a) falling l d) (apart-nodup l d)
    (λ x. (λ m. ⊎_elim (sort-from rises l) (λ i. absurd (not-nil i)) ((pushed-in (sort rises l) []).0 m), λ m. (pushed-in (sort rises l) []).1 (inl (sort-in rises l m))))
    (pushed-falls (sort rises l) [] (sort_sorted rises l (id-order ltb ltb-strict l d) (apart-nodup l d)) tt (λ x y i j. absurd (not-nil j)))

module _ (o e : ℕ) (l : List Row) (d : Apart l) (rows : All (ListRow o) l) where
  -- a run: rows of the sorted list that pass a test which settles the element named and the insert flag
  run : (p : Row → Bool) → ((x y : Row) → Mem x l → Mem y l → T (p x) → T (p y) → (named_of x ≡ named_of y) × (insert_of x ≡ insert_of y)) → filter p (sort op_before l) ≡ sort rises (filter p l)
  run p h =
      sort-filter op_before p l (rank-order l d) (apart-nodup l d)
      ∙ sort-ext op_before rises (filter p l)
      (λ x y i j.
      let m = filter-from p l i in
      let n = filter-from p l j in
      let s = h x y m n (filter_passes p l i) (filter_passes p l j) in
      by-id o x y (rows x m) (rows y n) s.0 s.1)

  settled : (f : Row → Bool) → ((x y : Row) → Mem x l → Mem y l → T (f x) → T (f y) → insert_of x ≡ insert_of y)
      → (x y : Row) → Mem x l → Mem y l → T (f x && eqb (named_of x) e) → T (f y && eqb (named_of y) e) → (named_of x ≡ named_of y) × (insert_of x ≡ insert_of y)
  settled f h x y m n t u =
      let a = (T_and (f x) (eqb (named_of x) e)).0 t in
      let b = (T_and (f y) (eqb (named_of y) e)).0 u in
      (eqb→eq (named_of x) e a.1 ∙ sym (eqb→eq (named_of y) e b.1), h x y m n a.0 b.0)

  pub run-updates : filter (λ r. not (is_insert r) && eqb (named_of r) e) (sort op_before l) ≡ updates e l
  unfolding updates
  run-updates =
      run (λ r. not (is_insert r) && eqb (named_of r) e)
      (settled (λ r. not (is_insert r)) (λ x y m n t u.
      let a = neqb→ne (insert_of x) 1 t in
      let b = neqb→ne (insert_of y) 1 u in
      let i : insert_of x ≡ 0 = omega (arith, (rows x m).flag) in
      let j : insert_of y ≡ 0 = omega (arith, (rows y n).flag) in
      i ∙ sym j))

  run-inserts : filter (λ r. is_insert r && eqb (named_of r) e) (sort op_before l) ≡ sort rises (filter (λ r. is_insert r && eqb (named_of r) e) l)
  run-inserts =
      run (λ r. is_insert r && eqb (named_of r) e) (settled is_insert (λ x y m n t u. eqb→eq (insert_of x) 1 t ∙ sym (eqb→eq (insert_of y) 1 u)))

  pub run-waiting : reverse (filter (λ r. is_insert r && eqb (named_of r) e) (sort op_before l)) ≡ waiting e l
  unfolding waiting
  run-waiting =
      ap reverse run-inserts
      ∙ falls-reverse (filter (λ r. is_insert r && eqb (named_of r) e) l) (filter-pairwise (λ x y. id_of x ≡ id_of y → ⊥) (λ r. is_insert r && eqb (named_of r) e) l d)
