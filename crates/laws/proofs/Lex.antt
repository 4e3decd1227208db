-- Orders to sort by: the numbers, lists of numbers as a dictionary has them ("a", "ab", "b"), pairs by their first part and then by
-- their second, and any type by a key that tells its values apart.
use mathlib.Core.Path.{◌≡◌, refl, sym, ap, ap₂, ◌∙◌}
use mathlib.Core.Logic.{◌⊎◌, inl, inr, ⊎_elim, ⊎_map, ◌↔◌}
use mathlib.Core.Bool.{Bool, ◌&&◌, ◌||◌}
use mathlib.Core.List.{List, [], ◌∷◌}
use Prim.Native.Nat.{ℕ, ◌<◌}
use native.Mathlib.Omega.{arith}
use lib.Dec.{T, T_not, ltb, eqb, ltb→lt, lt→ltb, nltb→le, eqb→eq}
use Rattle.model.specs.Basic.{lex_before, same}
use Rattle.laws.proofs.Tests.{T_and, T-or, by-test, eq→eqb}
use Rattle.laws.proofs.Members.{Mem, words-eq, words-refl}
use Rattle.laws.proofs.Sort.{OrderOn}

pub record StrictTotal {A : Type 0} (lt : A → A → Bool) : Type 0 where
  pub irreflexive : (x : A) → T (lt x x) → ⊥
  pub transitive : (x y z : A) → T (lt x y) → T (lt y z) → T (lt x z)
  pub total : (x y : A) → (x ≡ y → ⊥) → T (lt x y) ⊎ T (lt y x)

pub order-by : {A K : Type 0} (lt : K → K → Bool) → StrictTotal lt → (f : A → K) (l : List A) → ((x y : A) → Mem x l → Mem y l → f x ≡ f y → x ≡ y) → OrderOn (λ x y. lt (f x) (f y)) l
order-by lt s f l inj =
    record {
      irreflexive = λ x m. s.irreflexive (f x);
      transitive = λ x y z i j k. s.transitive (f x) (f y) (f z);
      total = λ x y i j ne. s.total (f x) (f y) (λ e. ne (inj x y i j e));
    }

pub ltb-strict : StrictTotal ltb
ltb-strict =
    record {
      irreflexive = λ x t. omega (arith, ltb→lt);
      transitive = λ x y z t u. omega (arith, ltb→lt, lt→ltb);
      total = λ x y ne. by-test (ltb x y) inl (λ t. inr (lt→ltb y x (omega (arith, nltb→le x y t))));
    }

-- what `lex_before` says of two lists that begin
pub lex-out : (x y : ℕ) (l k : List ℕ) → T (lex_before (x ∷ l) (y ∷ k)) → (x < y) ⊎ ((x ≡ y) × T (lex_before l k))
lex-out x y l k t =
    ⊎_map (ltb→lt x y) (λ u. let p = (T_and (eqb x y) (lex_before l k)).0 u in (eqb→eq x y p.0, p.1)) ((T-or (ltb x y) (eqb x y && lex_before l k)).0 t)

lex-lt : (x y : ℕ) (l k : List ℕ) → x < y → T (lex_before (x ∷ l) (y ∷ k))
lex-lt x y l k h = (T-or (ltb x y) (eqb x y && lex_before l k)).1 (inl (lt→ltb x y h))

lex-eq : (x y : ℕ) (l k : List ℕ) → x ≡ y → T (lex_before l k) → T (lex_before (x ∷ l) (y ∷ k))
lex-eq x y l k e t = (T-or (ltb x y) (eqb x y && lex_before l k)).1 (inr ((T_and (eqb x y) (lex_before l k)).1 (eq→eqb x y e, t)))

lex-irreflexive : (l : List ℕ) → T (lex_before l l) → ⊥
lex-irreflexive [] t = t
lex-irreflexive (x ∷ l) t = ⊎_elim (λ h. omega arith) (λ p. lex-irreflexive l p.1) (lex-out x x l l t)

lex-transitive : (l k j : List ℕ) → T (lex_before l k) → T (lex_before k j) → T (lex_before l j)
lex-transitive [] [] j t u = absurd t
lex-transitive [] (y ∷ k) [] t u = absurd u
lex-transitive [] (y ∷ k) (z ∷ j) t u = tt
lex-transitive (x ∷ l) [] j t u = absurd t
lex-transitive (x ∷ l) (y ∷ k) [] t u = absurd u
lex-transitive (x ∷ l) (y ∷ k) (z ∷ j) t u =
    ⊎_elim (λ h. lex-lt x z l j (⊎_elim (λ i. omega arith) (λ q. omega arith) (lex-out y z k j u)))
    (λ p. ⊎_elim (λ i. lex-lt x z l j (omega arith)) (λ q. lex-eq x z l j (p.0 ∙ q.0) (lex-transitive l k j p.1 q.1)) (lex-out y z k j u))
    (lex-out x y l k t)

lex-total : (l k : List ℕ) → (l ≡ k → ⊥) → T (lex_before l k) ⊎ T (lex_before k l)
lex-total [] [] ne = absurd (ne refl)
lex-total [] (y ∷ k) ne = inl tt
lex-total (x ∷ l) [] ne = inr tt
lex-total (x ∷ l) (y ∷ k) ne =
    by-test (eqb x y)
    (λ t. let e = eqb→eq x y t in ⊎_map (lex-eq x y l k e) (lex-eq y x k l (sym e)) (lex-total l k (λ q. ne (ap₂ ◌∷◌ e q))))
    (λ t. ⊎_map (λ u. lex-lt x y l k (ltb→lt x y u)) (λ u. lex-lt y x k l (ltb→lt y x u)) (ltb-strict.total x y (λ e. T_not (eqb x y) t (eq→eqb x y e))))

pub lex-strict : StrictTotal lex_before
lex-strict = record { irreflexive = lex-irreflexive; transitive = lex-transitive; total = lex-total }

-- ── a pair, by its first part and then by its second
pub eqb_is : (a b : ℕ) → T (eqb a b) ↔ (a ≡ b)
eqb_is a b = (eqb→eq a b, eq→eqb a b)

pub words-is : (xs ys : List ℕ) → T (same xs ys) ↔ (xs ≡ ys)
words-is xs ys = (words-eq xs ys, λ e. rw e (words-refl ys))

module _ {K L : Type 0} (lt_k eq_k : K → K → Bool) (lt_l : L → L → Bool) where
  abbrev pub pair_before : K × L → K × L → Bool
  pair_before u v = lt_k u.0 v.0 || eq_k u.0 v.0 && lt_l u.1 v.1

  module _ (is : (a b : K) → T (eq_k a b) ↔ (a ≡ b)) where
    pair-out : (u v : K × L) → T (pair_before u v) → T (lt_k u.0 v.0) ⊎ ((u.0 ≡ v.0) × T (lt_l u.1 v.1))
    pair-out u v t =
        ⊎_map (λ s. s) (λ s. let p = (T_and (eq_k u.0 v.0) (lt_l u.1 v.1)).0 s in ((is u.0 v.0).0 p.0, p.1))
        ((T-or (lt_k u.0 v.0) (eq_k u.0 v.0 && lt_l u.1 v.1)).0 t)

    pair_lt : (u v : K × L) → T (lt_k u.0 v.0) → T (pair_before u v)
    pair_lt u v t = (T-or (lt_k u.0 v.0) (eq_k u.0 v.0 && lt_l u.1 v.1)).1 (inl t)

    pair_eq : (u v : K × L) → u.0 ≡ v.0 → T (lt_l u.1 v.1) → T (pair_before u v)
    pair_eq u v e t =
        (T-or (lt_k u.0 v.0) (eq_k u.0 v.0 && lt_l u.1 v.1)).1
        (inr ((T_and (eq_k u.0 v.0) (lt_l u.1 v.1)).1 ((is u.0 v.0).1 e, t)))

    pub pair-strict : StrictTotal lt_k → StrictTotal lt_l → StrictTotal pair_before
    pair-strict k l =
        record {
          irreflexive = λ u t. ⊎_elim (k.irreflexive u.0) (λ p. l.irreflexive u.1 p.1) (pair-out u u t);
          transitive = λ u v w t s.
              ⊎_elim
              (λ a. pair_lt u w (⊎_elim (k.transitive u.0 v.0 w.0 a) (λ q. rw q.0 at a) (pair-out v w s)))
              (λ p. ⊎_elim (λ b. pair_lt u w (rw p.0 b)) (λ q. pair_eq u w (p.0 ∙ q.0) (l.transitive u.1 v.1 w.1 p.1 q.1)) (pair-out v w s))
              (pair-out u v t);
          total = λ u v ne.
              by-test (eq_k u.0 v.0)
              (λ t. let e = (is u.0 v.0).0 t in ⊎_map (pair_eq u v e) (pair_eq v u (sym e)) (l.total u.1 v.1 (λ q. ne (both u v e q))))
              (λ t. ⊎_map (pair_lt u v) (pair_lt v u) (k.total u.0 v.0 (λ e. T_not (eq_k u.0 v.0) t ((is u.0 v.0).1 e))));
        }
      where
        both : (u v : K × L) → u.0 ≡ v.0 → u.1 ≡ v.1 → u ≡ v
        both u v e q = ap₂ (λ a b. (a, b)) e q

-- by a number, then by a word, then by a number
pub order-by-three : {A : Type 0} (o : A → ℕ) (k : A → List ℕ) (i : A → ℕ) (l : List A)
    → ((x y : A) → Mem x l → Mem y l → o x ≡ o y → k x ≡ k y → i x ≡ i y → x ≡ y)
    → OrderOn (λ a b. ltb (o a) (o b) || eqb (o a) (o b) && (lex_before (k a) (k b) || same (k a) (k b) && ltb (i a) (i b))) l
order-by-three {A} o k i l inj =
    order-by (pair_before ltb eqb (pair_before lex_before same ltb)) (pair-strict ltb eqb (pair_before lex_before same ltb) eqb_is ltb-strict (pair-strict lex_before same ltb words-is lex-strict ltb-strict)) key l
    (λ x y m n e. inj x y m n (ap (λ u. u.0) e) (ap (λ u. u.1.0) e) (ap (λ u. u.1.1) e))
  where
    key : A → ℕ × (List ℕ × ℕ)
    key a = (o a, (k a, i a))
