-- Every two elements of a list, the earlier first, are related: sorted lists and lists without repetition are such.
--     Pairwise R l       the relation R holds so
--     NoDup l            no element comes twice
--     KeyDistinct f l    no value of f comes twice: f tells the members apart (`one_key`)
-- `distinct` is the test of NoDup, and `once` makes a list so.
use mathlib.Core.Path.{◌≡◌, refl, sym, ap, ap₂, ◌∙◌}
use mathlib.Core.Logic.{◌↔◌}
use mathlib.Core.Bool.{Bool, not}
use mathlib.Core.List.{List, [], ◌∷◌, ◌++◌, map, append-nil, head-eq_of_cons-eq, tail-eq_of_cons-eq}
use Prim.Native.Nat.{ℕ}
use native.Mathlib.Omega.{arith}
use lib.ListN.{length}
use lib.Dec.{T, T_not, not_T, eqb}
use Rattle.model.specs.Basic.{filter, concat_map, member, distinct, once}
use Rattle.laws.proofs.Tests.{T_and, by-eq, split, ne→neqb, neqb→ne}
use Rattle.laws.proofs.Members.{Mem, here, there, not-nil, append_left, append_right, mem-map, All, Same, on-mem, on-append, cons-mono, map-from, filter-from, filter-in, filter_passes, filter-append, filter-all, filter_none, concat_map-from, member-mem}

module _ {A : Type 0} where
  abbrev pub Pairwise : (A → A → Type 0) → List A → Type 0
  Pairwise R [] = Unit {0}
  Pairwise R (x ∷ l) = All (R x) l × Pairwise R l

  pub pairwise-mono : {R S : A → A → Type 0} (l : List A) → ((x y : A) → Mem x l → Mem y l → R x y → S x y) → Pairwise R l → Pairwise S l
  pairwise-mono [] f p = tt
  pairwise-mono (x ∷ l) f p = (λ y m. f x y (here refl) (there m) (p.0 y m), pairwise-mono l (λ y z i j. f y z (there i) (there j)) p.1)

  pub pairwise_append : {R : A → A → Type 0} (l k : List A) → Pairwise R l → Pairwise R k → ((x y : A) → Mem x l → Mem y k → R x y) → Pairwise R (l ++ k)
  pairwise_append [] k p q f = q
  pairwise_append (x ∷ l) k p q f =
      (λ y m. on-append l m (p.0 y) (f x y (here refl)), pairwise_append l k p.1 q (λ y z i j. f y z (there i) j))

module _ {A : Type 0} (R : A → A → Type 0) where
  pub pairwise-right : (l k : List A) → Pairwise R (l ++ k) → Pairwise R k
  pairwise-right [] k p = p
  pairwise-right (x ∷ l) k p = pairwise-right l k p.1

  pub pairwise-left : (l k : List A) → Pairwise R (l ++ k) → Pairwise R l
  pairwise-left [] k p = tt
  pairwise-left (x ∷ l) k p = (λ y m. p.0 y (append_left k m), pairwise-left l k p.1)

  pub pairwise-across : (l k : List A) → Pairwise R (l ++ k) → (x y : A) → Mem x l → Mem y k → R x y
  pairwise-across [] k p x y m n = absurd (not-nil m)
  pairwise-across (z ∷ l) k p x y m n = on-mem m (λ e. rw e (p.0 y (append_right l n))) (λ i. pairwise-across l k p.1 x y i n)

  pub filter-pairwise : (p : A → Bool) (l : List A) → Pairwise R l → Pairwise R (filter p l)
  filter-pairwise p [] r = tt
  filter-pairwise p (x ∷ l) r =
      split (Pairwise R) (p x) (λ t. (λ y m. r.0 y (filter-from p l m), filter-pairwise p l r.1)) (λ t. filter-pairwise p l r.1)

pub pairwise_map : {A B : Type 0} (R : B → B → Type 0) (f : A → B) (l : List A) → Pairwise R (map f l) ↔ Pairwise (λ x y. R (f x) (f y)) l
pairwise_map R f [] = (λ p. tt, λ p. tt)
pairwise_map R f (x ∷ l) = (
  λ p. (λ y m. p.0 (f y) (mem-map f m), (pairwise_map R f l).0 p.1),
  λ p. (λ z m. let r = map-from f l m in rw r.2 (p.0 r.0 r.1), (pairwise_map R f l).1 p.1),
)

-- ── no element twice
abbrev pub NoDup : {A : Type 0} → List A → Type 0
NoDup l = Pairwise (λ x y. x ≡ y → ⊥) l

pub distinct-nodup : (l : List ℕ) → T (distinct l) ↔ NoDup l
distinct-nodup [] = (λ t. tt, λ d. tt)
distinct-nodup (x ∷ l) =
    let both = T_and (not (member x l)) (distinct l) in (
      λ t. (λ y m e. T_not (member x l) (both.0 t).0 ((member-mem x l).1 (rw e m)), (distinct-nodup l).0 (both.0 t).1),
      λ d. both.1 (not_T (member x l) (λ u. d.0 x ((member-mem x l).0 u) refl), (distinct-nodup l).1 d.1),
    )

module _ {A K : Type 0} where
  abbrev pub KeyDistinct : (A → K) → List A → Type 0
  KeyDistinct f l = Pairwise (λ x y. f x ≡ f y → ⊥) l

  pub key-distinct-map : (f : A → K) (l : List A) → KeyDistinct f l ↔ NoDup (map f l)
  key-distinct-map f l = let r = pairwise_map (λ x y. x ≡ y → ⊥) f l in (r.1, r.0)

  pub key-distinct-nodup : (f : A → K) (l : List A) → KeyDistinct f l → NoDup l
  key-distinct-nodup f l = pairwise-mono l (λ x y i j ne e. ne (ap f e))

  pub one_key : (f : A → K) (l : List A) → KeyDistinct f l → (x y : A) → Mem x l → Mem y l → f x ≡ f y → x ≡ y
  one_key f [] d x y m n e = absurd (not-nil m)
  one_key f (z ∷ l) d x y m n e =
      on-mem m
      (λ p. on-mem n (λ q. p ∙ sym q) (λ q. absurd (d.0 y q (ap f (sym p) ∙ e))))
      (λ p. on-mem n (λ q. absurd (d.0 x p (sym (e ∙ ap f q)))) (λ q. one_key f l d.1 x y p q e))

-- ── each number once
pub nodup-once : (l : List ℕ) → NoDup (once l)
nodup-once [] = tt
nodup-once (x ∷ l) = (
  λ y m e. neqb→ne x y (filter_passes (λ y. not (eqb x y)) (once l) m) e,
  filter-pairwise (λ x y. x ≡ y → ⊥) (λ y. not (eqb x y)) (once l) (nodup-once l),
)

pub once-same : (l : List ℕ) → Same (once l) l
once-same [] y = (λ m. m, λ m. m)
once-same (x ∷ l) y = (
  cons-mono (λ m. (once-same l y).0 (filter-from (λ y. not (eqb x y)) (once l) m)),
  λ m. by-eq y x here
      (λ ne. there (filter-in (λ y. not (eqb x y)) (once l) ((once-same l y).1 (on-mem m (λ e. absurd (ne e)) (λ n. n))) (ne→neqb x y (λ e. ne (sym e))))),
)

-- ── what one member of l contributes, where no other contributes anything that passes
pub picked : {A B : Type 0} (k : A → ℕ) (f : A → List B) (p : B → Bool) (l : List A) (o : A) → KeyDistinct k l → Mem o l
    → All (λ x. T (p x)) (f o) → ((a : A) → Mem a l → (k a ≡ k o → ⊥) → All (λ x. T (not (p x))) (f a)) → filter p (concat_map f l) ≡ f o
picked k f p [] o d m pass others = absurd (not-nil m)
picked k f p (c ∷ l) o d m pass others =
    filter-append p (f c) (concat_map f l)
    ∙ on-mem m
    (λ e. rw (filter_none p (concat_map f l) (λ x n. let r = concat_map-from f l n in others r.0 (there r.1) (λ q. d.0 r.0 r.1 (ap k (sym e) ∙ sym q)) x r.2))
    (rw (← e) (append-nil (filter p (f o)) ∙ filter-all p (f o) pass)))
    (λ n. rw (filter_none p (f c) (others c (here refl) (λ q. d.0 o n q))) (picked k f p l o d.1 n pass (λ a i. others a (there i))))

-- a function that tells members apart
pub map_inj : {A B : Type 0} (f : A → B) (l k : List A) → ((x y : A) → Mem x l → Mem y k → f x ≡ f y → x ≡ y) → map f l ≡ map f k → l ≡ k
map_inj f [] [] h e = refl
map_inj f [] (y ∷ k) h e = absurd (omega (arith, ap length e))
map_inj f (x ∷ l) [] h e = absurd (omega (arith, ap length e))
map_inj f (x ∷ l) (y ∷ k) h e =
    ap₂ ◌∷◌ (h x y (here refl) (here refl) (head-eq_of_cons-eq e)) (map_inj f l k (λ a b m n. h a b (there m) (there n)) (tail-eq_of_cons-eq e))
