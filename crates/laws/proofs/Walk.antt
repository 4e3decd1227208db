-- One insert into a list that is in order: go to the element that it refers to, then right past the larger ids.
--     walk x l, into x l     behind the reference; the same from HEAD where x refers to HEAD
--     into-is                it is the merge of that one insert
--     into-largest           an insert whose id exceeds all others stands right after its reference
use mathlib.Core.Path.{◌≡◌, refl, sym, ap, ◌∙◌}
use mathlib.Core.Logic.{inl, inr, ⊎_elim, ◌↔◌}
use mathlib.Core.Bool.{cond}
use mathlib.Core.List.{List, [], ◌∷◌, ◌++◌}
use Prim.Native.Nat.{ℕ, ◌≤◌, ◌<◌}
use native.Mathlib.Omega.{arith}
use lib.Dec.{T_not, eqb, ltb→lt, nltb→le, eqb→eq, eqb_refl}
use borrow.Author.Tests.{lt-ltb, eq-eqb, ne_eqb}
use Rattle.model.specs.Basic.{insert}
use Rattle.laws.proofs.Tests.{split}
use Rattle.laws.proofs.Members.{Mem, here, there, not-nil, append_left, append_right, All, Same, on-mem, on-append, cons-mono, mem-swap}
use Rattle.laws.proofs.Pairs.{pairwise-across}
use Rattle.laws.proofs.Sort.{insert-from, insert-in}
use Rattle.laws.proofs.Nearest.{Ins, near, near-past, near-here, Ordered, HeadBelow, ordered-past, Known}
use Rattle.laws.proofs.Preorder.{desc, preorder-unique}
use Rattle.laws.proofs.Weave.{Fits, merge, merge-is, merge-closed}

abbrev pub walk : Ins → List Ins → List Ins
walk x [] = []
walk x (d ∷ l) = d ∷ cond (eqb d.id x.ref) (insert desc x l) (walk x l)

abbrev pub into : Ins → List Ins → List Ins
into x l = cond (eqb x.ref 0) (insert desc x l) (walk x l)

module _ (x : Ins) where
  insert-ordered : (left : List ℕ) (l : List Ins) → near x.id left ≡ x.ref → All (λ d. d.id ≡ x.id → ⊥) l → Ordered left l → Ordered left (insert desc x l)
  insert-ordered left [] e a o = (e, tt)
  insert-ordered left (d ∷ l) e a o =
      split (Ordered left) (desc x d) (λ t. (e, ordered-past x.id left (d ∷ l) (ltb→lt d.id x.id t) o))
      (λ t. (o.0, insert-ordered (d.id ∷ left) l (near-past x.id d.id left (larger (nltb→le d.id x.id t)) ∙ e) (λ y m. a y (there m)) o.1))
    where
      larger : x.id ≤ d.id → x.id < d.id
      larger h = let ne = a d (here refl) in omega arith

  walk-ordered : (left : List ℕ) (l : List Ins) → x.ref < x.id → All (λ d. d.id ≡ x.id → ⊥) l → Ordered left l → Ordered left (walk x l)
  walk-ordered left [] h a o = tt
  walk-ordered left (d ∷ l) h a o = (
    o.0,
    split (Ordered (d.id ∷ left)) (eqb d.id x.ref)
        (λ t. let e = eqb→eq d.id x.ref t in insert-ordered (d.id ∷ left) l (near-here x.id d.id left (omega arith) ∙ e) (λ y m. a y (there m)) o.1)
        (λ t. walk-ordered (d.id ∷ left) l h (λ y m. a y (there m)) o.1),
  )

  pub into-ordered : (l : List Ins) → x.ref < x.id → All (λ d. d.id ≡ x.id → ⊥) l → Ordered (0 ∷ []) l → Ordered (0 ∷ []) (into x l)
  into-ordered l h a o =
      split (Ordered (0 ∷ [])) (eqb x.ref 0) (λ t. insert-ordered (0 ∷ []) l (near-here x.id 0 [] (omega arith) ∙ sym (eqb→eq x.ref 0 t)) a o)
      (λ t. walk-ordered (0 ∷ []) l h a o)

  walk_from : (l : List Ins) → All (λ y. Mem y (x ∷ l)) (walk x l)
  walk_from [] y m = absurd (not-nil m)
  walk_from (d ∷ l) y m =
      mem-swap (cons-mono (split (λ k. Mem y k → Mem y (x ∷ l)) (eqb d.id x.ref) (λ t. insert-from desc x l) (λ t. walk_from l y)) m)

  walk-in : (l : List Ins) (d : Ins) → Mem d l → d.id ≡ x.ref → All (λ y. Mem y (walk x l)) (x ∷ l)
  walk-in [] d i e y m = absurd (not-nil i)
  walk-in (c ∷ l) d i e y m =
      cons-mono
      (split (λ k. Mem y (x ∷ l) → Mem y k) (eqb c.id x.ref) (λ t. insert-in desc x l)
      (λ t. walk-in l d (on-mem i (λ q. absurd (T_not (eqb c.id x.ref) t (rw (sym e ∙ ap (λ u. u.id) q) (eqb_refl c.id)))) (λ j. j)) e y))
      (mem-swap m)

  pub into-same : (l : List Ins) → Known l x.ref → Same (into x l) (x ∷ l)
  into-same l k y =
      split (λ o. Mem y o ↔ Mem y (x ∷ l)) (eqb x.ref 0) (λ t. (insert-from desc x l, insert-in desc x l))
      (λ t. (walk_from l y, λ m. ⊎_elim (λ e. absurd (rw e at t)) (λ r. walk-in l r.0 r.1 r.2 y m) k))

pub into-is : (x : Ins) (l : List Ins) → Fits l (x ∷ []) → into x l ≡ merge l (x ∷ [])
into-is x l h =
    preorder-unique (l ++ (x ∷ [])) (into x l) h.distinct h.below (merge-closed l (x ∷ []) h) same (into-ordered x l low others h.ordered)
    ∙ sym (merge-is l (x ∷ []) h)
  where
    low : x.ref < x.id
    low = h.below x (append_right l (here refl))

    others : All (λ d. d.id ≡ x.id → ⊥) l
    others d m = pairwise-across (λ a b. a.id ≡ b.id → ⊥) l (x ∷ []) h.distinct d x m (here refl)

    known : Known l x.ref
    known =
        ⊎_elim (λ e. inl e)
        (λ r. on-append l r.1 (λ i. inr (r.0, i, r.2)) (λ i. on-mem i (λ e. absurd (omega (arith, low, ap (λ u. u.id) e, r.2))) (λ j. absurd (not-nil j))))
        (h.known x (here refl))

    same : Same (into x l) (l ++ (x ∷ []))
    same y = (
      λ m. on-mem ((into-same x l known y).0 m) (λ e. append_right l (here e)) (append_left (x ∷ [])),
      λ m. (into-same x l known y).1 (on-append l m there (λ i. on-mem i (λ e. here e) (λ j. absurd (not-nil j)))),
    )

-- ── an insert larger than what follows stands right after its reference
insert-first : (x : Ins) (l : List Ins) → HeadBelow x.id l → insert desc x l ≡ x ∷ l
insert-first x [] h = refl
insert-first x (d ∷ l) h = rw (lt-ltb d.id x.id h)

walk-largest : (x d : Ins) (a b : List Ins) → d.id ≡ x.ref → All (λ c. c.id ≡ d.id → ⊥) a → HeadBelow x.id b → walk x (a ++ d ∷ b) ≡ a ++ d ∷ x ∷ b
walk-largest x d [] b e n h = rw (eq-eqb d.id x.ref e, insert-first x b h)
walk-largest x d (c ∷ a) b e n h =
    rw (ne_eqb c.id x.ref (λ q. n c (here refl) (q ∙ sym e)), walk-largest x d a b e (λ y m. n y (there m)) h)

pub into-largest : (x d : Ins) (a b : List Ins) → 0 < d.id → d.id ≡ x.ref → All (λ c. c.id ≡ d.id → ⊥) a → HeadBelow x.id b → into x (a ++ d ∷ b) ≡ a ++ d ∷ x ∷ b
into-largest x d a b z e n h = rw (ne_eqb x.ref 0 (λ q. omega arith)) (walk-largest x d a b e n h)

pub into-largest-head : (x : Ins) (l : List Ins) → x.ref ≡ 0 → HeadBelow x.id l → into x l ≡ x ∷ l
into-largest-head x l e h = rw (eq-eqb x.ref 0 e) (insert-first x l h)
