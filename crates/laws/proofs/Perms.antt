-- Two lists with the same elements, each as often (the library's `List-as-Permᴰ`, under short names), and what does not tell them apart.
--     sort-perm         in an order, sorting forgets how the list was arranged
--     nodup-same-perm   lists without repetition that have the same members are such
use mathlib.Core.Path.{◌≡◌, refl, sym, ap, ◌∙◌}
use mathlib.Core.Bool.{Bool, not}
use mathlib.Core.List.Permᴰ
use mathlib.Core.List.{List, [], ◌∷◌, ◌++◌, append_assoc}
pub use mathlib.Core.List.Permᴰ.{cons as perm-cons}
pub use mathlib.Core.List.Permᴰ.{nil as perm-nil}
pub use mathlib.Core.List.Permᴰ.{swap as perm-swap}
pub use mathlib.Core.List.Permᴰ.{trans as perm-trans}
pub use mathlib.Core.List.{Permᴰ as Perm}
pub use mathlib.Core.List.Permᴰ.{append_comm as perm_comm}
pub use mathlib.Core.List.Permᴰ.{map as perm-map}
pub use mathlib.Core.List.Permᴰ.{refl as perm-refl}
pub use mathlib.Core.List.Permᴰ.{symm as perm-sym}
use Prim.Native.Nat.{suc}
use lib.ListN.{length}
use Rattle.model.specs.Basic.{filter, concat_map, insert, sort}
use Rattle.laws.proofs.Tests.{split, by-test, is_true, is_false}
use Rattle.laws.proofs.Members.{Mem, here, there, not-nil, Same, on-mem}
use Rattle.laws.proofs.Pairs.{Pairwise, NoDup}
use Rattle.laws.proofs.Sort.{OrderOn, sort-same}

module _ {A : Type 0} where
  pub perm-mem : {a : A} {l k : List A} → Perm l k → Mem a l → Mem a k
  perm-mem perm-nil m = m
  perm-mem (perm-cons e p) m = on-mem m (λ q. here (q ∙ e)) (λ n. there (perm-mem p n))
  perm-mem (perm-swap e f) m = on-mem m (λ q. there (here (q ∙ e))) (λ n. on-mem n (λ q. here (q ∙ f)) (λ i. there (there i)))
  perm-mem (perm-trans p q) m = perm-mem q (perm-mem p m)

  pub perm_same : {l k : List A} → Perm l k → Same l k
  perm_same p x = (perm-mem p, perm-mem (perm-sym p))

  pub perm-eq : {l k : List A} → l ≡ k → Perm l k
  perm-eq {l} {k} e = rw e (perm-refl k)

  pub perm-length : {l k : List A} → Perm l k → length l ≡ length k
  perm-length perm-nil = refl
  perm-length (perm-cons e p) = ap suc (perm-length p)
  perm-length (perm-swap e f) = refl
  perm-length (perm-trans p q) = perm-length p ∙ perm-length q

  pub perm-append : {l k l' k' : List A} → Perm l k → Perm l' k' → Perm (l ++ l') (k ++ k')
  perm-append {l} {k} {l'} {k'} p q = perm-trans (Permᴰ.append_right l' p) (Permᴰ.append_left k q)

  -- an element may stand anywhere
  pub perm_middle : (x : A) (l k : List A) → Perm (x ∷ (l ++ k)) (l ++ x ∷ k)
  perm_middle x [] k = perm-refl (x ∷ k)
  perm_middle x (y ∷ l) k = perm-trans (perm-swap refl refl) (perm-cons refl (perm_middle x l k))

  -- what does not pass, then what does
  pub perm-parts : (p : A → Bool) (l : List A) → Perm l (filter (λ x. not (p x)) l ++ filter p l)
  perm-parts p [] = perm-nil
  perm-parts p (x ∷ l) =
      let ih = perm-parts p l in
      by-test (p x)
      (λ t. rw (is_true (p x) t) (perm-trans (perm-cons refl ih) (perm_middle x (filter (λ x. not (p x)) l) (filter p l))))
      (λ t. rw (is_false (p x) t) (perm-cons refl ih))

  -- a relation that goes both ways
  pub perm-pairwise : (R : A → A → Type 0) → ((x y : A) → R x y → R y x) → {l k : List A} → Perm l k → Pairwise R l → Pairwise R k
  perm-pairwise R s perm-nil r = r
  perm-pairwise R s (perm-cons e p) r = (λ y m. rw (← e) (r.0 y (perm-mem (perm-sym p) m)), perm-pairwise R s p r.1)
  perm-pairwise R s (perm-swap {a} {b} e f) r =
      (λ y m. rw (← f) (on-mem m (λ q. rw (q ∙ sym e) (s a b (r.0 b (here refl)))) (r.1.0 y)), (λ y m. rw (← e) (r.0 y (there m)), r.1.1))
  perm-pairwise R s (perm-trans p q) r = perm-pairwise R s q (perm-pairwise R s p r)

  pub perm-nodup : {l k : List A} → Perm l k → NoDup l → NoDup k
  perm-nodup p = perm-pairwise (λ x y. x ≡ y → ⊥) (λ x y ne e. ne (sym e)) p

  filter-swap : (p : A → Bool) (a b : A) (l : List A) → Perm (filter p (a ∷ b ∷ l)) (filter p (b ∷ a ∷ l))
  filter-swap p a b l =
      by-test (p a)
      (λ t. by-test (p b) (λ u. rw (is_true (p a) t, is_true (p b) u) (perm-swap refl refl)) (λ u. rw (is_true (p a) t, is_false (p b) u) (perm-refl (a ∷ filter p l))))
      (λ t. by-test (p b) (λ u. rw (is_false (p a) t, is_true (p b) u) (perm-refl (b ∷ filter p l))) (λ u. rw (is_false (p a) t, is_false (p b) u) (perm-refl (filter p l))))

  pub perm-filter : (p : A → Bool) {l k : List A} → Perm l k → Perm (filter p l) (filter p k)
  perm-filter p perm-nil = perm-nil
  perm-filter p (perm-cons {a} {b} e q) =
      let ih = perm-filter p q in
      rw e (by-test (p b) (λ t. rw (is_true (p b) t) (perm-cons refl ih)) (λ t. rw (is_false (p b) t) ih))
  perm-filter p (perm-swap {a} {b} {l = l} e f) = rw (← e, ← f) (filter-swap p a b l)
  perm-filter p (perm-trans q r) = perm-trans (perm-filter p q) (perm-filter p r)

  pub length-filter-perm : (p : A → Bool) {l k : List A} → Perm l k → length (filter p l) ≡ length (filter p k)
  length-filter-perm p q = perm-length (perm-filter p q)

  -- a list is its member x and the rest
  mem-out : {x : A} (l : List A) → Mem x l → (k : List A) × Perm l (x ∷ k)
  mem-out [] m = absurd (not-nil m)
  mem-out (y ∷ l) m =
      on-mem m (λ e. (l, perm-cons (sym e) (perm-refl l))) (λ n. let r = mem-out l n in (y ∷ r.0, perm-trans (perm-cons refl r.1) (perm-swap refl refl)))

  pub nodup-same-perm : (l k : List A) → NoDup l → NoDup k → Same l k → Perm l k
  nodup-same-perm [] [] d f s = perm-nil
  nodup-same-perm [] (y ∷ k) d f s = absurd (not-nil ((s y).1 (here refl)))
  nodup-same-perm (x ∷ l) k d f s =
      let r = mem-out k ((s x).0 (here refl)) in go (λ j. nodup-same-perm l j d.1) r.0 r.1
    where
      go : ((j : List A) → NoDup j → Same l j → Perm l j) → (j : List A) → Perm k (x ∷ j) → Perm (x ∷ l) k
      go ih j out = perm-trans (perm-cons refl (ih j g.1 rest)) (perm-sym out)
        where
          g : NoDup (x ∷ j)
          g = perm-nodup out f

          rest : Same l j
          rest z = (
            λ m. on-mem (perm-mem out ((s z).0 (there m))) (λ e. absurd (d.0 z m (sym e))) (λ n. n),
            λ m. on-mem ((s z).1 (perm-mem (perm-sym out) (there m))) (λ e. absurd (g.0 z m (sym e))) (λ n. n),
          )

pub perm-concat_map : {A B : Type 0} (f : A → List B) {l k : List A} → Perm l k → Perm (concat_map f l) (concat_map f k)
perm-concat_map f perm-nil = perm-nil
perm-concat_map f (perm-cons {a} {b} e p) = rw e (perm-append (perm-refl (f b)) (perm-concat_map f p))
perm-concat_map f (perm-swap {a} {b} {l = l} e g) =
    let r = concat_map f l in
    rw (← e, ← g)
    (perm-trans (perm-eq (sym (append_assoc (f a) (f b) r)))
    (perm-trans (perm-append (perm_comm (f a) (f b)) (perm-refl r)) (perm-eq (append_assoc (f b) (f a) r))))
perm-concat_map f (perm-trans p q) = perm-trans (perm-concat_map f p) (perm-concat_map f q)

-- ── sorting
module _ {A : Type 0} (lt : A → A → Bool) where
  insert-perm : (x : A) (l : List A) → Perm (insert lt x l) (x ∷ l)
  insert-perm x [] = perm-refl (x ∷ [])
  insert-perm x (y ∷ l) =
      split (λ k. Perm k (x ∷ y ∷ l)) (lt x y) (λ t. perm-refl (x ∷ y ∷ l)) (λ t. perm-trans (perm-cons refl (insert-perm x l)) (perm-swap refl refl))

  pub sort-perm-self : (l : List A) → Perm (sort lt l) l
  sort-perm-self [] = perm-nil
  sort-perm-self (x ∷ l) = perm-trans (insert-perm x (sort lt l)) (perm-cons refl (sort-perm-self l))

  pub sort-perm : (l k : List A) → OrderOn lt l → NoDup l → Perm l k → sort lt l ≡ sort lt k
  sort-perm l k o d p = sort-same lt l k o d (perm-nodup p d) (perm_same p)
