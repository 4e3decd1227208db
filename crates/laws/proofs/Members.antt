-- The members of a list, and of the lists that are made from it.
--     Mem a l        a stands in l (the library's `List-as-Memᴰ`, under short names: `here`, `there`)
--     All P, Same    every member has P; two lists have the same members
-- Where a list function is a test (`any`, `all`, `member`, `same`), its law says what the test means.
use mathlib.Core.Path.{◌≡◌, refl, sym, ap, ap₂, ◌∙◌}
use mathlib.Core.Logic.{◌↔◌, ⊎_elim, inl, inr}
use mathlib.Core.Bool.{Bool, true, false, not, cond, ◌&&◌, ◌||◌}
use mathlib.Core.List.{List, [], ◌∷◌, ◌++◌, map, append_assoc}
pub use mathlib.Core.List.Memᴰ.{cast as mem-cast}
pub use mathlib.Core.List.Memᴰ.{head as here}
pub use mathlib.Core.List.Memᴰ.{not-nil}
pub use mathlib.Core.List.Memᴰ.{tail as there}
pub use mathlib.Core.List.{Memᴰ as Mem}
pub use mathlib.Core.List.Memᴰ.{append_left}
pub use mathlib.Core.List.Memᴰ.{append_right}
pub use mathlib.Core.List.Memᴰ.{map as mem-map}
use Prim.Native.Nat.{ℕ, zero, suc, ◌+◌, ◌≤◌, ◌<◌}
use native.Mathlib.Nat.{not-suc-le-zero, le_of_suc-le-suc}
use native.Mathlib.Omega.{arith}
use lib.ListN.{length, get_or}
use lib.Dec.{T, T_not, eqb, eqb→eq, eqb_refl}
use Rattle.model.specs.Basic.{any, all, filter, concat, concat_map, member, same, same_all}
use Rattle.laws.proofs.Tests.{and_comm, T_and, T-or, is_true, is_false, by-test, split, bool-ext}

module _ {A : Type 0} where
  abbrev pub All : (A → Type 0) → List A → Type 0
  All P l = (x : A) → Mem x l → P x

  abbrev pub Same : List A → List A → Type 0
  Same l k = (x : A) → Mem x l ↔ Mem x k

  -- a member of `x ∷ l` is x or a member of l
  pub on-mem : {C : Type 0} {a x : A} {l : List A} → Mem a (x ∷ l) → (a ≡ x → C) → (Mem a l → C) → C
  on-mem (here e) f g = f e
  on-mem (there m) f g = g m

  pub on-append : {C : Type 0} {a : A} (l : List A) {k : List A} → Mem a (l ++ k) → (Mem a l → C) → (Mem a k → C) → C
  on-append [] m f g = g m
  on-append (x ∷ l) m f g = on-mem m (λ e. f (here e)) (λ n. on-append l n (λ i. f (there i)) g)

  pub cons-mono : {a x : A} {l k : List A} → (Mem a l → Mem a k) → Mem a (x ∷ l) → Mem a (x ∷ k)
  cons-mono f m = on-mem m (λ e. here e) (λ n. there (f n))

  pub mem-swap : {a x y : A} {l : List A} → Mem a (x ∷ y ∷ l) → Mem a (y ∷ x ∷ l)
  mem-swap m = on-mem m (λ e. there (here e)) (λ n. on-mem n (λ e. here e) (λ i. there (there i)))

  pub all_cons : (P : A → Type 0) {x : A} {l : List A} → P x → All P l → All P (x ∷ l)
  all_cons P p a y m = on-mem m (λ e. rw e p) (a y)

  pub all_append : (P : A → Type 0) (l : List A) {k : List A} → All P l → All P k → All P (l ++ k)
  all_append P l a b y m = on-append l m (a y) (b y)

  pub same_refl : (l : List A) → Same l l
  same_refl l x = (λ m. m, λ m. m)

  pub same-sym : {l k : List A} → Same l k → Same k l
  same-sym s x = ((s x).1, (s x).0)

  pub same-trans : {l k j : List A} → Same l k → Same k j → Same l j
  same-trans s t x = (λ m. (t x).0 ((s x).0 m), λ m. (s x).1 ((t x).1 m))

module _ {A : Type 0} where
  pub concat-from : {a : A} (ls : List (List A)) → Mem a (concat ls) → (l : List A) × Mem l ls × Mem a l
  concat-from [] m = absurd (not-nil m)
  concat-from (k ∷ ls) m = on-append k m (λ i. (k, here refl, i)) (λ i. let r = concat-from ls i in (r.0, there r.1, r.2))

  pub concat-in : {a : A} {l : List A} (ls : List (List A)) → Mem l ls → Mem a l → Mem a (concat ls)
  concat-in [] m i = absurd (not-nil m)
  concat-in {a} (k ∷ ls) m i = on-mem m (λ e. append_left (concat ls) (rw e at i)) (λ n. append_right k (concat-in ls n i))

module _ {A : Type 0} where
  pub get_or-mem : (l : List A) (i : ℕ) (d : A) → i < length l → Mem (get_or l i d) l
  get_or-mem [] i d h = absurd (not-suc-le-zero h)
  get_or-mem (x ∷ l) zero d h = here refl
  get_or-mem (x ∷ l) (suc i) d h = there (get_or-mem l i d (le_of_suc-le-suc h))

-- ── under a function
module _ {A B : Type 0} where
  pub map-from : (f : A → B) {b : B} (l : List A) → Mem b (map f l) → (a : A) × Mem a l × (b ≡ f a)
  map-from f [] m = absurd (not-nil m)
  map-from f (x ∷ l) m = on-mem m (λ e. (x, here refl, e)) (λ n. let r = map-from f l n in (r.0, there r.1, r.2))

  pub concat_map-from : (f : A → List B) {b : B} (l : List A) → Mem b (concat_map f l) → (a : A) × Mem a l × Mem b (f a)
  concat_map-from f [] m = absurd (not-nil m)
  concat_map-from f (x ∷ l) m =
      on-append (f x) m (λ i. (x, here refl, i)) (λ i. let r = concat_map-from f l i in (r.0, there r.1, r.2))

  pub concat_map-in : (f : A → List B) {a : A} {b : B} (l : List A) → Mem a l → Mem b (f a) → Mem b (concat_map f l)
  concat_map-in f [] m i = absurd (not-nil m)
  concat_map-in f {a} {b} (x ∷ l) m i =
      on-mem m (λ e. append_left (concat_map f l) (rw e at i)) (λ n. append_right (f x) (concat_map-in f l n i))

  pub concat_map-append : (f : A → List B) (l k : List A) → concat_map f (l ++ k) ≡ concat_map f l ++ concat_map f k
  concat_map-append f [] k = refl
  concat_map-append f (x ∷ l) k = rw (concat_map-append f l k) (sym (append_assoc (f x) (concat_map f l) (concat_map f k)))

-- functions that agree on the members
pub map-ext : {A B : Type 0} (f g : A → B) (l : List A) → All (λ x. f x ≡ g x) l → map f l ≡ map g l
map-ext f g [] h = refl
map-ext f g (x ∷ l) h = ap₂ ◌∷◌ (h x (here refl)) (map-ext f g l (λ y m. h y (there m)))

pub concat_map-ext : {A B : Type 0} (f g : A → List B) (l : List A) → All (λ x. f x ≡ g x) l → concat_map f l ≡ concat_map g l
concat_map-ext f g [] h = refl
concat_map-ext f g (x ∷ l) h = ap₂ ◌++◌ (h x (here refl)) (concat_map-ext f g l (λ y m. h y (there m)))

-- ── what passes a test
module _ {A : Type 0} (p : A → Bool) where
  pub filter-from : {a : A} (l : List A) → Mem a (filter p l) → Mem a l
  filter-from [] = λ m. m
  filter-from {a} (x ∷ l) = split (λ k. Mem a k → Mem a (x ∷ l)) (p x) (λ t. cons-mono (filter-from l)) (λ t m. there (filter-from l m))

  pub filter_passes : {a : A} (l : List A) → Mem a (filter p l) → T (p a)
  filter_passes [] = λ m. absurd (not-nil m)
  filter_passes {a} (x ∷ l) = split (λ k. Mem a k → T (p a)) (p x) (λ t m. on-mem m (λ e. rw e t) (filter_passes l)) (λ t. filter_passes l)

  pub filter-in : {a : A} (l : List A) → Mem a l → T (p a) → Mem a (filter p l)
  filter-in [] m t = m
  filter-in {a} (x ∷ l) m t =
      split (λ k. Mem a k) (p x) (λ u. cons-mono (λ i. filter-in l i t) m) (λ u. on-mem m (λ e. absurd (T_not (p x) u (rw e at t))) (λ i. filter-in l i t))

  pub filter-yes : (x : A) (l : List A) → T (p x) → filter p (x ∷ l) ≡ x ∷ filter p l
  filter-yes x l t = rw (is_true (p x) t)

  pub filter-no : (x : A) (l : List A) → T (not (p x)) → filter p (x ∷ l) ≡ filter p l
  filter-no x l t = rw (is_false (p x) t)

  pub filter-append : (l k : List A) → filter p (l ++ k) ≡ filter p l ++ filter p k
  filter-append [] k = refl
  filter-append (x ∷ l) k =
      let ih = filter-append l k in
      by-test (p x) (λ t. rw (is_true (p x) t, ih)) (λ t. rw (is_false (p x) t, ih))

  pub filter-all : (l : List A) → All (λ x. T (p x)) l → filter p l ≡ l
  filter-all [] a = refl
  filter-all (x ∷ l) a = filter-yes x l (a x (here refl)) ∙ ap (λ k. x ∷ k) (filter-all l (λ y m. a y (there m)))

  pub filter_none : (l : List A) → All (λ x. T (not (p x))) l → filter p l ≡ []
  filter_none [] a = refl
  filter_none (x ∷ l) a = filter-no x l (a x (here refl)) ∙ filter_none l (λ y m. a y (there m))

  -- what passes and what does not are the list between them
  pub filter-length : (l : List A) → length (filter (λ x. not (p x)) l) + length (filter p l) ≡ length l
  filter-length [] = refl
  filter-length (x ∷ l) = go (p x) (filter (λ x. not (p x)) l) (filter p l) (filter-length l)
    where
      go : (b : Bool) (k n : List A) → length k + length n ≡ length l → length (cond (not b) (x ∷ k) k) + length (cond b (x ∷ n) n) ≡ suc (length l)
      go true k n e = omega arith
      go false k n e = omega arith

  pub any-from : (l : List A) → T (any p l) → (x : A) × Mem x l × T (p x)
  any-from [] t = absurd t
  any-from (x ∷ l) t =
      ⊎_elim (λ u. (x, here refl, u)) (λ u. let r = any-from l u in (r.0, there r.1, r.2)) ((T-or (p x) (any p l)).0 t)

  pub any-in : {x : A} (l : List A) → Mem x l → T (p x) → T (any p l)
  any-in [] m t = absurd (not-nil m)
  any-in (y ∷ l) m t = (T-or (p y) (any p l)).1 (on-mem m (λ e. inl (rw e at t)) (λ n. inr (any-in l n t)))

  pub all_from : (l : List A) → T (all p l) → All (λ x. T (p x)) l
  all_from [] t x m = absurd (not-nil m)
  all_from (y ∷ l) t x m = let u = (T_and (p y) (all p l)).0 t in on-mem m (λ e. rw e u.0) (all_from l u.1 x)

  pub all_in : (l : List A) → All (λ x. T (p x)) l → T (all p l)
  all_in [] a = tt
  all_in (y ∷ l) a = (T_and (p y) (all p l)).1 (a y (here refl), all_in l (λ x m. a x (there m)))

  pub any_append : (l k : List A) → any p (l ++ k) ≡ any p l || any p k
  any_append [] k = refl
  any_append (x ∷ l) k = let ih = any_append l k in by-test (p x) (λ t. rw (is_true (p x) t)) (λ t. rw (is_false (p x) t, ih))

  -- `any` and `all` depend on the members alone
  pub any_same : (l k : List A) → Same l k → any p l ≡ any p k
  any_same l k s = bool-ext (any p l) (any p k) (moved l k (λ x. (s x).0)) (moved k l (λ x. (s x).1))
    where
      moved : (l k : List A) → ((x : A) → Mem x l → Mem x k) → T (any p l) → T (any p k)
      moved l k f t = let r = any-from l t in any-in k (f r.0 r.1) r.2

  pub all_same : (l k : List A) → Same l k → all p l ≡ all p k
  all_same l k s =
      bool-ext (all p l) (all p k) (λ t. all_in k (λ x m. all_from l t x ((s x).1 m))) (λ t. all_in l (λ x m. all_from k t x ((s x).0 m)))

-- ── two tests
module _ {A : Type 0} where
  -- tests that agree on the members
  pub filter-ext : (p q : A → Bool) (l : List A) → ((x : A) → Mem x l → p x ≡ q x) → filter p l ≡ filter q l
  filter-ext p q [] h = refl
  filter-ext p q (x ∷ l) h = rw (h x (here refl), filter-ext p q l (λ y m. h y (there m)))

  pub any-ext : (p q : A → Bool) (l : List A) → ((x : A) → Mem x l → p x ≡ q x) → any p l ≡ any q l
  any-ext p q [] h = refl
  any-ext p q (x ∷ l) h = rw (h x (here refl), any-ext p q l (λ y m. h y (there m)))

  pub all-ext : (p q : A → Bool) (l : List A) → ((x : A) → Mem x l → p x ≡ q x) → all p l ≡ all q l
  all-ext p q [] h = refl
  all-ext p q (x ∷ l) h = rw (h x (here refl), all-ext p q l (λ y m. h y (there m)))

  -- what passes both
  pub filter-both : (f g : A → Bool) (l : List A) → filter f (filter g l) ≡ filter (λ x. g x && f x) l
  filter-both f g [] = refl
  filter-both f g (x ∷ l) =
      let ih = filter-both f g l in
      by-test (g x)
      (λ t. by-test (f x) (λ u. rw (is_true (g x) t, is_true (f x) u, ih)) (λ u. rw (is_true (g x) t, is_false (f x) u, ih)))
      (λ t. rw (is_false (g x) t, ih))

  pub filter_comm : (f g : A → Bool) (l : List A) → filter f (filter g l) ≡ filter g (filter f l)
  filter_comm f g l =
      filter-both f g l
      ∙ filter-ext (λ x. g x && f x) (λ x. f x && g x) l (λ x m. and_comm (g x) (f x))
      ∙ sym (filter-both g f l)

  -- a test that implies another finds nothing less in what passes that
  pub filter-filter : (f g : A → Bool) (l : List A) → ((x : A) → Mem x l → T (f x) → T (g x)) → filter f (filter g l) ≡ filter f l
  filter-filter f g l h =
      filter-both f g l
      ∙ filter-ext (λ x. g x && f x) f l
      (λ x m. bool-ext (g x && f x) (f x) (λ t. ((T_and (g x) (f x)).0 t).1) (λ t. (T_and (g x) (f x)).1 (h x m t, t)))

  -- a test that implies another passes no more, and less where some member passes the other alone
  pub filter-fewer : (f g : A → Bool) (l : List A) → ((x : A) → Mem x l → T (f x) → T (g x)) → length (filter f l) ≤ length (filter g l)
  filter-fewer f g l h = rw (← filter-filter f g l h) (omega (arith, filter-length f (filter g l)))

  pub filter-less : (f g : A → Bool) {c : A} (l : List A) → ((x : A) → Mem x l → T (f x) → T (g x)) → Mem c l → T (g c) → T (not (f c)) → length (filter f l) < length (filter g l)
  filter-less f g {c} l h m t u =
      rw (← filter-filter f g l h)
      (omega (arith, filter-length f (filter g l), some (filter (λ x. not (f x)) (filter g l)) (filter-in (λ x. not (f x)) (filter g l) (filter-in g l m t) u)))
    where
      some : (k : List A) → Mem c k → 0 < length k
      some [] m = absurd (not-nil m)
      some (x ∷ k) m = omega arith

module _ {A B : Type 0} where
  pub filter_map : (p : B → Bool) (f : A → B) (l : List A) → filter p (map f l) ≡ map f (filter (λ x. p (f x)) l)
  filter_map p f [] = refl
  filter_map p f (x ∷ l) =
      let ih = filter_map p f l in
      by-test (p (f x)) (λ t. rw (is_true (p (f x)) t, ih)) (λ t. rw (is_false (p (f x)) t, ih))

-- ── tests of numbers and of lists of numbers
pub member-mem : (x : ℕ) (l : List ℕ) → T (member x l) ↔ Mem x l
member-mem x l = (
  λ t. let r = any-from (eqb x) l t in mem-cast (eqb→eq x r.0 r.2) r.1,
  λ m. any-in (eqb x) l m (eqb_refl x),
)

pub words-eq : (xs ys : List ℕ) → T (same xs ys) → xs ≡ ys
words-eq [] [] t = refl
words-eq [] (y ∷ ys) t = absurd t
words-eq (x ∷ xs) [] t = absurd t
words-eq (x ∷ xs) (y ∷ ys) t = let u = (T_and (eqb x y) (same xs ys)).0 t in ap₂ ◌∷◌ (eqb→eq x y u.0) (words-eq xs ys u.1)

pub words-refl : (xs : List ℕ) → T (same xs xs)
words-refl [] = tt
words-refl (x ∷ xs) = (T_and (eqb x x) (same xs xs)).1 (eqb_refl x, words-refl xs)

pub rows_eq : (xs ys : List (List ℕ)) → T (same_all xs ys) → xs ≡ ys
rows_eq [] [] t = refl
rows_eq [] (y ∷ ys) t = absurd t
rows_eq (x ∷ xs) [] t = absurd t
rows_eq (x ∷ xs) (y ∷ ys) t = let u = (T_and (same x y) (same_all xs ys)).0 t in ap₂ ◌∷◌ (words-eq x y u.0) (rows_eq xs ys u.1)

pub rows_refl : (xs : List (List ℕ)) → T (same_all xs xs)
rows_refl [] = tt
rows_refl (x ∷ xs) = (T_and (same x x) (same_all xs xs)).1 (words-refl x, rows_refl xs)
