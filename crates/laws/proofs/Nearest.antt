-- The order of a list's elements. An insert has an id and refers to an element with a smaller id, or to HEAD, which is 0.
--     near x left       the first of `left` (what stands left of x, the nearest first) that is not larger than x; 0 where there is none
--     Ordered left l    THE LAW: each element of l refers to the nearest smaller one to its left. HEAD stands at the left end: `Ordered (0 ∷ []) l`
--     nearest st l      the same as a test in one pass, with a stack: pop what is larger than x, the top must be x's reference, push x
--     nearest-law       the test says exactly that
--     unique            two lists with the same members, both in order, are equal
use mathlib.Core.Path.{◌≡◌, refl, sym, ap, ap₂, ◌∙◌}
use mathlib.Core.Logic.{◌⊎◌, inl, inr, ◌↔◌}
use mathlib.Core.Bool.{Bool, true, cond, ◌&&◌}
use mathlib.Core.List.{List, [], ◌∷◌, ◌++◌}
use Prim.Native.Nat.{ℕ, ◌≤◌, ◌<◌}
use native.Mathlib.Omega.{arith}
use lib.Dec.{T, ltb, eqb, ltb→lt, eqb→eq, eqb_refl}
use borrow.Author.Tests.{lt-ltb, le-ltb}
use Rattle.laws.proofs.Tests.{T_and, by_order, split}
use Rattle.laws.proofs.Members.{Mem, here, there, not-nil, mem-cast, append_right, All, Same, on-mem}
use Rattle.laws.proofs.Pairs.{KeyDistinct}

pub record Ins : Type 0 where
  pub id : ℕ
  pub ref : ℕ

abbrev pub near : ℕ → List ℕ → ℕ
near x [] = 0
near x (y ∷ left) = cond (ltb x y) (near x left) y

abbrev pub Ordered : List ℕ → List Ins → Type 0
Ordered left [] = Unit {0}
Ordered left (x ∷ l) = (near x.id left ≡ x.ref) × Ordered (x.id ∷ left) l

pub near-past : (x y : ℕ) (left : List ℕ) → x < y → near x (y ∷ left) ≡ near x left
near-past x y left h = rw (lt-ltb x y h)

pub near-here : (x y : ℕ) (left : List ℕ) → y ≤ x → near x (y ∷ left) ≡ y
near-here x y left h = rw (le-ltb x y h)

-- The law depends on `left` only through `near`
pub ordered-by : (a b : List ℕ) (l : List Ins) → ((x : ℕ) → near x a ≡ near x b) → Ordered a l → Ordered b l
ordered-by a b [] e o = tt
ordered-by a b (x ∷ l) e o =
    (sym (e x.id) ∙ o.0, ordered-by (x.id ∷ a) (x.id ∷ b) l (λ z. ap (λ n. cond (ltb z x.id) n x.id) (e z)) o.1)

-- An element is not seen past the next one where that is smaller
abbrev pub HeadBelow : ℕ → List Ins → Type 0
HeadBelow y [] = Unit {0}
HeadBelow y (x ∷ l) = x.id < y

pub ordered-past : (y : ℕ) (left : List ℕ) (l : List Ins) → HeadBelow y l → Ordered left l → Ordered (y ∷ left) l
ordered-past y left [] h o = tt
ordered-past y left (x ∷ l) h o = (near-past x.id y left h ∙ o.0, ordered-by (x.id ∷ left) (x.id ∷ y ∷ left) l hidden o.1)
  where
    hidden : (z : ℕ) → near z (x.id ∷ left) ≡ near z (x.id ∷ y ∷ left)
    hidden z =
        by_order z x.id
        (λ b. near-past z x.id left b ∙ sym (near-past z y left (omega arith)) ∙ sym (near-past z x.id (y ∷ left) b))
        (λ b. near-here z x.id left b ∙ sym (near-here z x.id (y ∷ left) b))

pub near-mem : (x : ℕ) (left : List ℕ) → Mem 0 left → Mem (near x left) left
near-mem x [] m = m
near-mem x (y ∷ left) m =
    split (λ n. Mem n (y ∷ left)) (ltb x y) (λ t. there (near-mem x left (on-mem m (λ e. absurd (omega (arith, ltb→lt x y t))) (λ n. n)))) (λ t. here refl)

-- ── the test with a stack
abbrev pub pop : ℕ → List ℕ → List ℕ
pop x [] = []
pop x (y ∷ st) = cond (ltb x y) (pop x st) (y ∷ st)

abbrev pub top : List ℕ → ℕ
top [] = 0
top (y ∷ st) = y

abbrev pub nearest : List ℕ → List Ins → Bool
nearest st [] = true
nearest st (x ∷ l) = eqb (top (pop x.id st)) x.ref && nearest (x.id ∷ pop x.id st) l

pop-past : (x y : ℕ) (st : List ℕ) → x < y → pop x (y ∷ st) ≡ pop x st
pop-past x y st h = rw (lt-ltb x y h)

pop-here : (x y : ℕ) (st : List ℕ) → y ≤ x → pop x (y ∷ st) ≡ y ∷ st
pop-here x y st h = rw (le-ltb x y h)

pop-pop : (z x : ℕ) (st : List ℕ) → z < x → pop z (pop x st) ≡ pop z st
pop-pop z x [] h = refl
pop-pop z x (y ∷ st) h =
    split (λ k. pop z k ≡ pop z (y ∷ st)) (ltb x y) (λ t. pop-pop z x st h ∙ sym (pop-past z y st (omega (arith, ltb→lt x y t)))) (λ t. refl)

-- a stack answers as `left` does
abbrev Stands : List ℕ → List ℕ → Type 0
Stands st left = (z : ℕ) → top (pop z st) ≡ near z left

stands-push : (x : ℕ) (st left : List ℕ) → Stands st left → Stands (x ∷ pop x st) (x ∷ left)
stands-push x st left s z =
    by_order z x
    (λ h. ap top (pop-past z x (pop x st) h ∙ pop-pop z x st h) ∙ s z ∙ sym (near-past z x left h))
    (λ h. ap top (pop-here z x (pop x st) h) ∙ sym (near-here z x left h))

nearest-is : (l : List Ins) (st left : List ℕ) → Stands st left → T (nearest st l) ↔ Ordered left l
nearest-is [] st left s = (λ t. tt, λ o. tt)
nearest-is (x ∷ l) st left s =
    let rest = nearest-is l (x.id ∷ pop x.id st) (x.id ∷ left) (stands-push x.id st left s) in
    let both = T_and (eqb (top (pop x.id st)) x.ref) (nearest (x.id ∷ pop x.id st) l) in (
      λ t. (sym (s x.id) ∙ eqb→eq (top (pop x.id st)) x.ref (both.0 t).0, rest.0 (both.0 t).1),
      λ o. both.1 (rw (s x.id ∙ o.0) (eqb_refl x.ref), rest.1 o.1),
    )

pub nearest-law : (l : List Ins) → T (nearest [] l) ↔ Ordered (0 ∷ []) l
nearest-law l = nearest-is l [] (0 ∷ []) (λ z. sym (near-here z 0 [] (omega arith)))

-- ── two lists in order with the same members are equal
abbrev pub Distinct : List Ins → Type 0
Distinct l = KeyDistinct (λ x. x.id) l

pub record Good (l : List Ins) : Type 0 where
  pub below : All (λ x. x.ref < x.id) l
  pub one-id : (x y : Ins) → Mem x l → Mem y l → x.id ≡ y.id → x ≡ y

-- the ids of l are new: they differ from those in `left` and from one another
abbrev pub Fresh : List ℕ → List Ins → Type 0
Fresh left [] = Unit {0}
Fresh left (x ∷ l) = (Mem x.id left → ⊥) × Fresh (x.id ∷ left) l

pub fresh-left : (left : List ℕ) (l : List Ins) → Fresh left l → All (λ x. Mem x.id left → ⊥) l
fresh-left left [] f x m = absurd (not-nil m)
fresh-left left (y ∷ l) f x m = on-mem m (λ e. rw e f.0) (λ n i. fresh-left (y.id ∷ left) l f.1 x n (there i))

pub fresh-distinct : (left : List ℕ) (l : List Ins) → Fresh left l → Distinct l
fresh-distinct left [] f = tt
fresh-distinct left (x ∷ l) f = (λ y m e. fresh-left (x.id ∷ left) l f.1 y m (here (sym e)), fresh-distinct (x.id ∷ left) l f.1)

near_within : (z a : ℕ) (mid left : List ℕ) → Mem a mid → a ≤ z → Mem (near z (mid ++ left)) mid
near_within z a [] left m h = absurd (not-nil m)
near_within z a (b ∷ mid) left m h =
    split (λ n. Mem n (b ∷ mid)) (ltb z b) (λ t. there (near_within z a mid left (on-mem m (λ e. absurd (omega (arith, ltb→lt z b t))) (λ n. n)) h)) (λ t. here refl)

-- what stands after `mid` and is larger than one of them refers to nothing left of `mid`
later : (l : List Ins) (mid left : List ℕ) → All (λ a. Mem a left → ⊥) mid → Fresh (mid ++ left) l → Ordered (mid ++ left) l
    → (y : Ins) → Mem y l → (a : ℕ) → Mem a mid → a ≤ y.id → Mem y.ref left → ⊥
later [] mid left d f o y m a i h j = not-nil m
later (x ∷ l) mid left d f o y m a i h j =
    on-mem m
    (λ e. d y.ref (mem-cast (ap (λ z. z.ref) e ∙ sym o.0) (near_within x.id a mid left i (rw e at h))) j)
    (λ n. later l (x.id ∷ mid) left (λ b k. on-mem k (λ e q. f.0 (append_right mid (mem-cast (sym e) q))) (d b)) f.1 o.1 y n a (there i) h j)

alike : (left : List ℕ) (l k : List Ins) → Mem 0 left → Fresh left l → Fresh left k → Ordered left l → Ordered left k → Same l k → l ≡ k
alike left [] [] z f g o p m = refl
alike left [] (y ∷ k) z f g o p m = absurd (not-nil ((m y).1 (here refl)))
alike left (x ∷ l) [] z f g o p m = absurd (not-nil ((m x).0 (here refl)))
alike left (x ∷ l) (y ∷ k) z f g o p m =
    ap₂ ◌∷◌ first (alike (x.id ∷ left) l k (there z) f.1 (rw (← first) at g.1) o.1 (rw (← first) at p.1) rest)
  where
    -- x, met first in one list, stands later in the other than what is met first there
    clash : (x y : Ins) (l : List Ins) → Fresh left (x ∷ l) → Ordered left (x ∷ l) → Mem y l → near y.id left ≡ y.ref → x.id ≤ y.id → ⊥
    clash x y l f o n e h =
        later l (x.id ∷ []) left (λ a i. on-mem i (λ q. rw q f.0) (λ j. absurd (not-nil j))) f.1 o.1 y n x.id (here refl) h
        (mem-cast (sym e) (near-mem y.id left z))

    first : x ≡ y
    first =
        on-mem ((m x).0 (here refl)) (λ e. e)
        (λ n. on-mem ((m y).1 (here refl)) (λ e. sym e)
        (λ i. absurd (by_order x.id y.id (λ h. clash x y l f o i p.0 (omega arith)) (λ h. clash y x k g p n o.0 h))))

    rest : Same l k
    rest v = (
      λ n. on-mem ((m v).0 (there n)) (λ e. absurd (fresh-left (x.id ∷ left) l f.1 v n (here (ap (λ u. u.id) (e ∙ sym first))))) (λ i. i),
      λ n. on-mem ((m v).1 (there n)) (λ e. absurd (fresh-left (y.id ∷ left) k g.1 v n (here (ap (λ u. u.id) (e ∙ first))))) (λ i. i),
    )

-- in a list in order no id comes twice
module _ (w : List Ins) (good : Good w) where
  -- the ids in `left` differ, and what one of them refers to stands behind it
  abbrev Parted : List ℕ → Type 0
  Parted [] = Unit {0}
  Parted (a ∷ left) = (Mem a left → ⊥) × ((x : Ins) → Mem x w → x.id ≡ a → Mem x.ref left) × Parted left

  parted-ref : (left : List ℕ) → Parted left → (x : Ins) → Mem x w → Mem x.id left → Mem x.ref left
  parted-ref [] p x i m = absurd (not-nil m)
  parted-ref (a ∷ left) p x i m = there (on-mem m (p.1 x i) (parted-ref left p.2 x i))

  no_second : (left : List ℕ) → Parted left → (x : Ins) → Mem x w → near x.id left ≡ x.ref → Mem x.id left → ⊥
  no_second [] p x i e m = not-nil m
  no_second (a ∷ left) p x i e m =
      by_order x.id a
      (λ h. on-mem m (λ q. omega arith) (no_second left p.2 x i (sym (near-past x.id a left h) ∙ e)))
      (λ h.
      let r : a ≡ x.ref = sym (near-here x.id a left h) ∙ e in
      on-mem m (λ q. omega (arith, good.below x i)) (λ n. p.0 (mem-cast r (parted-ref left p.2 x i n))))

  pub ordered-fresh : (left : List ℕ) (l : List Ins) → All (λ x. Mem x w) l → Mem 0 left → Parted left → Ordered left l → Fresh left l
  ordered-fresh left [] i z p o = tt
  ordered-fresh left (x ∷ l) i z p o =
      let new = no_second left p x (i x (here refl)) o.0 in
      (new, ordered-fresh (x.id ∷ left) l (λ y m. i y (there m)) (there z) (new, refs, p) o.1)
    where
      refs : (y : Ins) → Mem y w → y.id ≡ x.id → Mem y.ref left
      refs y m e = mem-cast (ap (λ v. v.ref) (good.one-id y x m (i x (here refl)) e) ∙ sym o.0) (near-mem x.id left z)

  pub fresh-from-head : (l : List Ins) → All (λ x. Mem x w) l → Ordered (0 ∷ []) l → Fresh (0 ∷ []) l
  fresh-from-head l i o = ordered-fresh (0 ∷ []) l i (here refl) (not-nil, (λ x m e. absurd (omega (arith, good.below x m))), tt) o

pub unique : (l k : List Ins) → Good l → Same l k → Ordered (0 ∷ []) l → Ordered (0 ∷ []) k → l ≡ k
unique l k g m o p =
    alike (0 ∷ []) l k (here refl) (fresh-from-head l g l (λ x i. i) o) (fresh-from-head l g k (λ x i. (m x).1 i) p) o p m

-- ── in a list in order every reference is HEAD or an element
abbrev pub Known : List Ins → ℕ → Type 0
Known w r = (r ≡ 0) ⊎ ((x : Ins) × Mem x w × (x.id ≡ r))

abbrev pub Closed : List Ins → Type 0
Closed l = All (λ y. Known l y.ref) l

closed_in : (w l : List Ins) (left : List ℕ) → All (λ x. Mem x w) l → Mem 0 left → ((a : ℕ) → Mem a left → Known w a) → Ordered left l → All (λ y. Known w y.ref) l
closed_in w [] left i z h o y m = absurd (not-nil m)
closed_in w (x ∷ l) left i z h o y m =
    on-mem m
    (λ e. rw (ap (λ u. u.ref) e ∙ sym o.0) (h (near x.id left) (near-mem x.id left z)))
    (closed_in w l (x.id ∷ left) (λ v n. i v (there n)) (there z) (λ a n. on-mem n (λ e. inr (x, i x (here refl), sym e)) (h a)) o.1 y)

pub ordered-closed : (l : List Ins) → Ordered (0 ∷ []) l → Closed l
ordered-closed l o = closed_in l l (0 ∷ []) (λ x m. m) (here refl) (λ a n. on-mem n (λ e. inl e) (λ i. absurd (not-nil i))) o
