-- Tree preorder, word for word: an insert is a child of what it refers to, siblings descend by id, each is followed by its own children.
--     kids p ins       the inserts that refer to p, descending
--     pre ins n p      p's children with all below them, n generations deep
--     preorder ins     all of it from HEAD: no chain of references is longer than there are inserts, since ids fall from child to parent
--     pre-stable       so more generations than that bring nothing
--     preorder-law     a list is in order exactly when it is the preorder of its members
--     preorder-filter  what passes a test, where what it refers to passes too, stands as in the preorder of what passes
use mathlib.Core.Path.{◌≡◌, refl, sym, ap, ◌∙◌}
use mathlib.Core.Logic.{inl, inr, ⊎_elim, ◌↔◌}
use mathlib.Core.Bool.{Bool, not}
use mathlib.Core.List.{List, [], ◌∷◌, ◌++◌}
use Prim.Native.Nat.{ℕ, suc, zero, ◌+◌, ◌≤◌, ◌<◌}
use native.Mathlib.Omega.{arith}
use lib.ListN.{length}
use lib.Dec.{T, T_not, not_T, ltb, eqb, ltb→lt, lt→ltb, eqb→eq, eqb_refl}
use Rattle.model.specs.Basic.{filter, sort}
use Rattle.laws.proofs.Tests.{by_order, by-test, is_true, is_false}
use Rattle.laws.proofs.Members.{Mem, here, there, not-nil, mem-cast, append_left, append_right, All, Same, on-mem, on-append, cons-mono, filter-from, filter-in, filter_passes, filter-length, filter-less, filter-append, filter_comm}
use Rattle.laws.proofs.Pairs.{filter-pairwise, one_key, key-distinct-nodup}
use Rattle.laws.proofs.Sort.{Sorted, OrderOn, sort-from, sort-in, sort_sorted, sort-filter}
use Rattle.laws.proofs.Nearest.{Ins, near, near-past, near-here, Ordered, Good, Distinct, Closed, ordered-closed, unique, nearest, nearest-law}

-- ── children, descending
abbrev pub desc : Ins → Ins → Bool
desc x y = ltb y.id x.id

abbrev pub kids : ℕ → List Ins → List Ins
kids p ins = sort desc (filter (λ x. eqb x.ref p) ins)

pub desc-order : (l : List Ins) → Distinct l → OrderOn desc l
desc-order l d =
    record {
      irreflexive = λ x m t. omega (arith, ltb→lt);
      transitive = λ x y z i j k t u. omega (arith, ltb→lt, lt→ltb);
      total = λ x y i j ne.
          by_order y.id x.id (λ h. inl (omega (arith, lt→ltb)))
          (λ h. by_order x.id y.id (λ k. inr (omega (arith, lt→ltb))) (λ k. absurd (ne (one_key (λ u. u.id) l d x y i j (omega arith)))));
    }

pub kids-from : {x : Ins} (p : ℕ) (ins : List Ins) → Mem x (kids p ins) → Mem x ins
kids-from p ins m = filter-from (λ x. eqb x.ref p) ins (sort-from desc (filter (λ x. eqb x.ref p) ins) m)

pub kids-ref : (x : Ins) (p : ℕ) (ins : List Ins) → Mem x (kids p ins) → x.ref ≡ p
kids-ref x p ins m = eqb→eq x.ref p (filter_passes (λ x. eqb x.ref p) ins (sort-from desc (filter (λ x. eqb x.ref p) ins) m))

pub kids-in : (x : Ins) (p : ℕ) (ins : List Ins) → Mem x ins → x.ref ≡ p → Mem x (kids p ins)
kids-in x p ins m e = sort-in desc (filter (λ x. eqb x.ref p) ins) (filter-in (λ x. eqb x.ref p) ins m (rw e (eqb_refl p)))

pub kids-sorted : (p : ℕ) (ins : List Ins) → Distinct ins → Sorted desc (kids p ins)
kids-sorted p ins d =
    let k = filter (λ x. eqb x.ref p) ins in
    let e = filter-pairwise (λ x y. x.id ≡ y.id → ⊥) (λ x. eqb x.ref p) ins d in
    sort_sorted desc k (desc-order k e) (key-distinct-nodup (λ u. u.id) k e)

-- ── the preorder
abbrev pub forest : (Ins → List Ins) → List Ins → List Ins
forest f [] = []
forest f (c ∷ cs) = c ∷ (f c ++ forest f cs)

abbrev pub pre : List Ins → ℕ → ℕ → List Ins
pre ins zero p = []
pre ins (suc n) p = forest (λ c. pre ins n c.id) (kids p ins)

abbrev pub preorder : List Ins → List Ins
preorder ins = pre ins (length ins) 0

forest-from : (f : Ins → List Ins) (cs : List Ins) (x : Ins) → Mem x (forest f cs) → (c : Ins) × Mem c cs × Mem x (c ∷ f c)
forest-from f [] x m = absurd (not-nil m)
forest-from f (c ∷ cs) x m =
    on-mem m (λ e. (c, here refl, here e))
    (λ n. on-append (f c) n (λ i. (c, here refl, there i)) (λ i. let r = forest-from f cs x i in (r.0, there r.1, r.2)))

forest-in : (f : Ins → List Ins) (cs : List Ins) (c x : Ins) → Mem c cs → Mem x (c ∷ f c) → Mem x (forest f cs)
forest-in f [] c x m i = absurd (not-nil m)
forest-in f (d ∷ cs) c x m i = on-mem m (λ e. cons-mono (append_left (forest f cs)) (rw e at i)) (λ n. there (append_right (f d) (forest-in f cs c x n i)))

-- ── deeper than there are inserts above, nothing more comes
forest-ext : (f g : Ins → List Ins) (cs : List Ins) → All (λ c. f c ≡ g c) cs → forest f cs ≡ forest g cs
forest-ext f g [] h = refl
forest-ext f g (c ∷ cs) h = rw (h c (here refl), forest-ext f g cs (λ d m. h d (there m)))

no-members : {A : Type 0} (l : List A) → ((x : A) → Mem x l → ⊥) → l ≡ []
no-members [] h = refl
no-members (x ∷ l) h = absurd (h x (here refl))

pub pre-none : (ins : List Ins) (n p : ℕ) → All (λ x. x.ref ≡ p → ⊥) ins → pre ins n p ≡ []
pre-none ins zero p h = refl
pre-none ins (suc n) p h =
    ap (forest (λ c. pre ins n c.id)) (no-members (kids p ins) (λ x m. h x (kids-from p ins m) (kids-ref x p ins m)))

-- how many inserts have an id above p
abbrev pub above : List Ins → ℕ → ℕ
above ins p = length (filter (λ x. ltb p x.id) ins)

module _ (ins : List Ins) (below : All (λ x. x.ref < x.id) ins) where
  fewer : (p : ℕ) (c : Ins) → Mem c ins → p < c.id → above ins c.id < above ins p
  fewer p c m h =
      filter-less (λ x. ltb c.id x.id) (λ x. ltb p x.id) ins (λ x i t. omega (arith, ltb→lt, lt→ltb)) m (lt→ltb p c.id h)
      (not_T (ltb c.id c.id) (λ t. omega (arith, ltb→lt)))

  pub pre-stable : (n m p : ℕ) → above ins p ≤ n → above ins p ≤ m → pre ins n p ≡ pre ins m p
  pre-stable zero m p h k = sym (pre-none ins m p (λ x i e. omega (arith, fewer p x i (omega (arith, below x i)))))
  pre-stable (suc n) zero p h k = pre-none ins (suc n) p (λ x i e. omega (arith, fewer p x i (omega (arith, below x i))))
  pre-stable (suc n) (suc m) p h k =
      forest-ext (λ c. pre ins n c.id) (λ c. pre ins m c.id) (kids p ins)
      (λ c i.
      let f : above ins c.id < above ins p = fewer p c (kids-from p ins i) (omega (arith, below c (kids-from p ins i), kids-ref c p ins i)) in
      pre-stable n m c.id (omega arith) (omega arith))

  pub pre-any : (n : ℕ) → length ins ≤ n → pre ins n 0 ≡ preorder ins
  pre-any n h = let f = filter-length (λ x. ltb 0 x.id) ins in pre-stable n (length ins) 0 (omega arith) (omega arith)

-- ── it is in order
abbrev after : List Ins → List ℕ → List ℕ
after [] left = left
after (x ∷ l) left = after l (x.id ∷ left)

ordered-append : (left : List ℕ) (l k : List Ins) → Ordered left l → Ordered (after l left) k → Ordered left (l ++ k)
ordered-append left [] k o p = p
ordered-append left (x ∷ l) k o p = (o.0, ordered-append (x.id ∷ left) l k o.1 p)

near-after : (z : ℕ) (left : List ℕ) (l : List Ins) → All (λ x. z < x.id) l → near z (after l left) ≡ near z left
near-after z left [] a = refl
near-after z left (x ∷ l) a = near-after z (x.id ∷ left) l (λ y m. a y (there m)) ∙ near-past z x.id left (a x (here refl))

forest-ordered : (f : Ins → List Ins) (cs : List Ins) (left : List ℕ) → Sorted desc cs → All (λ c. near c.id left ≡ c.ref) cs
    → ((c : Ins) (left : List ℕ) → Mem c cs → Ordered (c.id ∷ left) (f c)) → ((c : Ins) → Mem c cs → All (λ x. c.id < x.id) (f c)) → Ordered left (forest f cs)
forest-ordered f [] left s n o a = tt
forest-ordered f (c ∷ cs) left s n o a = (
  n c (here refl),
  ordered-append (c.id ∷ left) (f c) (forest f cs) (o c left (here refl))
      (forest-ordered f cs (after (f c) (c.id ∷ left)) s.1
      (λ d m.
      let h = ltb→lt d.id c.id (s.0 d m) in
      near-after d.id (c.id ∷ left) (f c) (λ x i. omega (arith, a c (here refl) x i)) ∙ near-past d.id c.id left h ∙ n d (there m))
      (λ d k m. o d k (there m)) (λ d m. a d (there m))),
)

module _ (ins : List Ins) (below : All (λ x. x.ref < x.id) ins) where
  pre-from : (n p : ℕ) (x : Ins) → Mem x (pre ins n p) → Mem x ins × (p < x.id)
  pre-from zero p x m = absurd (not-nil m)
  pre-from (suc n) p x m =
      let r = forest-from (λ c. pre ins n c.id) (kids p ins) x m in
      let c = r.0 in
      let i = kids-from p ins r.1 in
      on-mem r.2
      (λ e. (mem-cast e i, rw e (omega (arith, below c i, kids-ref c p ins r.1))))
      (λ j. let q = pre-from n c.id x j in (q.0, omega (arith, below c i, kids-ref c p ins r.1, q.1)))

  pre-ordered : Distinct ins → (n p : ℕ) (left : List ℕ) → ((c : Ins) → Mem c ins → c.ref ≡ p → near c.id left ≡ p) → Ordered left (pre ins n p)
  pre-ordered d zero p left h = tt
  pre-ordered d (suc n) p left h =
      forest-ordered (λ c. pre ins n c.id) (kids p ins) left (kids-sorted p ins d)
      (λ c m. h c (kids-from p ins m) (kids-ref c p ins m) ∙ sym (kids-ref c p ins m))
      (λ c k m. pre-ordered d n c.id (c.id ∷ k) (λ e i r. near-here e.id c.id k (omega (arith, below e i))))
      (λ c m x i. (pre-from n c.id x i).1)

  pub preorder-ordered : Distinct ins → Ordered (0 ∷ []) (preorder ins)
  preorder-ordered d = pre-ordered d (length ins) 0 (0 ∷ []) (λ c i r. near-here c.id 0 [] (omega arith))

  -- ── it has the members of a set in which every reference is HEAD or a member
  pre-kid : (n p : ℕ) (y : Ins) → Mem y ins → y.ref ≡ p → Mem y (pre ins (suc n) p)
  pre-kid n p y m e = forest-in (λ c. pre ins n c.id) (kids p ins) y y (kids-in y p ins m e) (here refl)

  pre-step : (n p : ℕ) (x y : Ins) → Mem x (pre ins n p) → Mem y ins → y.ref ≡ x.id → Mem y (pre ins (suc n) p)
  pre-step zero p x y m i e = absurd (not-nil m)
  pre-step (suc n) p x y m i e =
      let r = forest-from (λ c. pre ins n c.id) (kids p ins) x m in
      let c = r.0 in
      forest-in (λ c. pre ins (suc n) c.id) (kids p ins) c y r.1
      (there (on-mem r.2 (λ q. pre-kid n c.id y i (e ∙ ap (λ u. u.id) q)) (λ j. pre-step n c.id x y j i e)))

  reach : Closed ins → (n : ℕ) (y : Ins) → Mem y ins → y.id ≤ n → Mem y (pre ins n 0)
  reach h zero y m le = absurd (omega (arith, below y m))
  reach h (suc n) y m le =
      ⊎_elim (λ e. pre-kid n 0 y m e) (λ r. pre-step n 0 r.0 y (reach h n r.0 r.1 (omega (arith, below y m, r.2))) m (sym r.2)) (h y m)

  pub preorder-same : Closed ins → Same (preorder ins) ins
  preorder-same h x = (λ m. (pre-from (length ins) 0 x m).0, λ m. rw (← pre-any ins below (x.id + length ins) (omega arith)) (reach h (x.id + length ins) x m (omega arith)))

-- ── the preorder is the one list in order with these members
pub distinct-good : (l : List Ins) → Distinct l → All (λ x. x.ref < x.id) l → Good l
distinct-good l d b = record { below = b; one-id = one_key (λ u. u.id) l d }

pub preorder-unique : (ins l : List Ins) → Distinct ins → All (λ x. x.ref < x.id) ins → Closed ins → Same l ins → Ordered (0 ∷ []) l → l ≡ preorder ins
preorder-unique ins l d b c m o =
    let s = preorder-same ins b c in
    let g = distinct-good ins d b in
    sym (unique (preorder ins) l (record { below = λ x i. b x ((s x).0 i); one-id = λ x y i j. g.one-id x y ((s x).0 i) ((s y).0 j) })
    (λ x. (λ i. (m x).1 ((s x).0 i), λ i. (s x).1 ((m x).0 i))) (preorder-ordered ins b d) o)

pub preorder-law : (l : List Ins) → Distinct l → All (λ x. x.ref < x.id) l → T (nearest [] l) ↔ (l ≡ preorder l)
preorder-law l d b = (
  λ t. let o = (nearest-law l).0 t in preorder-unique l l d b (ordered-closed l o) (λ x. (λ i. i, λ i. i)) o,
  λ e. (nearest-law l).1 (rw e (preorder-ordered l b d)),
)

-- ── what passes a test
forest-filter : (p : Ins → Bool) (f g : Ins → List Ins) (cs : List Ins) → All (λ c. filter p (f c) ≡ g c) cs → ((c : Ins) → Mem c cs → T (not (p c)) → g c ≡ [])
    → filter p (forest f cs) ≡ forest g (filter p cs)
forest-filter p f g [] h z = refl
forest-filter p f g (c ∷ cs) h z =
    let e = filter-append p (f c) (forest f cs) in
    let ih = forest-filter p f g cs (λ d m. h d (there m)) (λ d m. z d (there m)) in
    by-test (p c)
    (λ t. rw (is_true (p c) t, e, ih, h c (here refl)))
    (λ t. rw (is_false (p c) t, e, ih, h c (here refl), z c (here refl) t))

module _ (p : Ins → Bool) (ins : List Ins) (distinct : Distinct ins) where
  kids-filter : (e : ℕ) → filter p (kids e ins) ≡ kids e (filter p ins)
  kids-filter e =
      let r : Ins → Bool = λ x. eqb x.ref e in
      let d = filter-pairwise (λ x y. x.id ≡ y.id → ⊥) r ins distinct in
      sort-filter desc p (filter r ins) (desc-order (filter r ins) d) (key-distinct-nodup (λ u. u.id) (filter r ins) d)
      ∙ ap (sort desc) (filter_comm p r ins)

  module _ (closed : (x y : Ins) → Mem x ins → Mem y ins → T (p x) → y.id ≡ x.ref → T (p y)) where
    pre-filter : (n e : ℕ) → filter p (pre ins n e) ≡ pre (filter p ins) n e
    pre-filter zero e = refl
    pre-filter (suc n) e =
        forest-filter p (λ c. pre ins n c.id) (λ c. pre (filter p ins) n c.id) (kids e ins) (λ c m. pre-filter n c.id)
        (λ c m t. pre-none (filter p ins) n c.id (λ x i q. T_not (p c) t (closed x c (filter-from p ins i) (kids-from e ins m) (filter_passes p ins i) (sym q))))
        ∙ ap (forest (λ c. pre (filter p ins) n c.id)) (kids-filter e)

    pub preorder-filter : All (λ x. x.ref < x.id) ins → filter p (preorder ins) ≡ preorder (filter p ins)
    preorder-filter below =
        pre-filter (length ins) 0 ∙ pre-any (filter p ins) (λ x m. below x (filter-from p ins m)) (length ins) (omega (arith, filter-length p ins))
