-- The runs that wait: one goes on top, the last of the topmost one is taken off.
use mathlib.Core.Path.{◌≡◌, refl, sym, ap, ap₂, subst, ◌∙◌}
use mathlib.Core.List.{List, ◌∷◌, ◌++◌}
use Prim.Native.Nat.{ℕ, zero, suc, ◌+◌, ◌-◌, ◌*◌, ◌≤◌, ◌<◌}
use native.Mathlib.Numerals.{add-one}
use native.Mathlib.Nat.{suc-mul}
use native.Mathlib.Omega.{arith}
use lib.ListN.{length, get_or, set, length-set}
use lib.Seq.{get_or-set_same, get_or-set_other}
use Rattle.laws.proofs.Members.{All, here}
use Rattle.batch.specs.Walk.{fall, stacked, top_of}

-- ── what is below a store stays
below-store : (s : List ℕ) (k i v : ℕ) → k * 2 ≤ i → stacked (set s i v) k ≡ stacked s k
below-store s zero i v h = refl
below-store s (suc k) i v h =
    let a : get_or (set s i v) (k * 2) 0 ≡ get_or s (k * 2) 0 = get_or-set_other s i (k * 2) v 0 (λ e. omega (arith, suc-mul k 2)) in
    let b : get_or (set s i v) (k * 2 + 1) 0 ≡ get_or s (k * 2 + 1) 0 = get_or-set_other s i (k * 2 + 1) v 0 (λ e. omega (arith, suc-mul k 2)) in
    ap₂ (λ (l m : List ℕ). l ++ m) (ap₂ (λ (f n : ℕ). fall f (suc n)) a b) (below-store s k i v (omega (arith, suc-mul k 2)))

-- ── one more run
pub pushed : (s : List ℕ) (depth from to : ℕ) → depth * 2 + 2 ≤ length s → from < to
    → stacked (set (set s (depth * 2) from) (depth * 2 + 1) (to - from - 1)) (depth + 1) ≡ fall from (to - from) ++ stacked s depth
pushed s depth from to h l =
    let at : ℕ = depth * 2 in
    let s₁ : List ℕ = set s at from in
    let s₂ : List ℕ = set s₁ (at + 1) (to - from - 1) in
    let a : get_or s₂ at 0 ≡ from = get_or-set_other s₁ (at + 1) at (to - from - 1) 0 (λ e. omega arith) ∙ get_or-set_same s at from 0 (omega arith) in
    let b : get_or s₂ (at + 1) 0 ≡ to - from - 1 = get_or-set_same s₁ (at + 1) (to - from - 1) 0 (simp length-set (omega arith)) in
    let n : suc (to - from - 1) ≡ to - from = omega arith in
    let q : stacked s₂ depth ≡ stacked s depth = below-store s₁ depth (at + 1) (to - from - 1) (omega arith) ∙ below-store s depth at from (omega arith) in
    rw (add-one depth) (ap₂ (λ (l m : List ℕ). l ++ m) (ap₂ (λ (f k : ℕ). fall f (suc k)) a b ∙ ap (fall from) n) q)

pub pushed_none : (s : List ℕ) (depth from to : ℕ) → to ≤ from → stacked s depth ≡ fall from (to - from) ++ stacked s depth
pushed_none s depth from to h = let e : to - from ≡ 0 = omega arith in rw e

-- ── the next that waits
top-here : (s : List ℕ) (k : ℕ) → stacked s (suc k) ≡ top_of s (suc k) ∷ fall (get_or s (k * 2) 0) (get_or s (k * 2 + 1) 0) ++ stacked s k
top-here s k = refl

less_one : (k : ℕ) → suc k - 1 ≡ k
less_one k = omega arith

pub top-is : (s : List ℕ) (depth : ℕ) → 0 < depth → get_or s ((depth - 1) * 2) 0 + get_or s ((depth - 1) * 2 + 1) 0 ≡ top_of s depth
top-is s zero h = absurd (omega arith)
top-is s (suc k) h = rw (less_one k)

pub top_in : (s : List ℕ) (depth n : ℕ) → 0 < depth → All (λ j. j < n) (stacked s depth) → top_of s depth < n
top_in s zero n h a = absurd (omega arith)
top_in s (suc k) n h a = a (top_of s (suc k)) (here refl)

pub popped-run : (s : List ℕ) (depth : ℕ) → 0 < depth → get_or s ((depth - 1) * 2 + 1) 0 ≡ 0 → stacked s depth ≡ top_of s depth ∷ stacked s (depth - 1)
popped-run s zero h e = absurd (omega arith)
popped-run s (suc k) h e =
    let z : get_or s (k * 2 + 1) 0 ≡ 0 = rw (less_one k) at e in
    top-here s k ∙ rw (less_one k, z)

-- of k + 1 runs the topmost stands at k
popped-top : (s : List ℕ) (k : ℕ) → suc k * 2 ≤ length s → (get_or s (k * 2 + 1) 0 ≡ 0 → ⊥)
    → stacked s (suc k) ≡ top_of s (suc k) ∷ stacked (set s (k * 2 + 1) (get_or s (k * 2 + 1) 0 - 1)) (suc k)
popped-top s k h q =
    let n : ℕ = get_or s (k * 2 + 1) 0 in
    let s₁ : List ℕ = set s (k * 2 + 1) (n - 1) in
    let a : get_or s₁ (k * 2) 0 ≡ get_or s (k * 2) 0 = get_or-set_other s (k * 2 + 1) (k * 2) (n - 1) 0 (λ e. omega arith) in
    let b : get_or s₁ (k * 2 + 1) 0 ≡ n - 1 = get_or-set_same s (k * 2 + 1) (n - 1) 0 (omega (arith, suc-mul k 2)) in
    let m : suc (n - 1) ≡ n = omega arith in
    top-here s k
    ∙ ap (λ (l : List ℕ). top_of s (suc k) ∷ l) (sym (ap₂ (λ (l r : List ℕ). l ++ r) (ap₂ (λ (f c : ℕ). fall f (suc c)) a b ∙ ap (fall (get_or s (k * 2) 0)) m) (below-store s k (k * 2 + 1) (n - 1) (omega arith))))

pub popped-one : (s : List ℕ) (depth : ℕ) → 0 < depth → depth * 2 ≤ length s → (get_or s ((depth - 1) * 2 + 1) 0 ≡ 0 → ⊥)
    → stacked s depth ≡ top_of s depth ∷ stacked (set s ((depth - 1) * 2 + 1) (get_or s ((depth - 1) * 2 + 1) 0 - 1)) depth
popped-one s zero l h ne = absurd (omega arith)
popped-one s (suc k) l h ne =
    let q : (get_or s (k * 2 + 1) 0 ≡ 0) → ⊥ = rw (less_one k) at ne in
    subst (λ (d : ℕ). stacked s (suc k) ≡ top_of s (suc k) ∷ stacked (set s (d * 2 + 1) (get_or s (d * 2 + 1) 0 - 1)) (suc k)) (sym (less_one k)) (popped-top s k h q)
