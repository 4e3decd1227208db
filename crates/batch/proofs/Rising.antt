-- Numbers that rise: such a list taken apart, made number by number, and made of pairs.
use mathlib.Core.Path.{◌≡◌, sym}
use mathlib.Core.List.{List, [], ◌∷◌, map}
use Prim.Native.Nat.{ℕ, zero, suc, ◌≤◌, ◌<◌, suc-le-suc}
use native.Mathlib.Nat.{not-suc-le-zero, le_of_suc-le-suc}
use native.Mathlib.Omega.{arith}
use lib.ListN.{length, get_or}
use Rattle.laws.proofs.Members.{Mem, not-nil, All, on-mem, get_or-mem}
use Rattle.laws.proofs.Pairs.{Pairwise, pairwise_map}
use Rattle.batch.specs.Places.{Rising}

-- ── taken apart
pub rising-rest : {x : ℕ} {l : List ℕ} → Rising (x ∷ l) → Rising l
rising-rest r = record { rises = λ i j h k. r.rises (suc i) (suc j) (suc-le-suc h) (suc-le-suc k) }

mem-place : {a : ℕ} (l : List ℕ) → Mem a l → (i : ℕ) × (i < length l) × (get_or l i 0 ≡ a)
mem-place [] m = absurd (not-nil m)
mem-place (x ∷ l) m = on-mem m (λ e. (0, omega arith, sym e)) (λ n. let r = mem-place l n in (suc r.0, suc-le-suc r.1, r.2))

pub rising-first : {x : ℕ} {l : List ℕ} → Rising (x ∷ l) → All (λ y. x ≤ y) l
rising-first {x} {l} r y m =
    let p = mem-place l m in
    let i : ℕ = p.0 in
    let h = r.rises 0 (suc i) (omega arith) (suc-le-suc p.1) in
    omega (arith, p.2)

-- ── made
pub rising-nil : Rising []
rising-nil = record { rises = λ i j h m. absurd (not-suc-le-zero m) }

pub rising-cons : (k : ℕ) (l : List ℕ) → All (λ p. k ≤ p) l → Rising l → Rising (k ∷ l)
rising-cons k l a r = record { rises = go }
  where
    go : (i j : ℕ) → i ≤ j → j < length (k ∷ l) → get_or (k ∷ l) i 0 ≤ get_or (k ∷ l) j 0
    go zero zero h m = omega arith
    go zero (suc j) h m = a (get_or l j 0) (get_or-mem l j 0 (le_of_suc-le-suc m))
    go (suc i) zero h m = absurd (not-suc-le-zero h)
    go (suc i) (suc j) h m = r.rises i j (le_of_suc-le-suc h) (le_of_suc-le-suc m)

pairs-rising : (l : List ℕ) → Pairwise (λ x y. x ≤ y) l → Rising l
pairs-rising [] p = rising-nil
pairs-rising (x ∷ l) p = rising-cons x l p.0 (pairs-rising l p.1)

-- a number of each, by pairs
pub rising-by : {A : Type 0} (f : A → ℕ) (l : List A) → Pairwise (λ x y. f x ≤ f y) l → Rising (map f l)
rising-by f l p = pairs-rising (map f l) ((pairwise_map (λ x y. x ≤ y) f l).1 p)
