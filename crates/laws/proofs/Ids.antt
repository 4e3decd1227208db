-- Packed ids: "Ids compare by counter, then actor", an id is its counter and its actor, and no id is ROOT or HEAD.
use mathlib.Core.Path.{◌≡◌, refl, sym}
use mathlib.Core.Bool.{◌&&◌, ◌||◌}
use Prim.Native.Nat.{ℕ, suc, ◌+◌, ◌*◌, ◌/◌, ◌%◌, ◌≤◌, ◌<◌}
use native.Mathlib.Nat.{mul-le-mul_right, suc-mul, div-add-mod', mod-lt}
use native.Mathlib.Omega.{arith}
use lib.Dec.{T, leb, ltb, eqb, leb→le, le→leb, ltb→lt, lt→ltb, lit<}
use borrow.Author.Tests.{lt-ltb, le-ltb, eq-eqb, ne_eqb}
use Rattle.model.specs.Sizes.{actors, max_counter}
use Rattle.model.specs.Id.{counter, actor, is_id}
use Rattle.laws.proofs.Tests.{T_and, bool-ext, by_order}

-- two digits in a base compare by the higher, then by the lower
pub digits-order : (b q r p s : ℕ) → r < b → s < b → ltb (q * b + r) (p * b + s) ≡ (ltb q p || eqb q p && ltb r s)
digits-order b q r p s i j =
    by_order q p
    (λ h. rw (lt-ltb q p h, lt-ltb (q * b + r) (p * b + s) (omega (arith, mul-le-mul_right b h, suc-mul q b))))
    (λ h. by_order p q
    (λ k. rw (le-ltb q p h, ne_eqb q p (λ e. omega arith), le-ltb (q * b + r) (p * b + s) (omega (arith, mul-le-mul_right b k, suc-mul p b))))
    (λ k. low (omega arith)))
  where
    low : q ≡ p → ltb (q * b + r) (p * b + s) ≡ (ltb q p || eqb q p && ltb r s)
    low e =
        rw (e, le-ltb p p (omega arith), eq-eqb p p refl)
        (bool-ext (ltb (p * b + r) (p * b + s)) (ltb r s)
        (λ t. lt→ltb r s (omega (arith, ltb→lt (p * b + r) (p * b + s) t)))
        (λ t. lt→ltb (p * b + r) (p * b + s) (omega (arith, ltb→lt r s t))))

-- quotients and remainders are such digits
pub parts-order : (b w v : ℕ) → 0 < b → ltb w v ≡ (ltb (w / b) (v / b) || eqb (w / b) (v / b) && ltb (w % b) (v % b))
parts-order b w v h =
    rw (div-add-mod' w b, div-add-mod' v b) at (digits-order b (w / b) (w % b) (v / b) (v % b) (mod-lt w h) (mod-lt v h))

-- ---- ids

pub id-order : (i j : ℕ) → ltb i j ≡ (ltb (counter i) (counter j) || eqb (counter i) (counter j) && ltb (actor i) (actor j))
id-order i j = parts-order actors i j (lit< tt)

pub id-parts : (i : ℕ) → i ≡ counter i * actors + actor i
id-parts i = sym (div-add-mod' i actors)

pub actor-small : (i : ℕ) → actor i < actors
actor-small i = mod-lt i (lit< tt)

pub record Id (i : ℕ) : Type 0 where
  pub low : 1 ≤ counter i
  pub high : counter i ≤ max_counter

pub is-id : (i : ℕ) → T (is_id i) → Id i
unfolding is_id
is-id i t =
    let p = (T_and (leb 1 (counter i)) (leb (counter i) max_counter)).0 t in
    record { low = leb→le 1 (counter i) p.0; high = leb→le (counter i) max_counter p.1 }

-- bounds of an id, so that none is ROOT or HEAD
pub id-low : (i : ℕ) → T (is_id i) → actors ≤ i
id-low i t = let h = is-id i t in omega (arith, id-parts i)

pub id-high : (i : ℕ) → T (is_id i) → i < suc max_counter * actors
id-high i t = let h = is-id i t in omega (arith, id-parts i, actor-small i)

pub id-positive : (i : ℕ) → T (is_id i) → 0 < i
id-positive i t = omega (arith, id-low i t)

pub id-is : (i : ℕ) → actors ≤ i → i < suc max_counter * actors → T (is_id i)
unfolding is_id
id-is i l h =
    (T_and (leb 1 (counter i)) (leb (counter i) max_counter)).1
    (le→leb 1 (counter i) (omega (arith, id-parts i, actor-small i)), le→leb (counter i) max_counter (omega (arith, id-parts i)))
