-- In a list in which a number of each row ascends, the rows from the first that is not below v to the first that is not below w are those whose
-- number is v or above, and below w.
use mathlib.Core.Path.{◌≡◌, refl, sym, ap, ◌∙◌}
use mathlib.Core.Bool.{not, ◌&&◌}
use mathlib.Core.List.{List, [], ◌∷◌, map}
use Prim.Native.Nat.{ℕ, suc, ◌-◌, ◌≤◌, ◌<◌, suc-le-suc}
use native.Mathlib.Nat.{not-suc-le-zero}
use native.Mathlib.Omega.{arith}
use borrow.Author.Tests.{lt-ltb, le-ltb, eq-eqb, ne_eqb}
use lib.Dec.{ltb, eqb, ltb→lt, lt→ltb}
use lib.ListN.{length, take, drop, length-map, length-drop}
use lib.Seq.{length-take-le}
use Rattle.model.specs.Basic.{filter}
use Rattle.model.specs.Row.{Row, object_of}
use Rattle.laws.proofs.Tests.{by_order, by-eq}
use Rattle.laws.proofs.Members.{filter-ext, filter-length, filter-fewer}
use Rattle.batch.specs.Places.{Rising}
use Rattle.batch.specs.Walk.{lower}
use Rattle.batch.specs.Groups.{below, between}
use Rattle.batch.proofs.Rising.{rising-rest}
use Rattle.batch.proofs.Halving.{lower-at}

-- ── how many are below v
pub lower-none : (v x : ℕ) (l : List ℕ) → Rising (x ∷ l) → v ≤ x → lower v (x ∷ l) ≡ 0
lower-none v x l r h = sym (lower-at v (x ∷ l) 0 (omega arith) (λ i k. absurd (not-suc-le-zero k)) (λ i k m. let q = r.rises 0 i (omega arith) m in omega arith))

lower-rest : (v x : ℕ) (l : List ℕ) → Rising (x ∷ l) → v ≤ x → lower v l ≡ 0
lower-rest v x l r h = sym (lower-at v l 0 (omega arith) (λ i k. absurd (not-suc-le-zero k)) (λ i k m. let q = r.rises 0 (suc i) (omega arith) (suc-le-suc m) in omega arith))

pub lower-more : (v x : ℕ) (l : List ℕ) → x < v → lower v (x ∷ l) ≡ suc (lower v l)
unfolding lower
lower-more v x l h = rw (lt-ltb x v h)

pub lower-most : (v : ℕ) (l : List ℕ) → lower v l ≤ length l
unfolding lower
lower-most v l = omega (arith, filter-length (λ t. ltb t v) l)

pub below-grows : (v w : ℕ) (l : List Row) → v ≤ w → below v l ≤ below w l
unfolding below lower
below-grows v w l h = filter-fewer (λ t. ltb t v) (λ t. ltb t w) (map object_of l) (λ t m k. let q = ltb→lt t v k in lt→ltb t w (omega arith))

pub below-most : (v : ℕ) (l : List Row) → below v l ≤ length l
unfolding below
below-most v l = omega (arith, lower-most v (map object_of l), length-map l object_of)

-- ── the rows between
pub length-between : (v w : ℕ) (l : List Row) → length (between v w l) ≡ below w l - below v l
unfolding between
length-between v w l =
    length-take-le (below w l - below v l) (drop (below v l) l) (let e = length-drop (below v l) l in omega (arith, below-most w l))

module _ (f : Row → ℕ) (v w : ℕ) (h : v ≤ w) where
  pub cut-between : (l : List Row) → Rising (map f l) → take (lower w (map f l) - lower v (map f l)) (drop (lower v (map f l)) l) ≡ filter (λ r. not (ltb (f r) v) && ltb (f r) w) l
  unfolding lower
  cut-between [] r = refl
  cut-between (x ∷ l) r =
      let c = map f l in
      by_order (f x) v
      (λ k.
      let k₂ : f x < w = omega arith in
      let n : suc (lower w c) - suc (lower v c) ≡ lower w c - lower v c = omega arith in
      rw (lower-more v (f x) c k, lower-more w (f x) c k₂, lt-ltb (f x) v k, n) (cut-between l (rising-rest r)))
      (λ k.
      let rest : take (lower w c - 0) l ≡ filter (λ r. not (ltb (f r) v) && ltb (f r) w) l = rw (lower-rest v (f x) c r k) at (cut-between l (rising-rest r)) in
      by_order (f x) w
      (λ k₂.
      let n : suc (lower w c) - 0 ≡ suc (lower w c - 0) = omega arith in
      rw (lower-none v (f x) c r k, lower-more w (f x) c k₂, le-ltb (f x) v k, lt-ltb (f x) w k₂, n) (ap (λ (t : List Row). x ∷ t) rest))
      (λ k₂. rw (lower-none v (f x) c r k, lower-none w (f x) c r k₂, le-ltb (f x) v k, le-ltb (f x) w k₂) (rw (lower-rest w (f x) c r k₂) at rest)))

-- ── an object's rows
one-object : (o n : ℕ) → (not (ltb n o) && ltb n (suc o)) ≡ eqb n o
one-object o n =
    by_order n o
    (λ k. let ne : n ≡ o → ⊥ = λ e. omega arith in rw (lt-ltb n o k, ne_eqb n o ne))
    (λ k.
    by-eq n o (λ e. let s : n < suc o = omega arith in rw (le-ltb n o k, lt-ltb n (suc o) s, eq-eqb n o e))
    (λ ne. let s : suc o ≤ n = omega arith in rw (le-ltb n o k, le-ltb n (suc o) s, ne_eqb n o ne)))

pub of-object : (o : ℕ) (l : List Row) → Rising (map object_of l) → between o (suc o) l ≡ filter (λ r. eqb (object_of r) o) l
unfolding between below
of-object o l r =
    cut-between object_of o (suc o) (omega arith) l r
    ∙ filter-ext (λ r. not (ltb (object_of r) o) && ltb (object_of r) (suc o)) (λ r. eqb (object_of r) o) l (λ r m. one-object o (object_of r))
