-- Ids compare as their numbers do: by counter, then actor.
use Prim.Native.Nat.{ℕ, ◌/◌, ◌%◌, ◌<◌, ◌≤◌}
use mathlib.Core.Path.{◌≡◌}
use native.Mathlib.Omega.{arith}
use borrow.Author.Tests.{lt-ltb, le-ltb, eq-eqb, ne_eqb}
use lib.Dec.{ltb}
use Rattle.std.specs.Ordering.{nat_cmp}
use Rattle.model.specs.Sizes.{actors}
use Rattle.laws.proofs.Tests.{by_order, by-eq}
use Rattle.std.specs.declared.cmp.Ordering.TheVariants.{Less, Equal, Greater}
use Rattle.ids.specs.Compared.{id_before, compared}

pub id-before : (a b : ℕ) → id_before a b ≡ ltb a b
id-before a b =
    by_order (a / actors) (b / actors)
    (λ h. let l : a < b = omega arith in rw (lt-ltb (a / actors) (b / actors) h, lt-ltb a b l))
    (λ h. by-eq (a / actors) (b / actors)
    (λ e. by_order (a % actors) (b % actors)
    (λ k. let l : a < b = omega arith in rw (le-ltb (a / actors) (b / actors) h, eq-eqb (a / actors) (b / actors) e, lt-ltb (a % actors) (b % actors) k, lt-ltb a b l))
    (λ k. let l : b ≤ a = omega arith in rw (le-ltb (a / actors) (b / actors) h, eq-eqb (a / actors) (b / actors) e, le-ltb (a % actors) (b % actors) k, le-ltb a b l)))
    (λ ne. let q : b / actors < a / actors = omega arith in
    let l : b ≤ a = omega arith in
    rw (le-ltb (a / actors) (b / actors) h, ne_eqb (a / actors) (b / actors) ne, le-ltb a b l)))

module _ (a b : ℕ) where
  pub compared-before : a < b → Less ≡ compared a b
  unfolding compared
  compared-before h = rw (id-before a b, lt-ltb a b h)

  pub compared_same : a ≡ b → Equal ≡ compared a b
  unfolding compared
  compared_same e =
      let h : b ≤ a = omega arith in
      let k : a ≤ b = omega arith in
      rw (id-before a b, id-before b a, le-ltb a b h, le-ltb b a k)

  pub compared-after : b ≤ a → (a ≡ b → ⊥) → Greater ≡ compared a b
  unfolding compared
  compared-after h ne =
      let k : b < a = omega arith in
      rw (id-before a b, id-before b a, le-ltb a b h, lt-ltb b a k)

  pub compared_numbers : nat_cmp a b ≡ compared a b
  compared_numbers =
      by_order a b
      (λ h. rw (lt-ltb a b h) (compared-before h))
      (λ h. by-eq a b
      (λ e. rw (le-ltb a b h, eq-eqb a b e) (compared_same e))
      (λ ne. rw (le-ltb a b h, ne_eqb a b ne) (compared-after h ne)))
