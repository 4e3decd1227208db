-- What a passed test says, test by test, and how a proof goes on by a test's two outcomes.
use mathlib.Core.Path.{◌≡◌, refl, sym}
use mathlib.Core.Logic.{◌⊎◌, inl, inr, ⊎_elim, ◌↔◌}
use mathlib.Core.Bool.{Bool, true, false, not, cond, ◌&&◌, ◌||◌}
use Prim.Native.Nat.{ℕ, ◌≤◌, ◌<◌}
use lib.Dec.{T, T_not, not_T, ltb, eqb, ltb→lt, nltb→le, eqb→eq, eqb_refl}
use Rattle.model.specs.Basic.{◌implies◌}

pub T_and : (a b : Bool) → T (a && b) ↔ (T a × T b)
T_and true b = (λ t. (tt, t), λ t. t.1)
T_and false b = (λ t. absurd t, λ t. t.0)

pub T-or : (a b : Bool) → T (a || b) ↔ (T a ⊎ T b)
T-or true b = (λ t. inl tt, λ t. tt)
T-or false b = (λ t. inr t, ⊎_elim absurd (λ t. t))

pub T-implies : (a b : Bool) → T (a implies b) ↔ (T a → T b)
T-implies true b = (λ t u. t, λ f. f tt)
T-implies false b = (λ t u. absurd u, λ f. tt)

pub is_true : (b : Bool) → T b → b ≡ true
is_true true t = refl
is_true false t = absurd t

pub is_false : (b : Bool) → T (not b) → b ≡ false
is_false true t = absurd t
is_false false t = refl

-- a test beside one that is known
pub or-true : (b : Bool) → b || true ≡ true
or-true true = refl
or-true false = refl

pub or-false : (b : Bool) → b || false ≡ b
or-false true = refl
or-false false = refl

pub and-true : (b : Bool) → b && true ≡ b
and-true true = refl
and-true false = refl

pub and-false : (b : Bool) → b && false ≡ false
and-false true = refl
and-false false = refl

-- from an equation to the fact
pub of-true : {b : Bool} → b ≡ true → T b
of-true e = rw e tt

pub of-false : {b : Bool} → b ≡ false → T (not b)
of-false e = rw e tt

-- tests that pass together are equal
pub bool-ext : (a b : Bool) → (T a → T b) → (T b → T a) → a ≡ b
bool-ext true b f g = sym (is_true b (f tt))
bool-ext false b f g = sym (is_false b (not_T b g))

pub eq→eqb : (a b : ℕ) → a ≡ b → T (eqb a b)
eq→eqb a b e = rw e (eqb_refl b)

pub ne→neqb : (a b : ℕ) → (a ≡ b → ⊥) → T (not (eqb a b))
ne→neqb a b ne = not_T (eqb a b) (λ t. ne (eqb→eq a b t))

pub neqb→ne : (a b : ℕ) → T (not (eqb a b)) → a ≡ b → ⊥
neqb→ne a b t e = T_not (eqb a b) t (eq→eqb a b e)

pub eqb-sym : (a b : ℕ) → eqb a b ≡ eqb b a
eqb-sym a b = bool-ext (eqb a b) (eqb b a) (λ t. eq→eqb b a (sym (eqb→eq a b t))) (λ t. eq→eqb a b (sym (eqb→eq b a t)))

pub and_comm : (a b : Bool) → a && b ≡ b && a
and_comm true true = refl
and_comm true false = refl
and_comm false true = refl
and_comm false false = refl

-- by the outcome of a test, an order, an equation
pub by-test : {C : Type 0} (b : Bool) → (T b → C) → (T (not b) → C) → C
by-test true f g = f tt
by-test false f g = g tt

pub by_order : {C : Type 0} (a b : ℕ) → (a < b → C) → (b ≤ a → C) → C
by_order a b f g = by-test (ltb a b) (λ t. f (ltb→lt a b t)) (λ t. g (nltb→le a b t))

pub by-eq : {C : Type 0} (a b : ℕ) → (a ≡ b → C) → ((a ≡ b → ⊥) → C) → C
by-eq a b f g = by-test (eqb a b) (λ t. f (eqb→eq a b t)) (λ t. g (neqb→ne a b t))

module _ {A : Type 0} where
  -- what holds of either branch holds of the choice
  pub split : (P : A → Type 0) (b : Bool) {t f : A} → (T b → P t) → (T (not b) → P f) → P (cond b t f)
  split P true h k = h tt
  split P false h k = k tt
