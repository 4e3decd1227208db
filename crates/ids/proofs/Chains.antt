-- What a chain over a table answers: the definitions' tests of its pieces. In an answer: `all-ran p _ c.iter.ensures.same c.all.ensures.ran (λ x b q k. search (rules, tests))`.
use Prim.Native.Nat.{ℕ}
use mathlib.Core.Path.{◌≡◌, refl, sym, ap, ◌∙◌}
use mathlib.Core.Bool.{Bool, true, false, ◌&&◌, ◌||◌}
use mathlib.Core.List.{List, [], ◌∷◌, ◌++◌}
use native.Mathlib.Omega.{arith}
use denote.Param.Members.{Mut}
use Rattle.std.specs.Fn.{Called}
use Rattle.std.specs.Iterator.{YieldsFirst, ChecksAll, ChecksAny, FindsPosition}
use Rattle.std.specs.Prelude.{Option, Some, None, if◌then◌else◌}
use Rattle.std.specs.Option.{is_some, option_or}
use Rattle.std.specs.List.{list_all, list_any, position, find}
use Rattle.std.proofs.lemmas.List.Folds.{find-append}
use Rattle.std.proofs.lemmas.Iterator.Consumers.{YieldsList-from_first}
use Rattle.std.proofs.lemmas.Iterator.Search.{all_from_yields_List, any_from_yields_List, position_from_yields_List}
use Rattle.model.specs.Basic.{all, any, filter}

pub all-same : {A : Type 0} (p : A → Bool) (xs : List A) → list_all p xs ≡ all p xs
all-same p [] = refl
all-same p (x ∷ xs) = ap (λ b. p x && b) (all-same p xs)

pub any-same : {A : Type 0} (p : A → Bool) (xs : List A) → list_any p xs ≡ any p xs
any-same p [] = refl
any-same p (x ∷ xs) = ap (λ b. p x || b) (any-same p xs)

pub filter-same : {A : Type 0} (p : A → Bool) (xs : List A) → Rattle.std.specs.List.filter p xs ≡ filter p xs
filter-same p [] = refl
filter-same p (x ∷ xs) = ap (λ ys. if p x then x ∷ ys else ys) (filter-same p xs)

module _ {A F : Type 0} {g : Mut F (A × Unit {0}) Bool} {s u : List A} {f : F} (p : A → Bool) (xs : List A) where
  pub all-ran : {r : Bool} → s ≡ xs → ChecksAll (YieldsFirst (λ s. s)) g s f r u → ((x : A) (b : Bool) (q : F) → Called g f (x, tt) b q → (q ≡ f) × (b ≡ p x)) → r ≡ all p xs
  all-ran {r} e ran k = all_from_yields_List p u f r ran (YieldsList-from_first (λ x. x) (λ s. s) xs e) k ∙ all-same p xs

  pub any-ran : {r : Bool} → s ≡ xs → ChecksAny (YieldsFirst (λ s. s)) g s f r u → ((x : A) (b : Bool) (q : F) → Called g f (x, tt) b q → (q ≡ f) × (b ≡ p x)) → r ≡ any p xs
  any-ran {r} e ran k = any_from_yields_List p u f r ran (YieldsList-from_first (λ x. x) (λ s. s) xs e) k ∙ any-same p xs

  pub position-ran : {r : Option ℕ} → s ≡ xs → FindsPosition (YieldsFirst (λ s. s)) g s f r u → ((x : A) (b : Bool) (q : F) → Called g f (x, tt) b q → (q ≡ f) × (b ≡ p x)) → r ≡ position p xs
  position-ran {r} e ran k = position_from_yields_List p u f r ran (YieldsList-from_first (λ x. x) (λ s. s) xs e) k

-- the first member of xs that passes, by two parts of it
some-or : {A : Type 0} (o m : Option A) → is_some o ≡ true → option_or o m ≡ o
some-or (Some x) m t = refl
some-or None m t = let z : ◌≡◌ {A = ℕ} 0 1 = cc in absurd (omega arith)

none-or : {A : Type 0} (o m : Option A) → is_some o ≡ false → option_or o m ≡ m
none-or (Some x) m t = let z : ◌≡◌ {A = ℕ} 0 1 = cc in absurd (omega arith)
none-or None m t = refl

module _ {A : Type 0} (p : A → Bool) (l k : List A) {xs : List A} (e : l ++ k ≡ xs) where
  both : {o : Option A} → o ≡ find p l → option_or o (find p k) ≡ find p xs
  both f = ap (λ o. option_or o (find p k)) f ∙ sym (find-append p l k) ∙ ap (find p) e

  pub found_first : {o : Option A} → o ≡ find p l → is_some o ≡ true → o ≡ find p xs
  found_first {o} f t = sym (some-or o (find p k) t) ∙ both f

  pub found_second : {o r : Option A} → o ≡ find p l → is_some o ≡ false → r ≡ find p k → r ≡ find p xs
  found_second {o} f t g = g ∙ sym (none-or o (find p k) t) ∙ both f
