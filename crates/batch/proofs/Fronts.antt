-- A list that is filled from its front: the next member is stored behind those before it.
use mathlib.Core.Path.{◌≡◌, refl, sym, ap, ◌∙◌}
use mathlib.Core.List.{List, [], ◌∷◌, ◌++◌, append_assoc}
use Prim.Native.Nat.{ℕ, ◌+◌, ◌≤◌, ◌<◌}
use native.Mathlib.Numerals.{add-one}
use native.Mathlib.Omega.{arith}
use lib.ListN.{length, get_or, take, set, length-set}
use lib.Seq.{take-suc, take-suc-set, take_all}

module _ {A : Type 0} (x : List A) (j : ℕ) (v : A) (h : j < length x) where
  pub put_next : take (j + 1) (set x j v) ≡ take j x ++ v ∷ []
  put_next = rw (add-one j) (take-suc-set x j v h)

  -- it was the first of what was to come
  pub front-next : (more : List A) → take j x ++ v ∷ more ≡ take (j + 1) (set x j v) ++ more
  front-next more = sym (append_assoc (take j x) (v ∷ []) more) ∙ ap (λ (l : List A). l ++ more) (sym put_next)

-- x was x₀, and has the first j of s at its front
pub record Copying {A : Type 0} (x₀ s x : List A) (j : ℕ) : Type 0 where
  pub within : j ≤ length x₀
  pub same : length x ≡ length x₀
  pub front : take j x ≡ take j s

module _ {A : Type 0} {x₀ s : List A} where
  pub copy-start : Copying x₀ s x₀ 0
  copy-start = record { within = omega arith; same = refl; front = refl }

  module _ {x : List A} {j : ℕ} (c : Copying x₀ s x j) where
    pub copy-turn : (d : A) → j < length x₀ → j < length s → Copying x₀ s (set x j (get_or s j d)) (j + 1)
    copy-turn d h l =
        record {
          within = omega arith;
          same = length-set x j (get_or s j d) ∙ c.same;
          front =
              put_next x j (get_or s j d) (omega (arith, c.same))
              ∙ ap (λ (l : List A). l ++ get_or s j d ∷ []) c.front
              ∙ sym (rw (add-one j) (take-suc s j d l));
        }

    pub copy-end : length x₀ ≤ j → x ≡ take (length x₀) s
    copy-end h =
        let e : j ≡ length x₀ = omega (arith, c.within) in
        sym (take_all j x (omega (arith, c.same))) ∙ c.front ∙ ap (λ k. take k s) e
