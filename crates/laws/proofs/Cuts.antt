-- A list cut in two: at a member, or behind the last that passes a test.
use mathlib.Core.Path.{◌≡◌, refl, sym, ap}
use mathlib.Core.Bool.{Bool, not}
use mathlib.Core.List.{List, [], ◌∷◌, ◌++◌}
use lib.Dec.{T}
use Rattle.model.specs.Basic.{any, filter, up_to_last}
use Rattle.laws.proofs.Tests.{by-test, is_true, is_false}
use Rattle.laws.proofs.Members.{Mem, not-nil, All, on-mem, filter_none}

pub mem-split : {A : Type 0} {x : A} (l : List A) → Mem x l → (a : List A) × (b : List A) × (l ≡ a ++ x ∷ b)
mem-split [] m = absurd (not-nil m)
mem-split (y ∷ l) m =
    on-mem m (λ e. ([], l, ap (λ z. z ∷ l) (sym e))) (λ n. let r = mem-split l n in (y ∷ r.0, r.1, ap (λ k. y ∷ k) r.2))

-- g passes what stands up to the last that passes q, and nothing else
module _ {A : Type 0} (q g : A → Bool) where
  abbrev pub Cuts : List A → Type 0
  Cuts [] = Unit {0}
  Cuts (x ∷ l) = (T (any q (x ∷ l)) → T (g x)) × (T (not (any q (x ∷ l))) → All (λ y. T (not (g y))) (x ∷ l)) × Cuts l

  pub upto-filter : (l : List A) → Cuts l → up_to_last q l ≡ filter g l
  upto-filter [] c = refl
  upto-filter (x ∷ l) c =
      let ih = upto-filter l c.2 in
      by-test (any q (x ∷ l))
      (λ t. rw (is_true (any q (x ∷ l)) t, is_true (g x) (c.0 t), ih))
      (λ t. rw (is_false (any q (x ∷ l)) t) (sym (filter_none g (x ∷ l) (c.1 t))))
