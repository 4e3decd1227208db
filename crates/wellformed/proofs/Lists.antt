-- Tests of lists that the rules are taken apart with.
use Prim.Native.Nat.{ℕ}
use mathlib.Core.Path.{◌≡◌, refl, ap, ◌∙◌}
use mathlib.Core.Bool.{Bool, true, false, cond, ◌&&◌, ◌||◌}
use mathlib.Core.List.{List, [], ◌∷◌, map}
use lib.Dec.{eqb}
use lib.ListN.{length, take, drop}
use lib.Seq.{take-length}
use Rattle.std.specs.Prelude.{Option, Some}
use Rattle.std.specs.Ordering.{is_lt, is_some_and, partial_ordering_then}
use Rattle.std.specs.declared.cmp.Ordering.{Ordering}
use Rattle.std.specs.declared.cmp.Ordering.TheVariants.{Less, Equal, Greater}
use Rattle.std.specs.List.{list_all, zip}
use Rattle.model.specs.Basic.{any, all, ascends, member}
use Rattle.laws.proofs.Tests.{eqb-sym}

-- five numbers against five, as the library compares arrays
abbrev told : Bool → Bool → Option Ordering
told l e = Some (cond l Less (cond e Equal Greater))

pub first-less : (l1 e1 l2 e2 l3 e3 l4 e4 l5 e5 : Bool)
    → is_some_and is_lt (partial_ordering_then (told l1 e1) (partial_ordering_then (told l2 e2) (partial_ordering_then (told l3 e3) (partial_ordering_then (told l4 e4) (partial_ordering_then (told l5 e5) (Some Equal))))))
    ≡ (l1 || e1 && (l2 || e2 && (l3 || e3 && (l4 || e4 && l5))))
first-less true e1 l2 e2 l3 e3 l4 e4 l5 e5 = refl
first-less false false l2 e2 l3 e3 l4 e4 l5 e5 = refl
first-less false true true e2 l3 e3 l4 e4 l5 e5 = refl
first-less false true false false l3 e3 l4 e4 l5 e5 = refl
first-less false true false true true e3 l4 e4 l5 e5 = refl
first-less false true false true false false l4 e4 l5 e5 = refl
first-less false true false true false true true e4 l5 e5 = refl
first-less false true false true false true false false l5 e5 = refl
first-less false true false true false true false true true e5 = refl
first-less false true false true false true false true false true = refl
first-less false true false true false true false true false false = refl

module _ {A : Type 0} where
  -- all but the first
  pub behind-is : {n : ℕ} {b : List A} (xs : List A) → n ≡ length xs → b ≡ drop 1 (take n xs) → b ≡ drop 1 xs
  behind-is {n} xs e f = f ∙ ap (λ k. drop 1 (take k xs)) e ∙ ap (drop 1) (take-length xs)

  pub member-by : (f : A → ℕ) (i : ℕ) (l : List A) → member i (map f l) ≡ any (λ x. eqb (f x) i) l
  member-by f i [] = refl
  member-by f i (x ∷ l) = rw (eqb-sym i (f x), member-by f i l)

  pub all_both : (p q : A → Bool) (l : List A) → all (λ x. p x && q x) l ≡ (all p l && all q l)
  all_both p q [] = refl
  all_both p q (x ∷ l) = rw (all_both p q l) (swap (p x) (q x) (all p l) (all q l))
    where
      swap : (a b c d : Bool) → (a && b) && (c && d) ≡ (a && c) && (b && d)
      swap false b c d = refl
      swap true true c d = refl
      swap true false true d = refl
      swap true false false d = refl

  -- neighbours, each with the one behind it
  pub ascends-pairs : (before : A → A → Bool) (l : List A) → ascends before l ≡ list_all (λ q. before q.0 q.1) (zip l (drop 1 l))
  ascends-pairs before [] = refl
  ascends-pairs before (x ∷ []) = refl
  ascends-pairs before (x ∷ y ∷ l) = rw (ascends-pairs before (y ∷ l))
