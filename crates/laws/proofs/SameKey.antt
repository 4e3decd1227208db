-- "Of the same object and key" is sameness of what names the key: an equivalence.
use Rattle.std.specs.Prelude.{if◌then◌else◌}
use mathlib.Core.Path.{◌≡◌, refl, sym, ap, ◌∙◌}
use mathlib.Core.Logic.{◌↔◌}
use mathlib.Core.Bool.{Bool, true, false, not, cond, ◌&&◌}
use mathlib.Core.List.{List, [], ◌∷◌}
use Prim.Native.Nat.{ℕ}
use lib.Dec.{T, eqb, eqb→eq}
use Rattle.model.specs.Basic.{same}
use Rattle.model.specs.Row.{Row, object_of, on_list, element_of}
use Rattle.model.specs.Key.{key_bytes_of, same_key}
use Rattle.laws.proofs.Tests.{T_and, of-true, eq→eqb}
use Rattle.laws.proofs.Members.{words-eq, words-refl}

-- what names a row's key in its object
abbrev pub key_name : Row → List ℕ
key_name r = if on_list r then element_of r ∷ [] else key_bytes_of r

abbrev pub SameKey : Row → Row → Type 0
SameKey a b = (object_of a ≡ object_of b) × (on_list a ≡ on_list b) × (key_name a ≡ key_name b)

module _ (o p e f : ℕ) (k l : List ℕ) where
  by-kinds : (x y : Bool) → T (eqb o p && cond x (y && eqb e f) (not y && same k l)) ↔ ((o ≡ p) × (x ≡ y) × (cond x (e ∷ []) k ≡ cond y (f ∷ []) l))
  by-kinds true true = (
    λ t. let u = (T_and (eqb o p) (eqb e f)).0 t in (eqb→eq o p u.0, refl, ap (λ (n : ℕ). n ∷ []) (eqb→eq e f u.1)),
    λ h. (T_and (eqb o p) (eqb e f)).1 (eq→eqb o p h.0, eq→eqb e f (let q = h.2 in cc)),
  )
  by-kinds true false = (λ t. absurd ((T_and (eqb o p) false).0 t).1, λ h. absurd (of-true (sym h.1)))
  by-kinds false true = (λ t. absurd ((T_and (eqb o p) false).0 t).1, λ h. absurd (of-true h.1))
  by-kinds false false = (
    λ t. let u = (T_and (eqb o p) (same k l)).0 t in (eqb→eq o p u.0, refl, words-eq k l u.1),
    λ h. (T_and (eqb o p) (same k l)).1 (eq→eqb o p h.0, rw h.2 (words-refl l)),
  )

pub same-key-is : (a b : Row) → T (same_key a b) ↔ SameKey a b
unfolding same_key
same-key-is a b = by-kinds (object_of a) (object_of b) (element_of a) (element_of b) (key_bytes_of a) (key_bytes_of b) (on_list a) (on_list b)

pub same-key-refl : (a : Row) → T (same_key a a)
same-key-refl a = (same-key-is a a).1 (refl, refl, refl)

pub same-key-sym : (a b : Row) → T (same_key a b) → T (same_key b a)
same-key-sym a b t = let s = (same-key-is a b).0 t in (same-key-is b a).1 (sym s.0, sym s.1, sym s.2)

pub same-key-trans : (a b c : Row) → T (same_key a b) → T (same_key b c) → T (same_key a c)
same-key-trans a b c t u =
    let s = (same-key-is a b).0 t in
    let r = (same-key-is b c).0 u in
    (same-key-is a c).1 (s.0 ∙ r.0, s.1 ∙ r.1, s.2 ∙ r.2)
