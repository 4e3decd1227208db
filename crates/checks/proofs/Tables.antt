-- The tables of numbers in check 4: a number is in one exactly where some kind of the enum has it.
use Prim.Native.Nat.{ℕ}
use mathlib.Core.Path.{◌≡◌, sym, subst, ◌∙◌}
use mathlib.Core.Bool.{false, ◌||◌}
use mathlib.Core.List.{List, [], ◌∷◌}
use borrow.Author.Tests.{ne_eqb}
use lib.Dec.{T, eqb, leb, eqb→eq}
use Rattle.std.specs.Prelude.{Result, Ok, Err, map, is_ok}
use Rattle.model.specs.Basic.{member}
use Rattle.laws.proofs.Tests.{by-test, is_true, is_false, or-false}
use Rattle.model.specs.Kinds.{null_kind, boolean_kind, unsigned_kind, signed_kind, float_kind, counter_kind, timestamp_kind}
use Rattle.model.specs.Row.{Row, value_kind_of, value_of}
use Rattle.model.specs.Malformed.{set_value_fits}
use Rattle.ids.specs.Kinds.{Decodes, key_number, action_number, value_number}
use Rattle.ids.specs.declared.kinds.KeyKind.{KeyKind}
use Rattle.ids.specs.declared.kinds.KeyKind.TheVariants.{Map, List as OnList}
use Rattle.ids.specs.declared.kinds.Action.{Action}
use Rattle.ids.specs.declared.kinds.Action.TheVariants.{MakeMap, Set, MakeList, Delete, Increment}
use Rattle.ids.specs.declared.kinds.ValueKind.{ValueKind}
use Rattle.ids.specs.declared.kinds.ValueKind.TheVariants.{Null, Boolean, Unsigned, Signed, Float, Counter, Timestamp}
use Rattle.ids.specs.declared.kinds.Unknown.{Unknown}
use Rattle.checks.specs.Fits.{is_key_kind, is_action, is_value}

module _ {K : Type 0} (number : K → ℕ) where
  -- a number of the table is some kind's
  kind_of : (n : ℕ) (ks : List K) → T (member n (map number ks)) → (k : K) × (number k ≡ n)
  kind_of n [] t = absurd t
  kind_of n (k ∷ ks) t =
      by-test (eqb n (number k))
      (λ u. (k, sym (eqb→eq n (number k) u)))
      (λ u. kind_of n ks (rw (is_false (eqb n (number k)) u) at t))

  known : (n : ℕ) (ks : List K) → ((k : K) → T (member (number k) (map number ks))) → (r : Result K Unknown) → Decodes number n r → is_ok r ≡ member n (map number ks)
  known n ks all (Ok k) e = sym (is_true (member n (map number ks)) (rw (sym e) (all k)))
  known n ks all (Err u) e = sym (by-test (member n (map number ks)) (λ t. let k = kind_of n ks t in absurd (e.0 k.0 k.1)) (is_false (member n (map number ks))))

pub key_kind_known : (n : ℕ) (r : Result KeyKind Unknown) → Decodes key_number n r → is_ok r ≡ is_key_kind n
unfolding is_key_kind
key_kind_known n r e = known key_number n (Map ∷ OnList ∷ []) each r e
  where
    each : (k : KeyKind) → T (member (key_number k) (map key_number (Map ∷ OnList ∷ [])))
    each Map = tt
    each OnList = tt

pub action_known : (n : ℕ) (r : Result Action Unknown) → Decodes action_number n r → is_ok r ≡ is_action n
unfolding is_action
action_known n r e = known action_number n (MakeMap ∷ Set ∷ MakeList ∷ Delete ∷ Increment ∷ []) each r e
  where
    each : (k : Action) → T (member (action_number k) (map action_number (MakeMap ∷ Set ∷ MakeList ∷ Delete ∷ Increment ∷ [])))
    each MakeMap = tt
    each Set = tt
    each MakeList = tt
    each Delete = tt
    each Increment = tt

-- what a Set may hold: a value of some kind
module _ (r : Row) where
  value-of : (k : ValueKind) → value_number k ≡ value_kind_of r → set_value_fits r ≡ is_value k (value_of r)
  unfolding set_value_fits
  value-of Null e = rw (sym e) (or-false (eqb (value_of r) 0 || false) ∙ or-false (eqb (value_of r) 0))
  value-of Boolean e = rw (sym e) (or-false (leb (value_of r) 1))
  value-of Unsigned e = rw (sym e)
  value-of Signed e = rw (sym e)
  value-of Float e = rw (sym e)
  value-of Counter e = rw (sym e)
  value-of Timestamp e = rw (sym e)

  pub value-known : (d : Result ValueKind Unknown) → Decodes value_number (value_kind_of r) d → (k : ValueKind) → d ≡ Ok k → set_value_fits r ≡ is_value k (value_of r)
  value-known d e k i = value-of k (subst (λ d. Decodes value_number (value_kind_of r) d) i e)

  pub value-unknown : (d : Result ValueKind Unknown) → Decodes value_number (value_kind_of r) d → (u : Unknown) → d ≡ Err u → set_value_fits r ≡ false
  unfolding set_value_fits
  value-unknown d e u i =
      let none = (subst (λ d. Decodes value_number (value_kind_of r) d) i e).0 in
      rw (
        ne_eqb (value_kind_of r) null_kind (λ h. none Null (sym h)),
        ne_eqb (value_kind_of r) boolean_kind (λ h. none Boolean (sym h)),
        ne_eqb (value_kind_of r) unsigned_kind (λ h. none Unsigned (sym h)),
        ne_eqb (value_kind_of r) signed_kind (λ h. none Signed (sym h)),
        ne_eqb (value_kind_of r) float_kind (λ h. none Float (sym h)),
        ne_eqb (value_kind_of r) counter_kind (λ h. none Counter (sym h)),
        ne_eqb (value_kind_of r) timestamp_kind (λ h. none Timestamp (sym h)),
      )
