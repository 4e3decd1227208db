-- The answers of the spot are the definition's.
use mathlib.Core.Path.{◌≡◌, refl}
use mathlib.Core.Bool.{Bool, true, ◌&&◌}
use mathlib.Core.List.{List, [], ◌∷◌}
use Prim.Native.Nat.{ℕ}
use native.Mathlib.Omega.{arith}
use borrow.Author.Tests.{le-ltb, eq-eqb}
use lib.Dec.{eqb}
use Rattle.model.specs.Basic.{any, filter}
use Rattle.model.specs.Row.{Row, Succ, id_of, is_make_sequence}
use Rattle.model.specs.Order.{elements}
use Rattle.model.specs.Spot.{is_list_of, width, widths, first_place, spot_element, spot_place, spot_refusal}
use Rattle.model.specs.Answer.{accepted}
use Rattle.laws.proofs.Tests.{by-test, is_true, is_false}
use Rattle.insert.specs.Lists.{document, makes}
use Rattle.insert.specs.Spotted.{spot_of}

any-filter : (f g : Row → Bool) (l : List Row) → any f (filter g l) ≡ any (λ x. g x && f x) l
any-filter f g [] = refl
any-filter f g (x ∷ l) =
    let ih = any-filter f g l in
    by-test (g x) (λ t. rw (is_true (g x) t, ih)) (λ t. rw (is_false (g x) t, ih))

module _ (rows : List Row) (succs : List Succ) (list : ℕ) where
  pub list_is : is_list_of (document rows succs) list ≡ any (makes list) rows
  unfolding is_list_of makes
  list_is = any-filter is_make_sequence (λ r. eqb (id_of r) list) rows

  pub at_head : (clock : List ℕ) (target : ℕ) {first : ℕ} → any (makes list) rows ≡ true → target ≡ 0 → first_place (document rows succs) list ≡ first
      → accepted (0 ∷ first ∷ []) ≡ spot_of clock (document rows succs) list target
  unfolding spot_of spot_refusal spot_element spot_place
  at_head clock target e z f =
      let d = document rows succs in
      rw (list_is, e, le-ltb (widths (width clock d list) (elements rows list)) target (omega arith), eq-eqb target 0 z, f)
