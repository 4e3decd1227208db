-- THEOREM no-second-outcome: two outcomes that both satisfy the contract of a call are equal. A contract is the equation with one definition, which
-- fixes the number that is returned, each word of the answer and each word of every lent slice. One line for each public call:
--     exported calls   merge-exported-one, picture-exported-one, spot-exported-one, size-one
--     calls            merge-one, picture-one, spot-one
use mathlib.Core.Path.{◌≡◌, sym, ◌∙◌}
use mathlib.Core.List.{List}
use Prim.Native.Nat.{ℕ}
use Rattle.model.specs.Calls.{MergeBack, PictureBack, SpotBack, merge_call, picture_call, spot_call}
use Rattle.model.specs.Exports.{Exported, merge_exported, picture_exported, spot_exported, size_of}

pub no-second-outcome : {A : Type 0} (defined : A) {x y : A} → x ≡ defined → y ≡ defined → x ≡ y
no-second-outcome defined p q = p ∙ sym q

-- ── the exported calls
module _ (n : ℕ) (rows : List ℕ) (m : ℕ) (succs : List ℕ) (k : ℕ) (batch room answer : List ℕ) where
  pub merge-exported-one : {x y : Exported} → x ≡ merge_exported n rows m succs k batch room answer → y ≡ merge_exported n rows m succs k batch room answer → x ≡ y
  merge-exported-one = no-second-outcome (merge_exported n rows m succs k batch room answer)

module _ (n : ℕ) (rows : List ℕ) (m : ℕ) (succs clock out room answer : List ℕ) where
  pub picture-exported-one : {x y : Exported} → x ≡ picture_exported n rows m succs clock out room answer → y ≡ picture_exported n rows m succs clock out room answer → x ≡ y
  picture-exported-one = no-second-outcome (picture_exported n rows m succs clock out room answer)

module _ (n : ℕ) (rows : List ℕ) (m : ℕ) (succs clock : List ℕ) (object target : ℕ) (room answer : List ℕ) where
  pub spot-exported-one : {x y : Exported} → x ≡ spot_exported n rows m succs clock object target room answer → y ≡ spot_exported n rows m succs clock object target room answer → x ≡ y
  spot-exported-one = no-second-outcome (spot_exported n rows m succs clock object target room answer)

pub size-one : (which : ℕ) {x y : ℕ} → x ≡ size_of which → y ≡ size_of which → x ≡ y
size-one which = no-second-outcome (size_of which)

-- ── the calls
module _ (n : ℕ) (rows : List ℕ) (m : ℕ) (succs : List ℕ) (k : ℕ) (batch room : List ℕ) where
  pub merge-one : {x y : MergeBack} → x ≡ merge_call n rows m succs k batch room → y ≡ merge_call n rows m succs k batch room → x ≡ y
  merge-one = no-second-outcome (merge_call n rows m succs k batch room)

module _ (n : ℕ) (rows : List ℕ) (m : ℕ) (succs clock out room : List ℕ) where
  pub picture-one : {x y : PictureBack} → x ≡ picture_call n rows m succs clock out room → y ≡ picture_call n rows m succs clock out room → x ≡ y
  picture-one = no-second-outcome (picture_call n rows m succs clock out room)

module _ (n : ℕ) (rows : List ℕ) (m : ℕ) (succs clock : List ℕ) (object target : ℕ) (room : List ℕ) where
  pub spot-one : {x y : SpotBack} → x ≡ spot_call n rows m succs clock object target room → y ≡ spot_call n rows m succs clock object target room → x ≡ y
  spot-one = no-second-outcome (spot_call n rows m succs clock object target room)
