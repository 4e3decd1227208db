-- Loops that write a number for each row of a group.
use mathlib.Core.Path.{◌≡◌, refl, sym, ap₂, ◌∙◌}
use mathlib.Core.List.{List, [], ◌∷◌, ◌++◌, map}
use Prim.Native.Nat.{ℕ, ◌+◌, ◌*◌, ◌≤◌, ◌<◌}
use native.Mathlib.Numerals.{add-one}
use native.Mathlib.Omega.{arith}
use lib.ListN.{length, get_or, take, set, length-set, length-map}
use lib.Seq.{take-suc, take_all}
use Rattle.model.specs.Sizes.{row_words, op_words, word_range}
use Rattle.model.specs.Row.{Row, named_of, insert_of}
use Rattle.laws.proofs.Members.{All, get_or-mem}
use Rattle.laws.proofs.Parts.{get_or-map}
use Rattle.batch.specs.Walk.{new_rows_of, tag_of}
use Rattle.batch.specs.Parts.{part}
use Rattle.batch.proofs.NewRows.{length-new, new-at}
use Rattle.batch.proofs.Fronts.{put_next}

-- ── a number of each row of a group
pub record Numbered (f : Row → ℕ) (ops group out x : List ℕ) (j : ℕ) : Type 0 where
  pub within : j ≤ length group
  pub size : length out ≡ length group
  pub kept : length x ≡ length group
  pub front : take j x ≡ take j (map f (new_rows_of ops group))

module _ {f : Row → ℕ} {ops group out : List ℕ} where
  pub numbers-start : length out ≡ length group → Numbered f ops group out out 0
  numbers-start h = record { within = omega arith; size = h; kept = h; front = refl }

  pub numbers-turn : {x : List ℕ} {j : ℕ} → Numbered f ops group out x j → j < length group → (v : ℕ) → v ≡ f (get_or (new_rows_of ops group) j []) → Numbered f ops group out (set x j v) (j + 1)
  numbers-turn {x} {j} c h v e =
      let l : List ℕ = map f (new_rows_of ops group) in
      let n : j < length l = omega (arith, length-map (new_rows_of ops group) f, length-new ops group) in
      record {
        within = omega arith;
        size = c.size;
        kept = simp length-set c.kept;
        front =
            put_next x j v (omega (arith, c.kept))
            ∙ ap₂ (λ (p : List ℕ) (q : ℕ). p ++ q ∷ []) c.front (e ∙ sym (get_or-map f (new_rows_of ops group) j [] 0 (omega (arith, length-new ops group))))
            ∙ sym (rw (add-one j) (take-suc l j 0 n));
      }

  pub numbers-end : {x : List ℕ} {j : ℕ} → Numbered f ops group out x j → length group ≤ j → x ≡ map f (new_rows_of ops group)
  numbers-end {x} {j} c h =
      sym (take_all j x (omega (arith, c.kept))) ∙ c.front ∙ take_all j (map f (new_rows_of ops group)) (omega (arith, length-map (new_rows_of ops group) f, length-new ops group))

-- ── a tag, as it is made of the row that new row j is
module _ (ops group : List ℕ) (j : ℕ) (h : j < length group) {r : Row} (e : r ≡ part row_words ops (get_or group j 0 * op_words)) {a b : ℕ} (named : a ≡ named_of r) (insert : b ≡ insert_of r) where
  pub tag-made : a * 2 + b ≡ tag_of (get_or (new_rows_of ops group) j [])
  unfolding tag_of
  tag-made = rw (named, insert, e, new-at ops group j h)

  pub tag-small : All (λ r. tag_of r < word_range) (new_rows_of ops group) → a * 2 + b < word_range
  tag-small s = rw tag-made (s (get_or (new_rows_of ops group) j []) (get_or-mem (new_rows_of ops group) j [] (omega (arith, length-new ops group))))
