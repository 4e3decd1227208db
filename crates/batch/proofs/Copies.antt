-- Parts of a slice, and copies of them.
use mathlib.Core.Path.{◌≡◌, refl, sym, ◌∙◌}
use mathlib.Core.List.{List, append_assoc}
use borrow.Rule.Slice.PartMut.{put_mid}
use Prim.Native.Nat.{ℕ, ◌+◌, ◌*◌, ◌≤◌}
use native.Mathlib.Omega.{arith}
use lib.ListN.{length, take, drop, length-drop}
use lib.Seq.{sets, sets-eq, paste, drop-drop, take-take, length-take-le}
use Rattle.model.specs.Sizes.{row_words, op_words}
use Rattle.model.specs.Row.{row_of}
use Rattle.ids.specs.Words.{piece_at}
use Rattle.batch.specs.Parts.{part}

-- ── a part of a slice
pub length_part : (w : ℕ) (xs : List ℕ) (at : ℕ) → at + w ≤ length xs → length (part w xs at) ≡ w
unfolding part
length_part w xs at h = length-take-le w (drop at xs) (simp length-drop (omega arith))

pub piece-part : (w : ℕ) (xs : List ℕ) (i : ℕ) → piece_at w xs i ≡ part w xs (i * w)
unfolding piece_at part
piece-part w xs i = refl

pub row_part : (ops : List ℕ) (x : ℕ) → row_of (piece_at op_words ops x) ≡ part row_words ops (x * op_words)
unfolding piece_at part
row_part ops x = take-take row_words op_words (drop (x * op_words) ops) (omega arith)

-- ── words put in the place of others: a part that was lent and came back is a run of stores
pub stored : (d : List ℕ) (to : ℕ) (vs : List ℕ) → to + length vs ≤ length d → {n : ℕ} → n ≡ length vs → {r : List ℕ} → r ≡ vs → put_mid to n d r ≡ sets d to vs
stored d to vs h en e =
    let k : drop (to + length vs) d ≡ drop (length vs) (drop to d) = sym (drop-drop (length vs) to d) in
    rw (e, en) (sym (sets-eq vs d to h ∙ rw k (append_assoc (take to d) vs (drop (length vs) (drop to d)))))

-- the w words of s at `from`, copied to those of d at `to`, from another slice and within one
module _ (w : ℕ) (d : List ℕ) (to from : ℕ) where
  pub copied : (s : List ℕ) → to + w ≤ length d → from + w ≤ length s → {n m : ℕ} → n ≡ w → m ≡ w → {r : List ℕ} → r ≡ take m (drop from s) → put_mid to n d r ≡ sets d to (part w s from)
  unfolding part
  copied s h l en em e =
      let n : length (take w (drop from s)) ≡ w = length_part w s from l in
      stored d to (take w (drop from s)) (omega arith) (en ∙ sym n) (rw em at e)

  pub moved : to + w ≤ length d → from + w ≤ length d → {n : ℕ} → n ≡ w → {x : List ℕ} → x ≡ paste d to (drop from d) n → x ≡ sets d to (part w d from)
  unfolding part
  moved h l en e =
      let n : length (take w (drop from d)) ≡ w = length_part w d from l in
      e ∙ rw en (sym (sets-eq (take w (drop from d)) d to (omega arith) ∙ rw n refl))
