-- The slices hold what is claimed, told by division.
use Prim.Native.Nat.{ℕ, ◌*◌, ◌/◌, ◌<◌}
use mathlib.Core.Path.{◌≡◌}
use mathlib.Core.Bool.{true, ◌&&◌}
use mathlib.Core.List.{List}
use Rattle.std.proofs.Math.Nat.{le-div_iff_mul-le, div-lt_iff_lt-mul}
use borrow.Author.Tests.{le-leb, lt-leb}
use lib.Dec.{leb, leb→le}
use lib.ListN.{length}
use Rattle.model.specs.Sizes.{row_words, op_words, succ_words}
use Rattle.laws.proofs.Tests.{T_and, by_order, of-true}
use Rattle.refusal.specs.LentFits.{lent_fits, Lent}

pub by_division : (w k l : ℕ) → 0 < w → leb k (l / w) ≡ leb (k * w) l
by_division w k l h =
    by_order (l / w) k
    (λ o. rw (lt-leb k (l / w) o, lt-leb (k * w) l ((div-lt_iff_lt-mul h).0 o)))
    (λ o. rw (le-leb k (l / w) o, le-leb (k * w) l ((le-div_iff_mul-le h).0 o)))

module _ (n : ℕ) (rows : List ℕ) (m : ℕ) (succs : List ℕ) (k : ℕ) (ops : List ℕ) where
  pub lent-holds : lent_fits n rows m succs k ops ≡ true → Lent n rows m succs k ops
  unfolding lent_fits
  lent-holds e =
      let u = (T_and (leb (n * row_words) (length rows) && leb (m * succ_words) (length succs)) (leb (k * op_words) (length ops))).0 (of-true e) in
      let v = (T_and (leb (n * row_words) (length rows)) (leb (m * succ_words) (length succs))).0 u.0 in
      record {
        rows-there = leb→le (n * row_words) (length rows) v.0;
        succs-there = leb→le (m * succ_words) (length succs) v.1;
        ops-there = leb→le (k * op_words) (length ops) u.1;
      }

  pub lent-true : Lent n rows m succs k ops → lent_fits n rows m succs k ops ≡ true
  unfolding lent_fits
  lent-true l =
      rw (le-leb (n * row_words) (length rows) l.rows-there, le-leb (m * succ_words) (length succs) l.succs-there, le-leb (k * op_words) (length ops) l.ops-there)
