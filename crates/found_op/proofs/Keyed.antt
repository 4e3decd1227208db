-- What the pass over the groups goes by: rows of one key stand together, and are told by their words. A well-formed document has it.
use mathlib.Core.Path.{◌≡◌, refl, ap}
use mathlib.Core.List.{List, [], ◌∷◌}
use Prim.Native.Nat.{ℕ, zero, suc, ◌+◌}
use native.Mathlib.Omega.{arith}
use lib.Dec.{T, not_T}
use lib.ListN.{drop}
use Rattle.std.specs.List.{prefix_len, take_while}
use Rattle.model.specs.Basic.{filter}
use Rattle.model.specs.Row.{Row}
use Rattle.model.specs.Key.{same_key}
use Rattle.model.specs.Order.{preorder, before}
use Rattle.model.specs.Document.{Document}
use Rattle.ids.specs.Words.{same_words}
use Rattle.ids.proofs.KeyWords.{Whole, same-words}
use Rattle.laws.proofs.Tests.{by-test, is_true, is_false}
use Rattle.std.proofs.Common.{T_not}
use Rattle.laws.proofs.Members.{Mem, here, there, All, filter_none}
use Rattle.laws.proofs.Pairs.{Pairwise}
use Rattle.laws.proofs.Formed.{Formed}
use Rattle.laws.proofs.RowFits.{fits}
use Rattle.laws.proofs.SameKey.{same-key-is}
use Rattle.laws.proofs.Standing.{between, in_order}
use Rattle.visible.specs.Scope.{Ascends}

-- behind each row those of its key come first
abbrev pub Together : List Row → Type 0
Together [] = Unit {0}
Together (r ∷ l) = (filter (same_key r) l ≡ take_while (same_key r) l) × Together l

pub together-drop : (n : ℕ) (l : List Row) → Together l → Together (drop n l)
together-drop zero l t = t
together-drop (suc n) [] t = t
together-drop (suc n) (r ∷ l) t = together-drop n l t.1

pub record Keyed (d : Document) : Type 0 where
  pub words : (r s : Row) → Mem r d.rows → Mem s d.rows → same_words r s ≡ same_key r s
  pub together : Together d.rows
  pub ascends : Ascends d.succs

module _ {d : Document} (f : Formed d) where
  first-together : (r : Row) (l : List Row) → Mem r d.rows → All (λ s. Mem s d.rows) l → All (λ s. T (before (preorder d.rows) r s)) l → Pairwise (λ a b. T (before (preorder d.rows) a b)) l
      → filter (same_key r) l ≡ take_while (same_key r) l
  first-together r [] m sub b p = refl
  first-together r (s ∷ l) m sub b p =
      by-test (same_key r s)
      (λ t.
      let e : 1 + prefix_len (same_key r) l ≡ suc (prefix_len (same_key r) l) = omega arith in
      rw (is_true (same_key r s) t, e) (ap (λ (k : List Row). s ∷ k) (first-together r l m (λ x i. sub x (there i)) (λ x i. b x (there i)) p.1)))
      (λ t.
      rw (is_false (same_key r s) t)
      (filter_none (same_key r) l
      (λ x i. not_T (same_key r x)
      (λ u. T_not (same_key r s) t ((same-key-is r s).1 (between f r s x m (sub s (here refl)) (b s (here refl)) (p.0 x i) ((same-key-is r x).0 u)))))))

  all-together : (l : List Row) → All (λ s. Mem s d.rows) l → Pairwise (λ a b. T (before (preorder d.rows) a b)) l → Together l
  all-together [] sub p = tt
  all-together (r ∷ l) sub p =
      (first-together r l (sub r (here refl)) (λ x i. sub x (there i)) p.0 p.1, all-together l (λ x i. sub x (there i)) p.1)

  pub formed-keyed : All Whole d.rows → Keyed d
  formed-keyed w =
      record {
        words = λ r s m n. same-words r s (w r m) (w s n) (fits r (f.rows_fit r m)).key (fits s (f.rows_fit s n)).key;
        together = all-together d.rows (λ x i. i) (in_order f);
        ascends = record { up = f.ascend };
      }
