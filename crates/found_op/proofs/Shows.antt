-- What a row and a group of rows write.
use mathlib.Core.Path.{◌≡◌, refl, sym, ap, ◌∙◌}
use mathlib.Core.List.{List, [], ◌∷◌}
use Prim.Native.Nat.{ℕ, suc, ◌+◌, ◌*◌, ◌≤◌}
use native.Mathlib.Omega.{arith}
use lib.ListN.{length}
use lib.Seq.{sets, sets-eq}
use borrow.Rule.Slice.PartMut.{put_mid}
use Rattle.std.proofs.lemmas.List.{take_all}
use Rattle.std.proofs.lemmas.Slice.{put_mid-paste}
use Rattle.std.proofs.Common.{Option, Some, None, Result, Ok, Err}
use Rattle.std.specs.Result.{result_transpose}
use Rattle.model.specs.Basic.{concat_map}
use Rattle.model.specs.Sizes.{entry_words}
use Rattle.model.specs.Row.{Row, Succ}
use Rattle.visible.specs.declared.sum.Outgrown.{Outgrown}
use Rattle.visible.specs.Scope.{scope, owned}
use Rattle.visible.specs.Scoped.{scoped}
use Rattle.found_op.specs.declared.group.Found.{Found}
use Rattle.found_op.specs.Entry.{entry_of}
use Rattle.found_op.specs.Group.{entries_of, row_shown}
use Rattle.found_op.specs.Page.{Page, page, writes}
use Rattle.found_op.proofs.Pages.{writes-append, writes-count, writes-length}

none-of : (f : Found) (r : Row) (s : Result (Option ℕ) Outgrown) → result_transpose s ≡ None → [] ≡ entries_of f r s
none-of f r (Ok None) e = refl
none-of f r (Ok (Some v)) e = absurd (cc)
none-of f r (Err o) e = absurd (cc)

one-of : (f : Found) (r : Row) (s : Result (Option ℕ) Outgrown) {x : Result ℕ Outgrown} → result_transpose s ≡ Some x → entry_of r f x ∷ [] ≡ entries_of f r s
one-of f r (Ok None) e = absurd (cc)
one-of f r (Ok (Some v)) {x} e = ap (λ y. entry_of r f y ∷ []) (cc)
one-of f r (Err o) {x} e = ap (λ y. entry_of r f y ∷ []) (cc)

few-of : (f : Found) (r : Row) (s : Result (Option ℕ) Outgrown) → length (entries_of f r s) ≤ 1
few-of f r (Ok None) = omega arith
few-of f r (Ok (Some v)) = omega arith
few-of f r (Err o) = omega arith

module _ (clock : List ℕ) (succs : List Succ) (f : Found) (r : Row) {s : Result (Option ℕ) Outgrown} (e : s ≡ scoped clock (scope (owned succs r)) r) where
  pub shows_nothing : (p : Page) → result_transpose s ≡ None → p ≡ writes p (row_shown clock succs f r)
  unfolding row_shown
  shows_nothing p q = rw (← e, ← none-of f r s q)

  pub shows_entry : {x : Result ℕ Outgrown} (out : List ℕ) {new : List ℕ} (k : ℕ) → result_transpose s ≡ Some x → new ≡ sets out (k * entry_words) (entry_of r f x)
      → page new (k + 1) ≡ writes (page out k) (row_shown clock succs f r)
  unfolding row_shown
  shows_entry out k q w = rw (← e, ← one-of f r s q, w)

pub row-few : (clock : List ℕ) (succs : List Succ) (f : Found) (r : Row) → length (row_shown clock succs f r) ≤ 1
unfolding row_shown
row-few clock succs f r = few-of f r (scoped clock (scope (owned succs r)) r)

-- an entry put into its place of the output
pub written : (out : List ℕ) {new e : List ℕ} (a : ℕ) {n : ℕ} → n ≡ entry_words → new ≡ e → length e ≡ entry_words → a + entry_words ≤ length out → put_mid a n out new ≡ sets out a e
written out {new} {e} a {n} q f l h =
    let k : n ≡ length e = omega arith in
    put_mid-paste a n out new e n f refl k
    ∙ rw (k, take_all (length e) e (omega arith)) (sym (sets-eq e out a (omega arith)))

-- ── the loop over a group: what is written so far, with the rows that are left
pub record Showing (g : Row → List (List ℕ)) (group rest : List Row) (p : Page) (out : List ℕ) (next : ℕ) : Type 0 where
  pub few : next + length rest ≤ p.count + length group
  pub same : length out ≡ length p.out
  pub whole : writes p (concat_map g group) ≡ writes (page out next) (concat_map g rest)

module _ {g : Row → List (List ℕ)} {group : List Row} {p : Page} where
  pub showing-turn : {r : Row} {rest more : List Row} {out new : List ℕ} {next k : ℕ} → Showing g group rest p out next → rest ≡ r ∷ more → length (g r) ≤ 1
      → page new k ≡ writes (page out next) (g r) → Showing g group more p new k
  showing-turn {r} {rest} {more} {out} {new} {next} {k} s e one q =
      let n : length rest ≡ suc (length more) = ap length e in
      let c : k ≡ next + length (g r) = ap (λ (x : Page). x.count) q ∙ writes-count (page out next) (g r) in
      record {
        few = omega (arith, s.few);
        same = ap (λ (x : Page). length x.out) q ∙ writes-length (page out next) (g r) ∙ s.same;
        whole =
            s.whole
            ∙ ap (λ (l : List Row). writes (page out next) (concat_map g l)) e
            ∙ writes-append (page out next) (g r) (concat_map g more)
            ∙ ap (λ (x : Page). writes x (concat_map g more)) (sym q);
      }

  pub showing-end : {rest : List Row} {out : List ℕ} {next : ℕ} → Showing g group rest p out next → rest ≡ [] → page out next ≡ writes p (concat_map g group)
  showing-end {rest} {out} {next} s e = sym (s.whole ∙ ap (λ (l : List Row). writes (page out next) (concat_map g l)) e)
