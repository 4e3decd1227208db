-- A group shows what the picture says: its rows are the rivals of each of them.
use mathlib.Core.Path.{◌≡◌, refl, sym, ap, subst, ◌∙◌}
use mathlib.Core.Bool.{Bool, cond}
use mathlib.Core.List.{List, [], ◌∷◌, ◌++◌, map, append-nil}
use Prim.Native.Nat.{ℕ, suc}
use native.Mathlib.Omega.{arith}
use lib.Dec.{T, not_T}
use lib.ListN.{take, drop, take-append-drop}
use Rattle.std.specs.List.{prefix_len}
use Rattle.std.proofs.lemmas.List.{append_cancel_left}
use Rattle.model.specs.Basic.{filter, concat_map}
use Rattle.model.specs.Row.{Row}
use Rattle.model.specs.Key.{same_key}
use Rattle.model.specs.Document.{Document}
use Rattle.model.specs.Visible.{visible}
use Rattle.model.specs.Picture.{seen, rivals}
use Rattle.ids.specs.Words.{same_words}
use Rattle.laws.proofs.Tests.{by-test, is_true, is_false, bool-ext}
use Rattle.laws.proofs.Members.{Mem, here, there, not-nil, append_left, append_right, All, filter-append, filter-all, filter_none, filter_comm, filter_passes, filter-in, filter-ext}
use Rattle.laws.proofs.SameKey.{same-key-refl, same-key-sym, same-key-trans}
use Rattle.found_op.specs.Group.{group_length}
use Rattle.found_op.proofs.Keyed.{Keyed, Together}

on-list : {x : Row} {l k : List Row} → l ≡ k → Mem x l → Mem x k
on-list {x} e m = subst (λ (l : List Row). Mem x l) e m

-- the rows of the keys that are left are all left
pub record Cut (rows rest : List Row) : Type 0 where
  pub from : (r : Row) → Mem r rest → Mem r rows
  pub all : (r : Row) → Mem r rest → filter (same_key r) rows ≡ filter (same_key r) rest

prefix-ext : (p q : Row → Bool) (l : List Row) → All (λ x. p x ≡ q x) l → prefix_len p l ≡ prefix_len q l
prefix-ext p q [] a = refl
prefix-ext p q (x ∷ l) a = let ih = prefix-ext p q l (λ y m. a y (there m)) in by-test (q x) (λ t. rw (a x (here refl), is_true (q x) t, ih)) (λ t. rw (a x (here refl), is_false (q x) t))

alike : (r s x : Row) → T (same_key r s) → same_key s x ≡ same_key r x
alike r s x t = bool-ext (same_key s x) (same_key r x) (same-key-trans r s x t) (same-key-trans s r x (same-key-sym r s t))

module _ {d : Document} (keyed : Keyed d) (r : Row) (l : List Row) (cut : Cut d.rows (r ∷ l)) (together : Together (r ∷ l)) where
  abbrev pub n : ℕ
  n = prefix_len (same_key r) l

  abbrev pub group : List Row
  group = r ∷ take n l

  abbrev pub more : List Row
  more = drop n l

  pub group-is : group_length (r ∷ l) ≡ suc n
  unfolding group_length
  group-is =
      let m = cut.from r (here refl) in
      prefix-ext (same_words r) (same_key r) (r ∷ l) (λ x i. keyed.words r x m (cut.from x i)) ∙ rw (is_true (same_key r r) (same-key-refl r)) (omega arith)

  pub whole : group ++ more ≡ r ∷ l
  whole = ap (λ (k : List Row). r ∷ k) (take-append-drop n l)

  pub of_group : (x : Row) → Mem x group → Mem x (r ∷ l)
  of_group x m = on-list whole (append_left more m)

  of_more : (x : Row) → Mem x more → Mem x (r ∷ l)
  of_more x m = on-list whole (append_right group m)

  key-group : filter (same_key r) (r ∷ l) ≡ group
  key-group = rw (is_true (same_key r r) (same-key-refl r)) (ap (λ (k : List Row). r ∷ k) together.0)

  in_group : (x : Row) → Mem x group → T (same_key r x)
  in_group x m = filter_passes (same_key r) (r ∷ l) (on-list (sym key-group) m)

  none-behind : (x : Row) → Mem x more → T (same_key r x) → ⊥
  none-behind x m t =
      let p = same_key r in
      let e : group ++ filter p more ≡ group ++ [] =
      ap (λ (k : List Row). k ++ filter p more) (sym (filter-all p group in_group)) ∙ sym (filter-append p group more) ∙ ap (filter p) whole ∙ key-group ∙ sym (append-nil group) in
      not-nil (on-list (append_cancel_left group (filter p more) [] e) (filter-in p more m t))

  pub group-rivals : (clock : List ℕ) (x : Row) → Mem x group → rivals clock d x ≡ filter (visible clock d) group
  unfolding rivals seen
  group-rivals clock x m =
      filter_comm (same_key x) (visible clock d) d.rows
      ∙ ap (filter (visible clock d)) (cut.all x (of_group x m) ∙ filter-ext (same_key x) (same_key r) (r ∷ l) (λ y i. alike r x y (in_group x m)) ∙ key-group)

  pub cut-next : Cut d.rows more
  cut-next =
      record {
        from = λ x m. cut.from x (of_more x m);
        all = λ x m.
            let p = same_key x in
            let none : filter p group ≡ [] = filter_none p group (λ y i. not_T (p y) (λ t. none-behind x m (same-key-trans r y x (in_group y i) (same-key-sym x y t)))) in
            cut.all x (of_more x m) ∙ ap (filter p) (sym whole) ∙ filter-append p group more ∙ ap (λ (k : List Row). k ++ filter p more) none;
      }

pub gathered : {A : Type 0} (g : Row → List A) (p : Row → Bool) (h : Row → A) (l : List Row) → All (λ x. g x ≡ cond (p x) (h x ∷ []) []) l → concat_map g l ≡ map h (filter p l)
gathered g p h [] a = refl
gathered g p h (x ∷ l) a =
    let ih = gathered g p h l (λ y m. a y (there m)) in
    by-test (p x)
    (λ t. rw (a x (here refl), is_true (p x) t, ih))
    (λ t. rw (a x (here refl), is_false (p x) t, ih))
