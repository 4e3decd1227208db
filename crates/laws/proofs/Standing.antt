-- How the rows of a well-formed document stand: a list's rows have its elements, rows of one key have one rank and stand together.
use mathlib.Core.Path.{◌≡◌, refl, sym, ap, ◌∙◌}
use mathlib.Core.Logic.{◌⊎◌, ⊎_elim}
use mathlib.Core.Bool.{true}
use mathlib.Core.List.{List, [], ◌∷◌, map}
use Prim.Native.Nat.{ℕ, ◌≤◌, ◌<◌}
use native.Mathlib.Omega.{arith}
use lib.Dec.{T, T_not, eqb→eq}
use Rattle.model.specs.Basic.{place_in, lex_before}
use Rattle.model.specs.Kinds.{make_map, make_list}
use Rattle.model.specs.Row.{Row, id_of, object_of, action_of, on_list, is_insert, is_make_sequence, element_of}
use Rattle.model.specs.Order.{inserts, elements, preorder, key_rank, before}
use Rattle.model.specs.Document.{Document}
use Rattle.laws.proofs.Tests.{is_true, is_false, of-true, by-test}
use Rattle.laws.proofs.Members.{Mem}
use Rattle.laws.proofs.Pairs.{one_key}
use Rattle.laws.proofs.Sort.{Sorted}
use Rattle.laws.proofs.Lex.{lex-strict}
use Rattle.laws.proofs.Place.{place-eq}
use Rattle.laws.proofs.RowFits.{list-key}
use Rattle.laws.proofs.RowOrder.{order-sorted}
use Rattle.laws.proofs.Before.{before-out}
use Rattle.laws.proofs.SameKey.{SameKey}
use Rattle.laws.proofs.Refers.{names}
use Rattle.laws.proofs.Formed.{Formed}
use Rattle.laws.proofs.Elements.{insert-of, id_in, ins_of, map-map}
use Rattle.laws.proofs.SubDocument.{Placed, on-object, one-kind, id-positive}
use Rattle.laws.proofs.ListOrder.{row-element, list_of, insert-element, in-preorder, elements-stand as inserts-stand}

pub own-element : (r : Row) → is_insert r ≡ true → element_of r ≡ id_of r
own-element r e = insert-element r (of-true e)

-- rows of one key have one rank
pub rank-of : (es : List ℕ) (r q : Row) → SameKey r q → key_rank es r ≡ key_rank es q
unfolding key_rank
rank-of es r q s =
    by-test (on_list r)
    (λ t.
    let a = is_true (on_list r) t in
    let b = sym s.1 ∙ a in
    let k : element_of r ∷ [] ≡ element_of q ∷ [] = rw (a, b) at s.2 in
    let e : element_of r ≡ element_of q = cc in
    rw (a, b, e))
    (λ t.
    let a = is_false (on_list r) t in
    let b = sym s.1 ∙ a in
    rw (a, b) (rw (a, b) at s.2))

-- ── what it says that a row stands before another
pub object-rises : (es : List ℕ) (a b : Row) → T (before es a b) → object_of a ≤ object_of b
object-rises es a b t = ⊎_elim (λ h. omega arith) (λ h. omega (arith, h.0)) (before-out es a b t)

rank_rises : (es : List ℕ) (a b : Row) → object_of a ≡ object_of b → T (before es a b) → T (lex_before (key_rank es a) (key_rank es b)) ⊎ ((key_rank es a ≡ key_rank es b) × (id_of a < id_of b))
rank_rises es a b o t = ⊎_elim (λ h. absurd (omega arith)) (λ h. h.1) (before-out es a b t)

-- rows of one key stand as their ids do
pub id-rises : (es : List ℕ) (a b : Row) → object_of a ≡ object_of b → key_rank es a ≡ key_rank es b → T (before es a b) → id_of a < id_of b
id-rises es a b o k t =
    ⊎_elim (λ u. absurd (lex-strict.irreflexive (key_rank es b) (rw k at u))) (λ h. h.1) (rank_rises es a b o t)

-- ── the rows of a well-formed document
pub placed : {d : Document} → Formed d → Placed d.rows
placed f = record { apart = f.apart; fit = f.rows_fit; objects = f.objects; elements = f.elements }

module _ {d : Document} (f : Formed d) where
  pub positive : (r : Row) → Mem r d.rows → 0 < id_of r
  positive r m = id-positive d.rows (placed f) m

  pub in_order : Sorted (before (preorder d.rows)) d.rows
  in_order = rw f.ordered at (order-sorted d.rows f.apart)

  -- a list's rows are list rows
  pub on-made : (r q : Row) → Mem r d.rows → Mem q d.rows → id_of q ≡ object_of r → T (is_make_sequence q) → on_list r ≡ true
  on-made r q m n e t =
      ⊎_elim (λ w. is_true (on_list r) w.0)
      (λ w. absurd
      (⊎_elim (λ z. omega (arith, positive q n, e, z))
      (λ b.
      let same = one_key id_of d.rows f.apart q b.0 n b.1 (e ∙ sym b.2) in
      omega (arith, eqb→eq (action_of q) make_list t, eqb→eq (action_of b.0) make_map b.3, ap action_of same))
      w.2))
      (on-object d.rows r (f.objects r m))

  -- the insert row of a list row's element
  pub element-row : (r : Row) → Mem r d.rows → on_list r ≡ true
      → (e : Row) × Mem e d.rows × T (is_insert e) × (object_of e ≡ object_of r) × (id_of e ≡ element_of r) × (id_of e ≤ id_of r)
  unfolding element_of
  element-row r m l =
      by-test (is_insert r)
      (λ t. rw (is_true (is_insert r) t) (r, m, t, refl, refl, omega arith))
      (λ t.
      ⊎_elim (λ z. absurd (T_not (is_insert r) t ((list-key r (f.rows_fit r m) (of-true l)).from-head z)))
      (λ w. let k = w.1 in rw (is_false (is_insert r) t) (k.0, k.1, k.2, k.3, k.4, omega (arith, w.0, k.4)))
      (names d.rows r (f.elements r m)))

  -- a list's elements, as its insert rows stand
  pub elements-stand : (o : ℕ) (q : Row) → Mem q d.rows → id_of q ≡ o → T (is_make_sequence q) → elements d.rows o ≡ map id_of (inserts d.rows o)
  unfolding ins_of
  elements-stand o q m e t = sym (inserts-stand d.rows (placed f) f.ordered o (q, m, e, t)) ∙ map-map id_in insert-of (inserts d.rows o)

  -- ── keys by their rank
  key-of-rank : (r q : Row) → Mem r d.rows → Mem q d.rows → object_of r ≡ object_of q → key_rank (preorder d.rows) r ≡ key_rank (preorder d.rows) q → SameKey r q
  unfolding key_rank
  key-of-rank r q m n o k =
      let es = preorder d.rows in
      let l = one-kind d.rows (placed f) r q m n o in
      by-test (on_list r)
      (λ t.
      let a = is_true (on_list r) t in
      let b = sym l ∙ a in
      let p : place_in es (element_of r) ∷ [] ≡ place_in es (element_of q) ∷ [] = rw (a, b) at k in
      let e : place_in es (element_of r) ≡ place_in es (element_of q) = cc in
      let in-es = in-preorder d.rows (placed f) (object_of r) (list_of d.rows (placed f) r m t) (row-element d.rows (placed f) r m t) in
      let x = place-eq es (element_of r) (element_of q) in-es e in
      (o, l, rw (a, b, x)))
      (λ t.
      let a = is_false (on_list r) t in
      let b = sym l ∙ a in
      (o, l, rw (a, b) (rw (a, b) at k)))

  -- the rows of one key stand together
  pub between : (a b c : Row) → Mem a d.rows → Mem b d.rows → T (before (preorder d.rows) a b) → T (before (preorder d.rows) b c) → SameKey a c → SameKey a b
  between a b c m n t u s =
      let es = preorder d.rows in
      let h = object-rises es a b t in
      let i = object-rises es b c u in
      let o : object_of a ≡ object_of b = omega (arith, s.0) in
      let k = rank-of es a c s in
      let no : T (lex_before (key_rank es a) (key_rank es b)) → ⊥ = λ v.
      lex-strict.irreflexive (key_rank es a)
      (⊎_elim (λ w. rw (← k) at (lex-strict.transitive (key_rank es a) (key_rank es b) (key_rank es c) v w)) (λ w. rw (w.0 ∙ sym k) at v) (rank_rises es b c (sym o ∙ s.0) u)) in
      key-of-rank a b m n o (⊎_elim (λ v. absurd (no v)) (λ w. w.0) (rank_rises es a b o t))
