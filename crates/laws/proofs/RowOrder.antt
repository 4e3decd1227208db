-- The orders of rows and of successor entries: strict and total wherever ids tell rows apart, so that `order` and the successors' sort
-- depend on what is in a list and not on how it arrived.
use mathlib.Core.Path.{◌≡◌, refl, sym, ap, ap₂, ◌∙◌, fun_ext}
use mathlib.Core.Bool.{Bool, ◌&&◌}
use mathlib.Core.List.{List, ◌∷◌, map}
use Prim.Native.Nat.{ℕ, zero, suc}
use lib.Dec.{ltb, eqb}
use lib.ListN.{length}
use Rattle.model.specs.Basic.{filter, sort, concat_map}
use Rattle.model.specs.Id.{head}
use Rattle.model.specs.Row.{Row, Succ, id_of, object_of, named_of, is_insert, is_make_sequence, owner_of, succ_of}
use Rattle.model.specs.Order.{inserts, children, below, elements, preorder, key_rank, before, order}
use Rattle.model.specs.Document.{succ_before}
use Rattle.laws.proofs.Members.{Same}
use Rattle.laws.proofs.Pairs.{NoDup, KeyDistinct, key-distinct-map, key-distinct-nodup, one_key, filter-pairwise}
use Rattle.laws.proofs.Sort.{Sorted, OrderOn, sort_sorted}
use Rattle.laws.proofs.Perms.{Perm, perm-sym, perm-map, perm-filter, perm-length, perm-pairwise, sort-perm, sort-perm-self, nodup-same-perm}
use Rattle.laws.proofs.Lex.{StrictTotal, ltb-strict, order-by, order-by-three, pair-strict, pair_before, eqb_is}

-- ── numbers, descending and ascending
pub falling : StrictTotal (λ a b. ltb b a)
falling =
    record {
      irreflexive = ltb-strict.irreflexive;
      transitive = λ x y z t u. ltb-strict.transitive z y x u t;
      total = λ x y ne. ltb-strict.total y x (λ e. ne (sym e));
    }

pub numbers-order : (lt : ℕ → ℕ → Bool) → StrictTotal lt → (l : List ℕ) → OrderOn lt l
numbers-order lt s l = order-by lt s (λ x. x) l (λ x y i j e. e)

-- rows whose ids differ
abbrev pub Apart : List Row → Type 0
Apart rs = KeyDistinct id_of rs

pub apart-perm : {rs rs' : List Row} → Perm rs rs' → Apart rs → Apart rs'
apart-perm p = perm-pairwise (λ x y. id_of x ≡ id_of y → ⊥) (λ x y ne e. ne (sym e)) p

ids-apart : (p : Row → Bool) (rs : List Row) → Apart rs → NoDup (map id_of (filter p rs))
ids-apart p rs d = (key-distinct-map id_of (filter p rs)).0 (filter-pairwise (λ x y. id_of x ≡ id_of y → ⊥) p rs d)

-- ── tree preorder does not depend on how the rows arrived
module _ {rs rs' : List Row} (s : Perm rs rs') (d : Apart rs) where
  inserts-perm : (o : ℕ) → Perm (inserts rs o) (inserts rs' o)
  unfolding inserts
  inserts-perm o = perm-filter (λ r. is_insert r && eqb (object_of r) o) s

  children-perm : (o e : ℕ) → children rs o e ≡ children rs' o e
  unfolding children
  children-perm o e =
      let p : Row → Bool = λ r. eqb (named_of r) e in
      let lt : ℕ → ℕ → Bool = λ a b. ltb b a in
      sort-perm lt (map id_of (filter p (inserts rs o))) (map id_of (filter p (inserts rs' o)))
      (numbers-order lt falling (map id_of (filter p (inserts rs o))))
      (ids-apart p (inserts rs o) (inserts-apart o))
      (perm-map id_of (perm-filter p (inserts-perm o)))
    where
      inserts-apart : (o : ℕ) → Apart (inserts rs o)
      inserts-apart o = unfold inserts in filter-pairwise (λ x y. id_of x ≡ id_of y → ⊥) (λ r. is_insert r && eqb (object_of r) o) rs d

  below-perm : (depth o e : ℕ) → below depth rs o e ≡ below depth rs' o e
  unfolding below
  below-perm zero o e = refl
  below-perm (suc depth) o e =
      ap₂ {C = List ℕ} concat_map (fun_ext (λ c. ap (λ (l : List ℕ). c ∷ l) (below-perm depth o c))) (children-perm o e)

  pub elements-perm : (o : ℕ) → elements rs o ≡ elements rs' o
  unfolding elements
  elements-perm o = ap (λ (n : ℕ). below n rs o head) (perm-length s) ∙ below-perm (length rs') o head

  pub preorder-perm : preorder rs ≡ preorder rs'
  unfolding preorder
  preorder-perm =
      ap₂ {C = List ℕ} concat_map (fun_ext elements-perm)
      (sort-perm ltb (map id_of (filter is_make_sequence rs)) (map id_of (filter is_make_sequence rs'))
      (numbers-order ltb ltb-strict (map id_of (filter is_make_sequence rs))) (ids-apart is_make_sequence rs d) (perm-map id_of (perm-filter is_make_sequence s)))

-- ── rows
pub before-order : (es : List ℕ) (rs : List Row) → Apart rs → OrderOn (before es) rs
unfolding before
before-order es rs d = order-by-three object_of (key_rank es) id_of rs (λ x y i j e f g. one_key id_of rs d x y i j g)

pub order-sorted : (rs : List Row) → Apart rs → Sorted (before (preorder rs)) (order rs)
unfolding order
order-sorted rs d = sort_sorted (before (preorder rs)) rs (before-order (preorder rs) rs d) (key-distinct-nodup id_of rs d)

pub order-perm-self : (rs : List Row) → Perm (order rs) rs
unfolding order
order-perm-self rs = sort-perm-self (before (preorder rs)) rs

pub order-perm : (rs rs' : List Row) → Apart rs → Perm rs rs' → order rs ≡ order rs'
unfolding order
order-perm rs rs' d s =
    sort-perm (before (preorder rs)) rs rs' (before-order (preorder rs) rs d) (key-distinct-nodup id_of rs d) s
    ∙ ap (λ es. sort (before es) rs') (preorder-perm s d)

-- rows with the same members are one list when they are put in order
pub order_same : (rs rs' : List Row) → Apart rs → Apart rs' → Same rs rs' → order rs ≡ order rs'
order_same rs rs' d e s =
    order-perm rs rs' d (nodup-same-perm rs rs' (key-distinct-nodup id_of rs d) (key-distinct-nodup id_of rs' e) s)

pub order-again : (rs : List Row) → Apart rs → order (order rs) ≡ order rs
order-again rs d = order-perm (order rs) rs (apart-perm (perm-sym (order-perm-self rs)) d) (order-perm-self rs)

-- ── successor entries: told apart by their row and their id
abbrev pub pair_of : Succ → ℕ × ℕ
pair_of s = (owner_of s, succ_of s)

abbrev pub SuccsApart : List Succ → Type 0
SuccsApart ss = KeyDistinct pair_of ss

pub succ-order : (ss : List Succ) → SuccsApart ss → OrderOn succ_before ss
unfolding succ_before
succ-order ss d =
    order-by (pair_before ltb eqb ltb) (pair-strict ltb eqb ltb eqb_is ltb-strict ltb-strict) pair_of ss (one_key pair_of ss d)
