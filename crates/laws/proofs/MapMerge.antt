-- Merging new rows into the rows of one map, as the MapWalker does: both stand by key and then id, and the smaller next row goes first.
use Rattle.std.specs.Prelude.{if◌then◌else◌}
use mathlib.Core.Path.{◌≡◌, refl, sym, ap, subst, ◌∙◌}
use mathlib.Core.Logic.{⊎_elim, inr}
use mathlib.Core.Bool.{not, ◌&&◌}
use mathlib.Core.List.{List, [], ◌∷◌, ◌++◌, map}
use Prim.Native.Nat.{ℕ, zero, suc, ◌+◌, ◌≤◌}
use native.Mathlib.Omega.{arith}
use lib.ListN.{length}
use lib.Dec.{T, T_not, ltb, eqb}
use Rattle.model.specs.Basic.{ascends, lex_before, same}
use Rattle.model.specs.Row.{Row, id_of, object_of, on_list, is_insert}
use Rattle.model.specs.Key.{key_bytes_of}
use Rattle.laws.proofs.Tests.{split, T_and, T-or, T-implies, is_false, eq→eqb}
use Rattle.laws.proofs.Members.{Mem, here, there, not-nil, All, on-mem, on-append, append_left, append_right}
use Rattle.laws.proofs.Pairs.{one_key, pairwise_append, pairwise-left, pairwise-right, pairwise-across}
use Rattle.laws.proofs.Sort.{Sorted, OrderOn}
use Rattle.laws.proofs.Perms.{Perm, perm-nil, perm-cons, perm-trans, perm-mem, perm_middle}
use Rattle.laws.proofs.Lex.{ltb-strict, lex-strict, words-is, pair_before, pair-strict, order-by}
use Rattle.laws.proofs.RowOrder.{Apart}
use Rattle.laws.proofs.Nearest.{nearest}
use Rattle.laws.proofs.Passes.{map_next, list_next, begins, adjacent, first_begins, ins-none}
use Rattle.laws.proofs.Pass.{Pass}
use Rattle.laws.proofs.Untangle.{Event, old, new, row_in, olds}

-- ── the walk
abbrev pub NextBelow : Row → List Row → Type 0
NextBelow r [] = Unit {0}
NextBelow r (d ∷ doc) = T (map_next r d)

pub data Merges : List Row → List Row → List Event → Type 0 where
  ends : Merges [] [] []
  take-new : {u : Row} {news doc : List Row} {out : List Event} → NextBelow u doc → Merges news doc out → Merges (u ∷ news) doc (new u ∷ out)
  take-old : {d : Row} {news doc : List Row} {out : List Event} → NextBelow d news → Merges news doc out → Merges news (d ∷ doc) (old d ∷ out)

pub merges-olds : {news doc : List Row} {out : List Event} → Merges news doc out → olds out ≡ doc
merges-olds ends = refl
merges-olds (take-new h r) = merges-olds r
merges-olds (take-old {d} h r) = ap (λ l. d ∷ l) (merges-olds r)

pub merges-all : {news doc : List Row} {out : List Event} → Merges news doc out → Perm (map row_in out) (doc ++ news)
merges-all ends = perm-nil
merges-all (take-new {u} {news} {doc} h r) = perm-trans (perm-cons refl (merges-all r)) (perm_middle u doc news)
merges-all (take-old {d} h r) = perm-cons refl (merges-all r)

-- ── what it puts out is sorted
pub map-order : (l : List Row) → Apart l → OrderOn map_next l
unfolding map_next
map-order l d =
    order-by (pair_before lex_before same ltb) (pair-strict lex_before same ltb words-is lex-strict ltb-strict) (λ r. (key_bytes_of r, id_of r)) l
    (λ x y m n e. one_key id_of l d x y m n (ap (λ u. u.1) e))

module _ (w : List Row) (o : OrderOn map_next w) where
  -- the smaller next row goes before all that is still to come
  before-all : (r : Row) (l : List Row) → Mem r w → All (λ x. Mem x w) l → NextBelow r l → Sorted map_next l → All (λ x. T (map_next r x)) l
  before-all r [] i a h s x m = absurd (not-nil m)
  before-all r (d ∷ l) i a h s x m = on-mem m (λ e. rw e h) (λ n. o.transitive r d x i (a d (here refl)) (a x (there n)) h (s.0 x n))

  merges-sorted : {news doc : List Row} {out : List Event} → Merges news doc out → All (λ x. Mem x w) news → All (λ x. Mem x w) doc → Sorted map_next news → Sorted map_next doc
      → Sorted map_next (map row_in out)
  merges-sorted ends a b s t = tt
  merges-sorted (take-new {u} {news} {doc} {out} h r) a b s t = (
    λ x m. on-append doc (perm-mem (merges-all r) m) (before-all u doc (a u (here refl)) b h t x) (s.0 x),
    merges-sorted r (λ x m. a x (there m)) b s.1 t,
  )
  merges-sorted (take-old {d} {news} {doc} {out} h r) a b s t = (
    λ x m. on-append doc (perm-mem (merges-all r) m) (t.0 x) (before-all d news (b d (here refl)) a h s x),
    merges-sorted r a (λ x m. b x (there m)) s t.1,
  )

-- ── the walk as a function, a step for each row
abbrev pub map_rows : ℕ → List Row → List Row → List Event
map_rows zero news doc = []
map_rows (suc n) [] [] = []
map_rows (suc n) (u ∷ news) [] = new u ∷ map_rows n news []
map_rows (suc n) [] (d ∷ doc) = old d ∷ map_rows n [] doc
map_rows (suc n) (u ∷ news) (d ∷ doc) = if map_next u d then new u ∷ map_rows n news (d ∷ doc) else old d ∷ map_rows n (u ∷ news) doc

pub map-merges : (n : ℕ) (news doc : List Row) → Apart (doc ++ news) → length news + length doc ≤ n → Merges news doc (map_rows n news doc)
map-merges zero [] [] a h = ends
map-merges zero [] (d ∷ doc) a h = absurd (omega arith)
map-merges zero (u ∷ news) doc a h = absurd (omega arith)
map-merges (suc n) [] [] a h = ends
map-merges (suc n) (u ∷ news) [] a h = take-new tt (map-merges n news [] a.1 (omega arith))
map-merges (suc n) [] (d ∷ doc) a h = take-old tt (map-merges n [] doc a.1 (omega arith))
map-merges (suc n) (u ∷ news) (d ∷ doc) a h =
    let D : Row → Row → Type 0 = λ x y. id_of x ≡ id_of y → ⊥ in
    let w = (d ∷ doc) ++ u ∷ news in
    let apart = a.0 u (append_right doc (here refl)) in
    split (Merges (u ∷ news) (d ∷ doc)) (map_next u d)
    (λ t. take-new t (map-merges n news (d ∷ doc) (pairwise_append (d ∷ doc) news (pairwise-left D (d ∷ doc) (u ∷ news) a) (pairwise-right D (d ∷ doc) (u ∷ news) a).1 (λ x y m k. pairwise-across D (d ∷ doc) (u ∷ news) a x y m (there k))) (omega arith)))
    (λ t.
    let back : T (map_next d u) = ⊎_elim (λ x. absurd (T_not (map_next u d) t x)) (λ x. x) ((map-order w a).total u d (append_right (d ∷ doc) (here refl)) (here refl) (λ e. apart (ap id_of (sym e)))) in
    take-old back (map-merges n (u ∷ news) doc a.1 (omega arith)))

-- ── so it passes
pub record OfMap (o : ℕ) (r : Row) : Type 0 where
  pub here-object : object_of r ≡ o
  pub off_list : T (not (on_list r))
  pub no-insert : T (not (is_insert r))

map-adjacent : (a b : Row) → object_of a ≡ object_of b → T (not (on_list b)) → T (map_next a b) → T (adjacent a b)
unfolding adjacent
map-adjacent a b e l t =
    let one = eqb (object_of a) (object_of b) in
    let next = if on_list b then list_next a b else map_next a b in
    (T-or (ltb (object_of a) (object_of b) && begins b) (one && next)).1 (inr ((T_and one next).1 (eq→eqb (object_of a) (object_of b) e, rw (is_false (on_list b) l) t)))

module _ (o : ℕ) where
  sorted-adjacent : (l : List Row) → All (OfMap o) l → Sorted map_next l → T (ascends adjacent l)
  sorted-adjacent [] g s = tt
  sorted-adjacent (a ∷ []) g s = tt
  sorted-adjacent (a ∷ b ∷ l) g s =
      (T_and (adjacent a b) (ascends adjacent (b ∷ l))).1 (
        map-adjacent a b ((g a (here refl)).here-object ∙ sym (g b (there (here refl))).here-object) (g b (there (here refl))).off_list (s.0 b (here refl)),
        sorted-adjacent (b ∷ l) (λ x m. g x (there m)) s.1,
      )

  map-begins : (l : List Row) → All (OfMap o) l → T (first_begins l)
  unfolding begins
  map-begins [] g = tt
  map-begins (r ∷ l) g = (T-implies (on_list r) (is_insert r)).1 (λ t. absurd (T_not (on_list r) (g r (here refl)).off_list t))

  pub merges-pass : {news doc : List Row} {out : List Event} → Merges news doc out → Apart (doc ++ news) → All (OfMap o) (doc ++ news) → Sorted map_next news → Sorted map_next doc → Pass (map row_in out)
  merges-pass {news} {doc} {out} r a g s t =
      let w = doc ++ news in
      let here-all : All (OfMap o) (map row_in out) = λ x m. g x (perm-mem (merges-all r) m) in
      let sorted = merges-sorted w (map-order w a) r (λ x m. append_right doc m) (λ x m. append_left news m) s t in
      record {
        first = map-begins (map row_in out) here-all;
        next = sorted-adjacent (map row_in out) here-all sorted;
        near = λ q. subst (λ l. T (nearest [] l)) (sym (ins-none (map row_in out) q (λ x m u e. T_not (is_insert x) (here-all x m).no-insert u))) tt;
      }
