-- What a walk puts out, as new rows and places: each new row goes before so many of the document's rows. Two sorted lists are merged likewise.
--     put_at ns ps rs     the rows rs with each new row put in at its place, the last one first
--     placed-out         so a walk's output is the document's rows with its new rows at their places
--     merge-sort         merging two sorted lists sorts both
use Rattle.std.specs.Prelude.{if◌then◌else◌}
use mathlib.Core.Path.{◌≡◌, refl, sym, ap, ap₂, ◌∙◌}
use mathlib.Core.Logic.{⊎_elim}
use mathlib.Core.Bool.{Bool}
use mathlib.Core.List.{List, [], ◌∷◌, ◌++◌, map, append_assoc, append-nil}
use Prim.Native.Nat.{ℕ, zero, suc, ◌+◌, ◌≤◌}
use native.Mathlib.Omega.{arith}
use lib.ListN.{length, take, drop, length-append}
use lib.Seq.{take_at, drop_at}
use lib.Dec.{T, T_not}
use Rattle.model.specs.Basic.{sort}
use Rattle.model.specs.Row.{Row}
use Rattle.laws.proofs.Tests.{split}
use Rattle.laws.proofs.Members.{Mem, here, there, All, on-mem, on-append, append_left, append_right}
use Rattle.laws.proofs.Pairs.{NoDup, pairwise-across}
use Rattle.laws.proofs.Sort.{Sorted, OrderOn, sort-unique}
use Rattle.laws.proofs.Perms.{Perm, perm-cons, perm-trans, perm-refl, perm-eq, perm-mem, perm_same, perm_middle}
use Rattle.laws.proofs.Untangle.{Event, old, new, row_in, olds}

-- ── places
abbrev pub put_one : {A : Type 0} → ℕ → A → List A → List A
put_one p x rs = take p rs ++ x ∷ drop p rs

abbrev pub put_at : {A : Type 0} → List A → List ℕ → List A → List A
put_at [] ps rs = rs
put_at (x ∷ ns) [] rs = rs
put_at (x ∷ ns) (p ∷ ps) rs = put_one p x (put_at ns ps rs)

abbrev pub news_in : List Event → List Row
news_in [] = []
news_in (old r ∷ out) = news_in out
news_in (new r ∷ out) = r ∷ news_in out

-- how many of the document's rows come before each new one, k of them having come already
abbrev pub places_in : ℕ → List Event → List ℕ
places_in k [] = []
places_in k (old r ∷ out) = places_in (suc k) out
places_in k (new r ∷ out) = k ∷ places_in k out

placed-behind : (pre : List Row) (out : List Event) → pre ++ map row_in out ≡ put_at (news_in out) (places_in (length pre) out) (pre ++ olds out)
placed-behind pre [] = refl
placed-behind pre (old r ∷ out) =
    sym (append_assoc pre (r ∷ []) (map row_in out))
    ∙ placed-behind (pre ++ r ∷ []) out
    ∙ ap₂ (λ k l. put_at (news_in out) (places_in k out) l) (length-append pre (r ∷ []) ∙ omega arith) (append_assoc pre (r ∷ []) (olds out))
placed-behind pre (new r ∷ out) =
    ap₂ (λ a b. a ++ r ∷ b) (sym (take_at pre (map row_in out) (length pre) refl)) (sym (drop_at pre (map row_in out) (length pre) refl))
    ∙ ap (put_one (length pre) r) (placed-behind pre out)

pub placed-out : (out : List Event) → map row_in out ≡ put_at (news_in out) (places_in 0 out) (olds out)
placed-out out = placed-behind [] out

-- ── two sorted lists
module _ {A : Type 0} (lt : A → A → Bool) where
  -- the smaller next one first; n bounds the steps
  abbrev pub merge_two : ℕ → List A → List A → List A
  merge_two zero xs ys = xs ++ ys
  merge_two (suc n) [] ys = ys
  merge_two (suc n) (x ∷ xs) [] = x ∷ xs
  merge_two (suc n) (x ∷ xs) (y ∷ ys) = if lt x y then x ∷ merge_two n xs (y ∷ ys) else y ∷ merge_two n (x ∷ xs) ys

  merge-perm : (n : ℕ) (xs ys : List A) → Perm (merge_two n xs ys) (xs ++ ys)
  merge-perm zero xs ys = perm-refl (xs ++ ys)
  merge-perm (suc n) [] ys = perm-refl ys
  merge-perm (suc n) (x ∷ xs) [] = perm-eq (sym (append-nil (x ∷ xs)))
  merge-perm (suc n) (x ∷ xs) (y ∷ ys) =
      split (λ l. Perm l ((x ∷ xs) ++ y ∷ ys)) (lt x y) (λ t. perm-cons refl (merge-perm n xs (y ∷ ys)))
      (λ t. perm-trans (perm-cons refl (merge-perm n (x ∷ xs) ys)) (perm_middle y (x ∷ xs) ys))

  module _ (w : List A) (o : OrderOn lt w) where
    merge-sorted : (n : ℕ) (xs ys : List A) → length xs + length ys ≤ n → All (λ a. Mem a w) xs → All (λ a. Mem a w) ys → ((a b : A) → Mem a xs → Mem b ys → a ≡ b → ⊥) → Sorted lt xs → Sorted lt ys
        → Sorted lt (merge_two n xs ys)
    merge-sorted zero [] [] h a b d s t = tt
    merge-sorted zero [] (y ∷ ys) h a b d s t = absurd (omega arith)
    merge-sorted zero (x ∷ xs) ys h a b d s t = absurd (omega arith)
    merge-sorted (suc n) [] ys h a b d s t = t
    merge-sorted (suc n) (x ∷ xs) [] h a b d s t = s
    merge-sorted (suc n) (x ∷ xs) (y ∷ ys) h a b d s t =
        let xw = a x (here refl) in
        let yw = b y (here refl) in
        split (Sorted lt) (lt x y)
        (λ u. (
          λ z m. on-append xs (perm-mem (merge-perm n xs (y ∷ ys)) m) (s.0 z) (λ i. on-mem i (λ e. rw e u) (λ j. o.transitive x y z xw yw (b z (there j)) u (t.0 z j))),
          merge-sorted n xs (y ∷ ys) (omega arith) (λ z m. a z (there m)) b (λ p q m k. d p q (there m) k) s.1 t,
        ))
        (λ u.
        let v : T (lt y x) = ⊎_elim (λ q. absurd (T_not (lt x y) u q)) (λ q. q) (o.total x y xw yw (d x y (here refl) (here refl))) in (
          λ z m. on-append (x ∷ xs) (perm-mem (merge-perm n (x ∷ xs) ys) m) (λ i. on-mem i (λ e. rw e v) (λ j. o.transitive y x z yw xw (a z (there j)) v (s.0 z j))) (t.0 z),
          merge-sorted n (x ∷ xs) ys (omega arith) a (λ z m. b z (there m)) (λ p q m k. d p q m (there k)) s t.1,
        ))

  pub merge-sort : (xs ys : List A) → OrderOn lt (xs ++ ys) → NoDup (xs ++ ys) → Sorted lt xs → Sorted lt ys → merge_two (length xs + length ys) xs ys ≡ sort lt (xs ++ ys)
  merge-sort xs ys o d s t =
      sort-unique lt (xs ++ ys) (merge_two (length xs + length ys) xs ys) o d (perm_same (merge-perm (length xs + length ys) xs ys))
      (merge-sorted (xs ++ ys) o (length xs + length ys) xs ys (omega arith) (λ a m. append_left ys m) (λ a m. append_right xs m) (pairwise-across (λ x y. x ≡ y → ⊥) xs ys d) s t)
