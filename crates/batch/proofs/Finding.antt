-- Where each new piece goes among sorted ones: placing there is merging; and the loop that finds the places.
use mathlib.Core.Path.{◌≡◌, refl, sym, ap, ap₂, ◌∙◌}
use mathlib.Core.Bool.{Bool, true, false}
use mathlib.Core.List.{List, [], ◌∷◌, ◌++◌, append_assoc, append-nil}
use Prim.Native.Nat.{ℕ, zero, suc, ◌+◌, ◌≤◌, ◌<◌}
use native.Mathlib.Nat.{suc-add, add-suc, zero-add}
use native.Mathlib.Numerals.{add-one}
use native.Mathlib.Omega.{arith}
use lib.ListN.{length, get_or, take, drop, set, length-set, length-append, take-append-drop}
use lib.Seq.{take_at, drop_at, drop-set-lt, drop-length}
use Rattle.laws.proofs.Tests.{by-test, is_true, is_false}
use Rattle.laws.proofs.Placing.{put_one, put_at, merge_two}
use Rattle.laws.proofs.Parts.{drop_here}
use Rattle.batch.specs.Merge.{merge, left_next}
use Rattle.batch.specs.Found.{places_within, places_for}
use Rattle.batch.proofs.Fronts.{front-next}

module _ {A : Type 0} (lt : A → A → Bool) where
  put-seam : (pre l : List A) (x : A) → put_one (length pre) x (pre ++ l) ≡ pre ++ x ∷ l
  put-seam pre l x = ap₂ (λ (a b : List A). a ++ x ∷ b) (take_at pre l (length pre) refl) (drop_at pre l (length pre) refl)

  put_two : (n : ℕ) (pre rs ns : List A) → length rs + length ns ≤ n → put_at ns (places_within lt n (length pre) rs ns) (pre ++ rs) ≡ pre ++ merge_two lt n rs ns
  put_two zero pre [] [] h = refl
  put_two zero pre [] (x ∷ ns) h = absurd (omega arith)
  put_two zero pre (r ∷ rs) ns h = absurd (omega arith)
  put_two (suc n) pre [] [] h = refl
  put_two (suc n) pre [] (x ∷ ns) h =
      ap (put_one (length pre) x) (put_two n pre [] ns (omega arith)) ∙ put-seam pre (merge_two lt n [] ns) x ∙ ap (λ (l : List A). pre ++ x ∷ l) (none n ns)
    where
      none : (n : ℕ) (ys : List A) → merge_two lt n [] ys ≡ ys
      none zero ys = refl
      none (suc n) ys = refl
  put_two (suc n) pre (r ∷ rs) [] h = refl
  put_two (suc n) pre (r ∷ rs) (x ∷ ns) h =
      let past : put_at (x ∷ ns) (places_within lt n (length (pre ++ r ∷ [])) rs (x ∷ ns)) ((pre ++ r ∷ []) ++ rs) ≡ (pre ++ r ∷ []) ++ merge_two lt n rs (x ∷ ns) = put_two n (pre ++ r ∷ []) rs (x ∷ ns) (omega arith) in
      let stay : put_at ns (places_within lt n (length pre) (r ∷ rs) ns) (pre ++ r ∷ rs) ≡ pre ++ merge_two lt n (r ∷ rs) ns = put_two n pre (r ∷ rs) ns (omega arith) in
      let m : length (pre ++ r ∷ []) ≡ suc (length pre) = length-append pre (r ∷ []) ∙ add-one (length pre) in
      by-test (lt r x)
      (λ t. rw (is_true (lt r x) t)
      (ap₂ (λ (k : ℕ) (l : List A). put_at (x ∷ ns) (places_within lt n k rs (x ∷ ns)) l) (sym m) (sym (append_assoc pre (r ∷ []) rs)) ∙ past ∙ append_assoc pre (r ∷ []) (merge_two lt n rs (x ∷ ns))))
      (λ t. rw (is_false (lt r x) t) (ap (put_one (length pre) x) stay ∙ put-seam pre (merge_two lt n (r ∷ rs) ns) x))

  -- placing is merging
  pub put-found : (rs ns : List A) → put_at ns (places_for lt 0 rs ns) rs ≡ merge lt rs ns
  unfolding places_for merge
  put-found rs ns = put_two (length rs + length ns) [] rs ns (omega arith)

  -- ── one step of the search
  module _ (k : ℕ) where
    pub found_none : (rs : List A) → places_for lt k rs [] ≡ []
    unfolding places_for
    found_none rs = go (length rs + 0) rs
      where
        go : (n : ℕ) (rs : List A) → places_within lt n k rs [] ≡ []
        go zero rs = refl
        go (suc n) rs = refl

    pub found-past : (r : A) (rs : List A) (x : A) (ns : List A) → left_next lt (r ∷ rs) (x ∷ ns) ≡ true → places_for lt k (r ∷ rs) (x ∷ ns) ≡ places_for lt (suc k) rs (x ∷ ns)
    unfolding places_for left_next
    found-past r rs x ns h = rw (suc-add (length rs) (suc (length ns)), h)

    pub found_here : (rs : List A) (x : A) (ns : List A) → left_next lt rs (x ∷ ns) ≡ false → places_for lt k rs (x ∷ ns) ≡ k ∷ places_for lt k rs ns
    unfolding places_for left_next
    found_here [] x ns h = rw (zero-add (suc (length ns)), zero-add (length ns))
    found_here (r ∷ rs) x ns h = rw (add-suc (suc (length rs)) (length ns), h)

-- ── the loop: s old ones are passed, and j new ones have their places in x, which was d
pub record Finding {A : Type 0} (lt : A → A → Bool) (o : A) (rs ns : List A) (d x : List ℕ) (s j : ℕ) : Type 0 where
  pub s-in : s ≤ length rs
  pub j-in : j ≤ length ns
  pub room : length ns ≤ length d
  pub same : length x ≡ length d
  pub front : places_for lt 0 rs ns ≡ take j x ++ places_for lt s (drop s rs) (drop j ns)
  pub past : drop (length ns) x ≡ drop (length ns) d

module _ {A : Type 0} {lt : A → A → Bool} {o : A} {rs ns : List A} {d : List ℕ} where
  pub find-start : length ns ≤ length d → Finding lt o rs ns d d 0 0
  find-start h = record { s-in = omega arith; j-in = omega arith; room = h; same = refl; front = refl; past = refl }

  pub find_past : {x : List ℕ} {s j : ℕ} → Finding lt o rs ns d x s j → s < length rs → j < length ns → left_next lt (drop s rs) (drop j ns) ≡ true → Finding lt o rs ns d x (s + 1) j
  find_past {x} {s} {j} c l m h =
      let r : drop s rs ≡ get_or rs s o ∷ drop (s + 1) rs = drop_here rs s o l in
      let y : drop j ns ≡ get_or ns j o ∷ drop (j + 1) ns = drop_here ns j o m in
      let e : places_for lt s (drop s rs) (drop j ns) ≡ places_for lt (s + 1) (drop (s + 1) rs) (drop j ns) =
      rw (r, y, add-one s) (found-past lt s (get_or rs s o) (drop (suc s) rs) (get_or ns j o) (drop (j + 1) ns) (rw (r, y, add-one s) at h)) in
      record { s-in = omega arith; j-in = c.j-in; room = c.room; same = c.same; front = c.front ∙ ap (λ (l : List ℕ). take j x ++ l) e; past = c.past }

  pub find-here : {x : List ℕ} {s j : ℕ} → Finding lt o rs ns d x s j → j < length ns → left_next lt (drop s rs) (drop j ns) ≡ false → Finding lt o rs ns d (set x j s) s (j + 1)
  find-here {x} {s} {j} c m h =
      let y : drop j ns ≡ get_or ns j o ∷ drop (j + 1) ns = drop_here ns j o m in
      let e : places_for lt s (drop s rs) (drop j ns) ≡ s ∷ places_for lt s (drop s rs) (drop (j + 1) ns) =
      rw y (found_here lt s (drop s rs) (get_or ns j o) (drop (j + 1) ns) (rw y at h)) in
      record {
        s-in = c.s-in;
        j-in = omega arith;
        room = c.room;
        same = simp length-set c.same;
        front = c.front ∙ ap (λ (l : List ℕ). take j x ++ l) e ∙ front-next x j s (omega arith) (places_for lt s (drop s rs) (drop (j + 1) ns));
        past = drop-set-lt (length ns) x j s m ∙ c.past;
      }

  pub find-end : {x : List ℕ} {s j : ℕ} → Finding lt o rs ns d x s j → length ns ≤ j → x ≡ places_for lt 0 rs ns ++ drop (length ns) d
  find-end {x} {s} {j} c h =
      let ej : j ≡ length ns = omega (arith, c.j-in) in
      let f : places_for lt 0 rs ns ≡ take (length ns) x =
      c.front ∙ rw (ej, drop-length ns, found_none lt s (drop s rs), append-nil) in
      sym (rw (f, ← c.past) (take-append-drop (length ns) x))
