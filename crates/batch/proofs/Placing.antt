-- New pieces put among old ones in place, from the back: R is the list of slots, s old pieces and j new ones are still to go.
use mathlib.Core.Path.{◌≡◌, refl, sym, ap, ◌∙◌}
use mathlib.Core.List.{List, [], ◌∷◌, ◌++◌, append_assoc, append-nil}
use Prim.Native.Nat.{ℕ, suc, ◌+◌, ◌≤◌, ◌<◌, zero-le, suc-le-suc}
use native.Mathlib.Nat.{suc_inj, add-zero}
use native.Mathlib.Numerals.{add-one}
use native.Mathlib.Omega.{arith}
use lib.ListN.{length, get_or, take, drop, set, length-set, length-take, length-drop, length-append, drop_of_length-le, take-append-drop}
use lib.Seq.{take-append-le, drop-append-le, take_all, take-suc, drop-cons, take-set-le, drop-set-lt, get_or-set_same, length-take-le, take-take, get_or-take, take-length, drop-length}
use Rattle.laws.proofs.Placing.{put_one, put_at}
use Rattle.batch.specs.Places.{Rising}

module _ {A : Type 0} where
  one-append : (p : ℕ) (x : A) (l t : List A) → p ≤ length l → put_one p x (l ++ t) ≡ put_one p x l ++ t
  one-append p x l t h = rw (take-append-le p l t h, drop-append-le p l t h) (sym (append_assoc (take p l) (x ∷ drop p l) t))

  put-long : (rs ns : List A) (ps : List ℕ) → length rs ≤ length (put_at ns ps rs)
  put-long rs [] ps = omega arith
  put-long rs (x ∷ ns) [] = omega arith
  put-long rs (x ∷ ns) (p ∷ ps) =
      let l = put-long rs ns ps in
      simp (length-append, length-take, length-drop) (omega arith)

  -- an old piece past every place
  put-old : (rs : List A) (r : A) (ns : List A) (ps : List ℕ) → ((i : ℕ) → i < length ps → get_or ps i 0 ≤ length rs)
      → put_at ns ps (rs ++ r ∷ []) ≡ put_at ns ps rs ++ r ∷ []
  put-old rs r [] ps b = refl
  put-old rs r (x ∷ ns) [] b = refl
  put-old rs r (x ∷ ns) (p ∷ ps) b =
      let h : p ≤ length (put_at ns ps rs) = omega (arith, b 0 (suc-le-suc zero-le), put-long rs ns ps) in
      ap (put_one p x) (put-old rs r ns ps (λ i l. b (suc i) (suc-le-suc l))) ∙ one-append p x (put_at ns ps rs) (r ∷ []) h

  -- a new piece past every old one
  put-new : (rs : List A) (x : A) (q : ℕ) (ns : List A) (ps : List ℕ) → length ns ≡ length ps → length rs ≤ q → ((i : ℕ) → i < length ps → get_or ps i 0 ≤ length rs)
      → put_at (ns ++ x ∷ []) (ps ++ q ∷ []) rs ≡ put_at ns ps rs ++ x ∷ []
  put-new rs x q [] [] e h b = rw (take_all q rs h, drop_of_length-le rs h)
  put-new rs x q [] (p ∷ ps) e h b = absurd (omega arith)
  put-new rs x q (y ∷ ns) [] e h b = absurd (omega arith)
  put-new rs x q (y ∷ ns) (p ∷ ps) e h b =
      let l : p ≤ length (put_at ns ps rs) = omega (arith, b 0 (suc-le-suc zero-le), put-long rs ns ps) in
      ap (put_one p y) (put-new rs x q ns ps (suc_inj e) h (λ i l. b (suc i) (suc-le-suc l))) ∙ one-append p y (put_at ns ps rs) (x ∷ []) l

  pub record Placing (rs ns : List A) (ps : List ℕ) (R : List A) (s j : ℕ) : Type 0 where
    pub s-in : s ≤ length rs
    pub j-in : j ≤ length ns
    pub long : length R ≡ length rs + length ns
    pub each : length ps ≡ length ns
    pub bound : (i : ℕ) → i < j → get_or ps i 0 ≤ s
    pub kept : take s R ≡ take s rs
    pub rest : put_at ns ps rs ≡ put_at (take j ns) (take j ps) (take s rs) ++ drop (s + j) R

  put_front : (R : List A) (m : ℕ) (v : A) → m < length R → drop m (set R m v) ≡ v ∷ drop (m + 1) R
  put_front R m v h =
      let l : m < length (set R m v) = simp length-set h in
      let b : m < m + 1 = omega arith in
      drop-cons (set R m v) m v l ∙ rw (get_or-set_same R m v v h, ← add-one m, drop-set-lt (m + 1) R m v b)

  module _ {rs ns : List A} {ps : List ℕ} {R : List A} where
    pub place-start : length R ≡ length rs + length ns → length ps ≡ length ns → ((i : ℕ) → i < length ps → get_or ps i 0 ≤ length rs) → take (length rs) R ≡ rs
        → Placing rs ns ps R (length rs) (length ns)
    place-start l e b o =
        record {
          s-in = omega arith;
          j-in = omega arith;
          long = l;
          each = e;
          bound = λ i h. b i (omega arith);
          kept = o ∙ sym (take-length rs);
          rest = rw (take-length rs, take-length ns, ← e, take-length ps, e, ← l, drop-length R, append-nil);
        }

    pub place_end : {s : ℕ} → Placing rs ns ps R s 0 → put_at ns ps rs ≡ R
    place_end {s} p = p.rest ∙ rw (← p.kept, add-zero) (take-append-drop s R)

    -- an old piece goes
    pub place-old : {s j : ℕ} (t q : ℕ) (d : A) → Placing rs ns ps R s j → Rising ps → s ≡ t + 1 → j ≡ q + 1 → get_or ps q 0 < s
        → Placing rs ns ps (set R (t + j) (get_or R t d)) t j
    place-old {s} {j} t q d p u es ej h =
        let bt : (i : ℕ) → i < j → get_or ps i 0 ≤ t = λ i l. omega (arith, u.rises i q (omega arith) (omega arith)) in
        let lj : length (take j ps) ≡ j = length-take-le j ps (omega arith) in
        let lt : length (take t rs) ≡ t = length-take-le t rs (omega arith) in
        let b : (i : ℕ) → i < length (take j ps) → get_or (take j ps) i 0 ≤ length (take t rs) =
        λ i l. let l₂ : i < j = omega arith in rw (get_or-take j ps i 0 l₂, lt) (bt i l₂) in
        let ts : t ≤ s = omega arith in
        let v : get_or R t d ≡ get_or rs t d =
        let l₃ : t < s = omega arith in sym (get_or-take s R t d l₃) ∙ ap (λ (l : List A). get_or l t d) p.kept ∙ get_or-take s rs t d l₃ in
        let k : t + j + 1 ≡ s + j = omega arith in
        let f : drop (t + j) (set R (t + j) (get_or R t d)) ≡ get_or rs t d ∷ drop (s + j) R =
        put_front R (t + j) (get_or R t d) (omega arith) ∙ ap (λ (a : A). a ∷ drop (t + j + 1) R) v ∙ ap (λ (i : ℕ). get_or rs t d ∷ drop i R) k in
        let s₂ : take s rs ≡ take t rs ++ get_or rs t d ∷ [] = ap (λ (k : ℕ). take k rs) (es ∙ add-one t) ∙ take-suc rs t d (omega arith) in
        record {
          s-in = omega arith;
          j-in = omega arith;
          long = simp length-set p.long;
          each = p.each;
          bound = bt;
          kept = take-set-le t R (t + j) (get_or R t d) (omega arith) ∙ sym (take-take t s R ts) ∙ ap (take t) p.kept ∙ take-take t s rs ts;
          rest =
              p.rest
              ∙ ap (λ (l : List A). put_at (take j ns) (take j ps) l ++ drop (s + j) R) s₂
              ∙ ap (λ (l : List A). l ++ drop (s + j) R) (put-old (take t rs) (get_or rs t d) (take j ns) (take j ps) b)
              ∙ append_assoc (put_at (take j ns) (take j ps) (take t rs)) (get_or rs t d ∷ []) (drop (s + j) R)
              ∙ ap (λ (l : List A). put_at (take j ns) (take j ps) (take t rs) ++ l) (sym f);
        }

    -- a new piece goes
    pub place-new : {s j : ℕ} (q : ℕ) (d : A) → Placing rs ns ps R s j → j ≡ q + 1 → s ≤ get_or ps q 0 → Placing rs ns ps (set R (s + q) (get_or ns q d)) s q
    place-new {s} {j} q d p ej h =
        let lq : length (take q ps) ≡ q = length-take-le q ps (omega arith) in
        let lr : length (take s rs) ≡ s = length-take-le s rs (omega arith) in
        let ln : length (take q ns) ≡ q = length-take-le q ns (omega arith) in
        let b : (i : ℕ) → i < length (take q ps) → get_or (take q ps) i 0 ≤ length (take s rs) =
        λ i l. let l₂ : i < q = omega arith in rw (get_or-take q ps i 0 l₂, lr) (p.bound i (omega arith)) in
        let k : s + q + 1 ≡ s + j = omega arith in
        let f : drop (s + q) (set R (s + q) (get_or ns q d)) ≡ get_or ns q d ∷ drop (s + j) R =
        put_front R (s + q) (get_or ns q d) (omega arith) ∙ ap (λ (i : ℕ). get_or ns q d ∷ drop i R) k in
        let n₂ : take j ns ≡ take q ns ++ get_or ns q d ∷ [] = ap (λ (k : ℕ). take k ns) (ej ∙ add-one q) ∙ take-suc ns q d (omega arith) in
        let p₂ : take j ps ≡ take q ps ++ get_or ps q 0 ∷ [] = ap (λ (k : ℕ). take k ps) (ej ∙ add-one q) ∙ take-suc ps q 0 (omega arith) in
        record {
          s-in = p.s-in;
          j-in = omega arith;
          long = simp length-set p.long;
          each = p.each;
          bound = λ i l. p.bound i (omega arith);
          kept = take-set-le s R (s + q) (get_or ns q d) (omega arith) ∙ p.kept;
          rest =
              p.rest
              ∙ ap (λ (l : List A). put_at l (take j ps) (take s rs) ++ drop (s + j) R) n₂
              ∙ ap (λ (l : List ℕ). put_at (take q ns ++ get_or ns q d ∷ []) l (take s rs) ++ drop (s + j) R) p₂
              ∙ ap (λ (l : List A). l ++ drop (s + j) R) (put-new (take s rs) (get_or ns q d) (get_or ps q 0) (take q ns) (take q ps) (omega arith) (omega arith) b)
              ∙ append_assoc (put_at (take q ns) (take q ps) (take s rs)) (get_or ns q d ∷ []) (drop (s + j) R)
              ∙ ap (λ (l : List A). put_at (take q ns) (take q ps) (take s rs) ++ l) (sym f);
        }
