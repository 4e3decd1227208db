-- The merge of a batch of inserts into a list that is in order, in one walk with a stack of waiting inserts, the largest on top.
--     weave n pool st doc     n steps: where the top of st is larger than the next element of doc, or doc is at its end, the top goes to
--                             the output, else the next element of doc does. Its children leave the pool for the stack
--     Woven pool st doc out   the walk from such a state to its end, step by step, puts out `out`: what the proofs go by
--     merge doc batch         from HEAD, with a step for each element
--     merge-is                it is the preorder of the elements of both
use mathlib.Core.Path.{◌≡◌, refl, sym, ap, ◌∙◌}
use mathlib.Core.Logic.{inl, inr, ⊎_elim}
use mathlib.Core.Bool.{not, cond}
use mathlib.Core.List.{List, [], ◌∷◌, ◌++◌}
use Prim.Native.Nat.{ℕ, suc, zero, ◌+◌, ◌≤◌, ◌<◌}
use native.Mathlib.Omega.{arith}
use lib.ListN.{length, length-append}
use lib.Dec.{ltb, eqb, ltb→lt, lt→ltb, nltb→le, eqb→eq}
use Rattle.model.specs.Basic.{filter}
use Rattle.laws.proofs.Tests.{by-test, split}
use Rattle.laws.proofs.Members.{Mem, here, there, not-nil, append_left, append_right, All, Same, on-mem, on-append, all_cons, all_append, filter-from, filter-in, filter-length}
use Rattle.laws.proofs.Pairs.{pairwise_append, pairwise-right, pairwise-across, filter-pairwise}
use Rattle.laws.proofs.Sort.{Sorted, length-sort}
use Rattle.laws.proofs.Nearest.{Ins, near, near-past, near-here, Ordered, HeadBelow, ordered-past, Distinct, Closed, Known, ordered-closed}
use Rattle.laws.proofs.Preorder.{desc, kids, kids-from, kids-in, kids-ref, kids-sorted, preorder, preorder-unique}

abbrev pub rest : ℕ → List Ins → List Ins
rest p pool = filter (λ x. not (eqb x.ref p)) pool

abbrev pub weave : ℕ → List Ins → List Ins → List Ins → List Ins
weave zero pool st doc = []
weave (suc n) pool [] [] = []
weave (suc n) pool [] (d ∷ doc) = d ∷ weave n (rest d.id pool) (kids d.id pool ++ []) doc
weave (suc n) pool (s ∷ st) [] = s ∷ weave n (rest s.id pool) (kids s.id pool ++ st) []
weave (suc n) pool (s ∷ st) (d ∷ doc) =
    cond (ltb d.id s.id) (s ∷ weave n (rest s.id pool) (kids s.id pool ++ st) (d ∷ doc))
    (d ∷ weave n (rest d.id pool) (kids d.id pool ++ (s ∷ st)) doc)

abbrev pub merge : List Ins → List Ins → List Ins
merge doc batch = weave (length batch + length doc) (rest 0 batch) (kids 0 batch) doc

-- ── a walk to its end
abbrev pub TopUpTo : ℕ → List Ins → Type 0
TopUpTo y [] = Unit {0}
TopUpTo y (s ∷ st) = s.id ≤ y

pub data Woven : List Ins → List Ins → List Ins → List Ins → Type 0 where
  done : {pool : List Ins} → Woven pool [] [] []
  pop : {s : Ins} {pool st doc out : List Ins} → HeadBelow s.id doc → Woven (rest s.id pool) (kids s.id pool ++ st) doc out
      → Woven pool (s ∷ st) doc (s ∷ out)
  move : {d : Ins} {pool st doc out : List Ins} → TopUpTo d.id st → Woven (rest d.id pool) (kids d.id pool ++ st) doc out
      → Woven pool st (d ∷ doc) (d ∷ out)

spent : (p : ℕ) (pool st : List Ins) → length (rest p pool) + length (kids p pool ++ st) ≡ length pool + length st
spent p pool st =
    omega (arith, length-append (kids p pool) st, length-sort desc (filter (λ x. eqb x.ref p) pool), filter-length (λ x. eqb x.ref p) pool)

pub weave-woven : (n : ℕ) (pool st doc : List Ins) → length pool + length st + length doc ≤ n → Woven pool st doc (weave n pool st doc)
weave-woven zero pool [] [] h = done
weave-woven zero pool [] (d ∷ doc) h = absurd (omega arith)
weave-woven zero pool (s ∷ st) doc h = absurd (omega arith)
weave-woven (suc n) pool [] [] h = done
weave-woven (suc n) pool [] (d ∷ doc) h =
    move tt (weave-woven n (rest d.id pool) (kids d.id pool ++ []) doc (omega (arith, spent d.id pool [])))
weave-woven (suc n) pool (s ∷ st) [] h =
    pop tt (weave-woven n (rest s.id pool) (kids s.id pool ++ st) [] (omega (arith, spent s.id pool st)))
weave-woven (suc n) pool (s ∷ st) (d ∷ doc) h =
    split (Woven pool (s ∷ st) (d ∷ doc)) (ltb d.id s.id)
    (λ t. pop (ltb→lt d.id s.id t) (weave-woven n (rest s.id pool) (kids s.id pool ++ st) (d ∷ doc) (omega (arith, spent s.id pool st))))
    (λ t. move (nltb→le d.id s.id t) (weave-woven n (rest d.id pool) (kids d.id pool ++ (s ∷ st)) doc (omega (arith, spent d.id pool (s ∷ st)))))

-- ── the output is in order
module _ (batch whole : List Ins) (below : All (λ x. x.ref < x.id) batch) (apart : (x y : Ins) → Mem x batch → Mem y whole → x.id ≡ y.id → ⊥) where
  record State (left : List ℕ) (pool st doc : List Ins) : Type 0 where
    pool-in : All (λ x. Mem x batch) pool
    pool-distinct : Distinct pool
    st-in : All (λ x. Mem x batch) st
    st-desc : Sorted desc st
    st-near : All (λ s. near s.id left ≡ s.ref) st
    doc-in : All (λ x. Mem x whole) doc
    doc-ordered : Ordered left doc

  emit : (left : List ℕ) (x : Ins) (pool st doc : List Ins) → All (λ x. Mem x batch) pool → Distinct pool → All (λ x. Mem x batch) st → Sorted desc st
      → All (λ s. near s.id left ≡ s.ref) st → All (λ s. s.id < x.id) st → All (λ x. Mem x whole) doc → Ordered (x.id ∷ left) doc
      → State (x.id ∷ left) (rest x.id pool) (kids x.id pool ++ st) doc
  emit left x pool st doc pi pd si sd sn sl di o =
      record {
        pool-in = λ y m. pi y (filter-from (λ z. not (eqb z.ref x.id)) pool m);
        pool-distinct = filter-pairwise (λ y z. y.id ≡ z.id → ⊥) (λ z. not (eqb z.ref x.id)) pool pd;
        st-in = λ y m. on-append (kids x.id pool) m (λ i. pi y (kids-from x.id pool i)) (si y);
        st-desc = pairwise_append (kids x.id pool) st (kids-sorted x.id pool pd) sd
            (λ k s i j. lt→ltb s.id k.id (omega (arith, sl s j, below k (pi k (kids-from x.id pool i)), kids-ref k x.id pool i)));
        st-near = λ y m. on-append (kids x.id pool) m
            (λ i. near-here y.id x.id left (omega (arith, below y (pi y (kids-from x.id pool i)), kids-ref y x.id pool i)) ∙ sym (kids-ref y x.id pool i))
            (λ j. near-past y.id x.id left (sl y j) ∙ sn y j);
        doc-in = di;
        doc-ordered = o;
      }

  pops : (left : List ℕ) (s : Ins) (pool st doc : List Ins) → State left pool (s ∷ st) doc → HeadBelow s.id doc
      → State (s.id ∷ left) (rest s.id pool) (kids s.id pool ++ st) doc
  pops left s pool st doc g h =
      emit left s pool st doc g.pool-in g.pool-distinct (λ y m. g.st-in y (there m)) g.st-desc.1 (λ y m. g.st-near y (there m))
      (λ y m. ltb→lt y.id s.id (g.st-desc.0 y m)) g.doc-in (ordered-past s.id left doc h g.doc-ordered)

  moves : (left : List ℕ) (d : Ins) (pool st doc : List Ins) → State left pool st (d ∷ doc) → All (λ s. s.id < d.id) st
      → State (d.id ∷ left) (rest d.id pool) (kids d.id pool ++ st) doc
  moves left d pool st doc g h =
      emit left d pool st doc g.pool-in g.pool-distinct g.st-in g.st-desc g.st-near h (λ y m. g.doc-in y (there m)) g.doc-ordered.1

  smaller : (left : List ℕ) (d : Ins) (pool st doc : List Ins) → State left pool st (d ∷ doc) → TopUpTo d.id st → All (λ s. s.id < d.id) st
  smaller left d pool [] doc g h x m = absurd (not-nil m)
  smaller left d pool (s ∷ st) doc g h x m =
      let ne = apart s d (g.st-in s (here refl)) (g.doc-in d (here refl)) in
      on-mem m (λ e. rw e (omega arith)) (λ n. omega (arith, ltb→lt x.id s.id (g.st-desc.0 x n)))

  woven-ordered : {pool st doc out : List Ins} → Woven pool st doc out → (left : List ℕ) → State left pool st doc → Ordered left out
  woven-ordered done left g = tt
  woven-ordered (pop {s} {pool} {st} {doc} h w) left g = (g.st-near s (here refl), woven-ordered w (s.id ∷ left) (pops left s pool st doc g h))
  woven-ordered (move {d} {pool} {st} {doc} h w) left g =
      (g.doc-ordered.0, woven-ordered w (d.id ∷ left) (moves left d pool st doc g (smaller left d pool st doc g h)))

-- ── the output has the members of all three
rest_from : {y : Ins} (p : ℕ) (pool : List Ins) → Mem y (rest p pool) → Mem y pool
rest_from p pool m = filter-from (λ x. not (eqb x.ref p)) pool m

pushed : (P : Ins → Type 0) (p : ℕ) (pool st : List Ins) → All P pool → All P st → All P (kids p pool ++ st)
pushed P p pool st a b = all_append P (kids p pool) (λ x m. a x (kids-from p pool m)) b

woven-all : {pool st doc out : List Ins} (P : Ins → Type 0) → Woven pool st doc out → All P pool → All P st → All P doc → All P out
woven-all P done a b c = c
woven-all P (pop {s} {pool} {st} h w) a b c =
    all_cons P (b s (here refl)) (woven-all P w (λ x m. a x (rest_from s.id pool m)) (pushed P s.id pool st a (λ x m. b x (there m))) c)
woven-all P (move {d} {pool} {st} h w) a b c =
    all_cons P (c d (here refl)) (woven-all P w (λ x m. a x (rest_from d.id pool m)) (pushed P d.id pool st a b) (λ x m. c x (there m)))

-- nothing of the stack or of doc is left out, nor any child of what is put out
record Full (pool st doc out : List Ins) : Type 0 where
  st-out : All (λ x. Mem x out) st
  doc-out : All (λ x. Mem x out) doc
  kids-out : (y k : Ins) → Mem y out → Mem k pool → k.ref ≡ y.id → Mem k out

full-more : (x : Ins) (pool st doc out : List Ins) → Full (rest x.id pool) (kids x.id pool ++ st) doc out → Full pool st doc (x ∷ out)
full-more x pool st doc out f =
    record {
      st-out = λ y m. there (f.st-out y (append_right (kids x.id pool) m));
      doc-out = λ y m. there (f.doc-out y m);
      kids-out = λ y k m i e.
          by-test (eqb k.ref x.id) (λ t. now k i (eqb→eq k.ref x.id t))
          (λ t. on-mem m (λ q. now k i (e ∙ ap (λ u. u.id) q)) (λ n. there (f.kids-out y k n (filter-in (λ z. not (eqb z.ref x.id)) pool i t) e)));
    }
  where
    now : (k : Ins) → Mem k pool → k.ref ≡ x.id → Mem k (x ∷ out)
    now k i e = there (f.st-out k (append_left st (kids-in k x.id pool i e)))

woven-full : {pool st doc out : List Ins} → Woven pool st doc out → Full pool st doc out
woven-full done = record { st-out = λ x m. m; doc-out = λ x m. m; kids-out = λ y k m i e. absurd (not-nil m) }
woven-full (pop {s} {pool} {st} {doc} {out} h w) =
    let g = full-more s pool st doc out (woven-full w) in
    record { st-out = all_cons (λ y. Mem y (s ∷ out)) (here refl) g.st-out; doc-out = g.doc-out; kids-out = g.kids-out }
woven-full (move {d} {pool} {st} {doc} {out} h w) =
    let g = full-more d pool st doc out (woven-full w) in
    record { st-out = g.st-out; doc-out = all_cons (λ y. Mem y (d ∷ out)) (here refl) g.doc-out; kids-out = g.kids-out }

-- ── the merge
pub record Fits (doc batch : List Ins) : Type 0 where
  pub below : All (λ x. x.ref < x.id) (doc ++ batch)
  pub distinct : Distinct (doc ++ batch)
  pub known : All (λ y. Known (doc ++ batch) y.ref) batch
  pub ordered : Ordered (0 ∷ []) doc

module _ (doc batch : List Ins) (h : Fits doc batch) where
  batch-distinct : Distinct batch
  batch-distinct = pairwise-right (λ x y. x.id ≡ y.id → ⊥) doc batch h.distinct

  batch-below : All (λ x. x.ref < x.id) batch
  batch-below x m = h.below x (append_right doc m)

  merge-woven : Woven (rest 0 batch) (kids 0 batch) doc (merge doc batch)
  merge-woven =
      weave-woven (length batch + length doc) (rest 0 batch) (kids 0 batch) doc
      (omega (arith, length-sort desc (filter (λ x. eqb x.ref 0) batch), filter-length (λ x. eqb x.ref 0) batch))

  full : Full (rest 0 batch) (kids 0 batch) doc (merge doc batch)
  full = woven-full merge-woven

  -- any walk from HEAD puts out what is in order
  pub start-ordered : {out : List Ins} → Woven (rest 0 batch) (kids 0 batch) doc out → Ordered (0 ∷ []) out
  start-ordered w =
      woven-ordered batch doc batch-below (λ x y m n e. pairwise-across (λ x y. x.id ≡ y.id → ⊥) doc batch h.distinct y x n m (sym e)) w (0 ∷ [])
      (record {
        pool-in = λ x m. rest_from 0 batch m;
        pool-distinct = filter-pairwise (λ x y. x.id ≡ y.id → ⊥) (λ x. not (eqb x.ref 0)) batch batch-distinct;
        st-in = λ x m. kids-from 0 batch m;
        st-desc = kids-sorted 0 batch batch-distinct;
        st-near = λ x m. near-here x.id 0 [] (omega arith) ∙ sym (kids-ref x 0 batch m);
        doc-in = λ x m. m;
        doc-ordered = h.ordered;
      })

  pub merge-ordered : Ordered (0 ∷ []) (merge doc batch)
  merge-ordered = start-ordered merge-woven

  batch-in : (n : ℕ) (y : Ins) → Mem y batch → y.id ≤ n → Mem y (merge doc batch)
  batch-in zero y m le = absurd (omega (arith, batch-below y m))
  batch-in (suc n) y m le =
      by-test (eqb y.ref 0) (λ t. full.st-out y (kids-in y 0 batch m (eqb→eq y.ref 0 t)))
      (λ t.
      ⊎_elim (λ e. absurd (rw e at t))
      (λ r.
      full.kids-out r.0 y
      (on-append doc r.1 (full.doc-out r.0) (λ i. batch-in n r.0 i (omega (arith, batch-below y m, r.2))))
      (filter-in (λ x. not (eqb x.ref 0)) batch m t) (sym r.2))
      (h.known y m))

  pub merge-same : Same (merge doc batch) (doc ++ batch)
  merge-same x = (
    woven-all (λ x. Mem x (doc ++ batch)) merge-woven (λ x m. append_right doc (rest_from 0 batch m))
        (λ x m. append_right doc (kids-from 0 batch m)) (λ x m. append_left batch m) x,
    λ m. on-append doc m (full.doc-out x) (λ i. batch-in x.id x i (omega arith)),
  )

  pub merge-closed : Closed (doc ++ batch)
  merge-closed x m =
      on-append doc m
      (λ i. ⊎_elim (λ e. inl e) (λ r. inr (r.0, append_left batch r.1, r.2)) (ordered-closed doc h.ordered x i))
      (h.known x)

  pub merge-is : merge doc batch ≡ preorder (doc ++ batch)
  merge-is = preorder-unique (doc ++ batch) (merge doc batch) h.distinct h.below merge-closed merge-same merge-ordered
