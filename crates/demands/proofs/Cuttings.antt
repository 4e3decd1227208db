-- THEOREM every-cutting-accepted: if a course is accepted, so is every other cutting of its operations (each exactly once, any order) into
-- batches of at most 256 in which what an operation refers to comes in an earlier batch or its own.
use mathlib.Core.Path.{◌≡◌, refl, sym, ap, subst, ◌∙◌}
use mathlib.Core.Bool.{Bool, not, ◌&&◌}
use mathlib.Core.List.{List, [], ◌∷◌, ◌++◌, map, append_assoc, map-append}
use Prim.Native.Nat.{ℕ, ◌+◌}
use native.Mathlib.Omega.{arith}
use lib.ListN.{length, length-append, length-map}
use lib.Dec.{T, leb, eqb, leb→le}
use Rattle.model.specs.Basic.{all, sort, concat, filter, concat_map, member}
use Rattle.model.specs.Sizes.{max_batch}
use Rattle.model.specs.Id.{is_id, root}
use Rattle.model.specs.Row.{Row, Op, id_of, is_delete, row_of, preds_of, rows_with, succ_of}
use Rattle.model.specs.Document.{empty, new_rows, all_rows, entry, new_succs, all_succs, succ_before, merged}
use Rattle.model.specs.Answer.{is_accepted}
use Rattle.model.specs.Calls.{merge_refusal}
use Rattle.model.specs.Course.{course_accepted, refers_to, refers_within, cut_well, shaped_ops}
use Rattle.laws.proofs.Tests.{T_and, ne→neqb}
use Rattle.laws.proofs.Members.{Mem, not-nil, All, append_left, append_right, on-append, map-from, filter-in, filter-append, any-from, any-in, all_from, member-mem}
use Rattle.laws.proofs.Pairs.{one_key, pairwise-left, pairwise-right, pairwise-across}
use Rattle.laws.proofs.Sort.{length-sort}
use Rattle.laws.proofs.Perms.{Perm, perm-mem, perm-sym, perm-length, perm-pairwise}
use Rattle.laws.proofs.RowWords.{id-of, with-from, with_in}
use Rattle.laws.proofs.Ids.{id-positive}
use Rattle.laws.proofs.RowFits.{fits}
use Rattle.laws.proofs.Grow.{named, Finds, object-kept, element-kept, preds-kept, object-grows, element-grows, preds-grow}
use Rattle.laws.proofs.Accepted.{New, Sound}
use Rattle.laws.proofs.Entries.{succ-of}
use Rattle.laws.proofs.Together.{on_row, old_row, new_row}
use Rattle.demands.proofs.MergedRows.{row-in, row_out, on-succ, succ-out}
use Rattle.demands.proofs.MergedWellFormed.{merged-formed}
use Rattle.demands.proofs.Joined.{rows-joined, joined, joined-sound}
use Rattle.demands.proofs.Courses.{Full, full, empty-formed, empty-sound, empty-merged, step-accepts, course-sound, rows-shuffled, succs-shuffled}

-- ── soundness does not depend on the order
pub sound-shuffled : (a b : List Op) → Perm a b → Sound empty a → Sound empty b
sound-shuffled a b p s =
    record {
      rows_fit = λ o m. s.rows_fit o (back m);
      preds-fit = λ o m. s.preds-fit o (back m);
      apart = perm-pairwise (λ x y. id_of x ≡ id_of y → ⊥) (λ x y ne e. ne (sym e)) p s.apart;
      new = λ o m. s.new o (back m);
      objects = λ o m. object-grows (all_rows empty a) (all_rows empty b) over o (s.objects o (back m));
      elements = λ o m. element-grows (all_rows empty a) (all_rows empty b) over o (s.elements o (back m));
      preds = λ o m. preds-grow (all_rows empty a) (all_rows empty b) over o (s.preds o (back m));
      rows_few = omega (arith, perm-length (rows-shuffled p), s.rows_few);
      succs-few = omega (arith, perm-length (succs-shuffled p), s.succs-few);
    }
  where
    back : {o : Op} → Mem o b → Mem o a
    back m = perm-mem (perm-sym p) m

    over : (r : Row) → Mem r (all_rows empty a) → Mem r (all_rows empty b)
    over r m = perm-mem (rows-shuffled p) m

-- ── counts only grow
rows-count : (a b : List Op) → length (all_rows empty (a ++ b)) ≡ length (all_rows empty a) + length (all_rows empty b)
unfolding all_rows new_rows
rows-count a b =
    let p : Op → Bool = λ o. not (is_delete o) in
    ap length (ap (map row_of) (filter-append p a b) ∙ map-append row_of (filter p a) (filter p b)) ∙ length-append (map row_of (filter p a)) (map row_of (filter p b))

-- as many entries as predecessors, whatever the rows
pub preds-count : List Op → ℕ
preds-count b = length (concat_map preds_of b)

entries-count : (rs : List Row) (b : List Op) → length (new_succs rs b) ≡ preds-count b
unfolding new_succs preds-count
entries-count rs [] = refl
entries-count rs (o ∷ b) =
    omega (arith, length-append (map (entry rs o) (preds_of o)) (concat_map (λ o. map (entry rs o) (preds_of o)) b), length-append (preds_of o) (concat_map preds_of b), length-map (preds_of o) (entry rs o), entries-count rs b)

preds-append : (a b : List Op) → preds-count (a ++ b) ≡ preds-count a + preds-count b
unfolding preds-count
preds-append [] b = omega arith
preds-append (o ∷ a) b =
    omega (arith, length-append (preds_of o) (concat_map preds_of (a ++ b)), length-append (preds_of o) (concat_map preds_of a), preds-append a b)

succs-count : (b : List Op) → length (all_succs empty b) ≡ preds-count b
unfolding all_succs
succs-count b = entries-count (all_rows empty b) b

succs-count-then : (a b : List Op) → length (all_succs (merged empty a) b) ≡ preds-count a + preds-count b
unfolding all_succs merged
succs-count-then a b =
    omega (arith, length-append (sort succ_before (all_succs empty a)) (new_succs (all_rows (merged empty a) b) b), length-sort succ_before (all_succs empty a), succs-count a, entries-count (all_rows (merged empty a) b) b)

-- ── a batch whose references are known, of operations that are sound with all others
module _ (a c r : List Op) (s : Sound empty (a ++ (c ++ r))) (within : All (λ o. T (refers_within (a ++ c) o)) c) where
  mid : {o : Op} → Mem o c → Mem o (a ++ (c ++ r))
  mid m = append_right a (append_left r m)

  early : {o : Op} → Mem o (a ++ c) → Mem o (a ++ (c ++ r))
  early m = on-append a m (append_left (c ++ r)) mid

  early-row : {o : Op} → Mem o (a ++ c) → T (not (is_delete o)) → Mem (row_of o) (all_rows (merged empty a) c)
  early-row m t = on-append a m (λ n. old_row (merged empty a) c (row-in empty a (new_row empty a n t))) (λ n. new_row (merged empty a) c n t)

  finds : (o : Op) → Mem o c → Finds (all_rows empty (a ++ (c ++ r))) (all_rows (merged empty a) c) o
  unfolding refers_within refers_to
  finds o m p i n t =
      let w = a ++ (c ++ r) in
      let q = any-from p (rows_with (all_rows empty w) i) t in
      let v = with-from (all_rows empty w) i q.1 in
      on_row empty w v.0 (λ x. absurd (not-nil x))
      (λ x k u e.
      let here-id : id_of x ≡ i = sym (ap id_of e ∙ id-of x) ∙ v.1 in
      let ids = map id_of (a ++ c) in
      let known = all_from (λ i. member i ids) (refers_to o) (within o m) i
      (filter-in (λ i. not (eqb i root)) (named o) n (ne→neqb i root (λ z. omega (arith, id-positive i (subst (λ j. T (is_id j)) here-id (fits x (s.rows_fit x k)).id), z)))) in
      let y = map-from id_of (a ++ c) ((member-mem i ids).0 known) in
      let one : y.0 ≡ x = one_key id_of w s.apart y.0 x (early y.1) k (sym y.2 ∙ sym here-id) in
      any-in p (rows_with (all_rows (merged empty a) c) i)
      (with_in (all_rows (merged empty a) c) i (subst (λ z. Mem z (all_rows (merged empty a) c)) (sym e) (early-row (subst (λ z. Mem z (a ++ c)) one y.1) u)) v.1)
      q.2)

  part-new : (o : Op) → Mem o c → New (merged empty a) (id_of o)
  part-new o m = (
    λ q n e. on_row empty a (row_out empty a n) (λ x. not-nil x) (λ x k u g. before x k (sym (ap id_of g ∙ id-of x) ∙ sym e)),
    λ t n e. on-succ empty a (succ-out empty a n) (λ x. not-nil x) (λ x p k j g. before x k (sym (ap succ_of g ∙ succ-of (all_rows empty a) x p) ∙ sym e)),
  )
    where
      before : (x : Op) → Mem x a → id_of x ≡ id_of o → ⊥
      before x k = pairwise-across (λ x y. id_of x ≡ id_of y → ⊥) a (c ++ r) s.apart x o k (append_left r m)

  pub part_sound : Sound (merged empty a) c
  part_sound =
      record {
        rows_fit = λ o m. s.rows_fit o (mid m);
        preds-fit = λ o m. s.preds-fit o (mid m);
        apart = pairwise-left D c r (pairwise-right D a (c ++ r) s.apart);
        new = part-new;
        objects = λ o m. object-kept (all_rows empty (a ++ (c ++ r))) (all_rows (merged empty a) c) o (finds o m) (s.objects o (mid m));
        elements = λ o m. element-kept (all_rows empty (a ++ (c ++ r))) (all_rows (merged empty a) c) o (finds o m) (s.elements o (mid m));
        preds = λ o m. preds-kept (all_rows empty (a ++ (c ++ r))) (all_rows (merged empty a) c) o (finds o m) (s.preds o (mid m));
        rows_few = omega (arith, perm-length (rows-joined empty a c), rows-count a c, rows-count a (c ++ r), rows-count c r, s.rows_few);
        succs-few = omega (arith, succs-count-then a c, succs-count (a ++ (c ++ r)), preds-append a (c ++ r), preds-append c r, s.succs-few);
      }
    where
      D : Op → Op → Type 0
      D x y = id_of x ≡ id_of y → ⊥

-- ── cutting by cutting
cut-accepted : (a : List Op) (cs : List (List Op)) → Full (a ++ concat cs) → Sound empty (a ++ concat cs) → Sound empty a → T (cut_well a cs) → T (course_accepted (merged empty a) cs)
cut-accepted a [] f s sa t = tt
cut-accepted a (c ∷ cs) f s sa t =
    let small = leb (length c) max_batch in
    let refs = all (refers_within (a ++ c)) c in
    let u = (T_and (small && refs) (cut_well (a ++ c) cs)).0 t in
    let v = (T_and small refs).0 u.0 in
    let fa : Full a = λ o m. f o (append_left (c ++ concat cs) m) in
    let one = part_sound a c (concat cs) s (all_from (refers_within (a ++ c)) c v.1) in
    let e = append_assoc a c (concat cs) in
    (T_and (is_accepted (merge_refusal (merged empty a) c)) (course_accepted (merged (merged empty a) c) cs)).1 (
      step-accepts (merged empty a) c (merged-formed empty a empty-formed sa fa) (leb→le (length c) max_batch v.0) one,
      subst (λ d. T (course_accepted d cs)) (sym (joined empty a c empty-formed fa sa one))
          (cut-accepted (a ++ c) cs (subst Full (sym e) f) (subst (Sound empty) (sym e) s) (joined-sound empty a c empty-formed fa sa one) u.1),
    )

pub every-cutting-accepted : (bs cs : List (List Op)) → T (shaped_ops (concat bs)) → T (course_accepted empty bs) → Perm (concat bs) (concat cs) → T (cut_well [] cs)
    → T (course_accepted empty cs)
every-cutting-accepted bs cs h t p w =
    subst (λ d. T (course_accepted d cs)) empty-merged
    (cut-accepted [] cs (λ o m. full (concat bs) h o (perm-mem (perm-sym p) m)) (sound-shuffled (concat bs) (concat cs) p (course-sound bs h t)) empty-sound w)
