-- What the searches find where the table of successors ascends: the entries before and behind are other rows'.
use mathlib.Core.Path.{◌≡◌, sym, ap, ◌∙◌}
use mathlib.Core.Bool.{Bool, ◌&&◌}
use mathlib.Core.Logic.{⊎_elim}
use mathlib.Core.List.{List, [], ◌∷◌}
use Prim.Native.Nat.{ℕ, zero, suc, ◌+◌, ◌-◌, ◌/◌, ◌≤◌, ◌<◌}
use native.Mathlib.Omega.{arith}
use borrow.Author.Tests.{eq-eqb}
use lib.Dec.{T, ltb, eqb, ltb→lt, eqb→eq}
use lib.ListN.{length, get_or, drop, length-drop}
use lib.Seq.{get_or-drop}
use Rattle.model.specs.Basic.{ascends}
use Rattle.model.specs.Row.{Succ, owner_of, succ_of}
use Rattle.model.specs.Document.{succ_before}
use Rattle.laws.proofs.Tests.{T_and, T-or, by_order, by-eq}
use Rattle.laws.proofs.Members.{not-nil, on-mem}
use Rattle.laws.proofs.Pairs.{Pairwise}
use Rattle.std.proofs.lemmas.Bool.{false≢true}
use Rattle.std.proofs.lemmas.List.Sums.{prefix_len-le-length}
use Rattle.ids.proofs.ByIndex.{pairwise-at}
use Rattle.ids.proofs.Prefixes.{prefix-ends}
use Rattle.visible.specs.Entries.{narrowed, run}
use Rattle.visible.specs.Scope.{Ascends}
use Rattle.visible.proofs.Searches.{go_right, go_left, stop}

-- ── the rows' ids ascend
owner-rises : (s t : Succ) → T (succ_before s t) → owner_of s ≤ owner_of t
unfolding succ_before
owner-rises s t u =
    ⊎_elim (λ v. omega (arith, ltb→lt (owner_of s) (owner_of t) v))
    (λ v. omega (arith, eqb→eq (owner_of s) (owner_of t) ((T_and (eqb (owner_of s) (owner_of t)) (ltb (succ_of s) (succ_of t))).0 v).0))
    ((T-or (ltb (owner_of s) (owner_of t)) (eqb (owner_of s) (owner_of t) && ltb (succ_of s) (succ_of t))).0 u)

owners-rise : (l : List Succ) → T (ascends succ_before l) → Pairwise (λ s t. owner_of s ≤ owner_of t) l
owners-rise [] u = tt
owners-rise (s ∷ []) u = (λ t m. absurd (not-nil m), tt)
owners-rise (s ∷ t ∷ l) u =
    let v = (T_and (succ_before s t) (ascends succ_before (t ∷ l))).0 u in
    let r = owners-rise (t ∷ l) v.1 in
    let h = owner-rises s t v.0 in
    (λ x m. on-mem m (λ e. rw e h) (λ n. omega (arith, r.0 x n)), r)

module _ {succs : List Succ} (asc : Ascends succs) where
  pub rises : (i j : ℕ) → i ≤ j → j < length succs → owner_of (get_or succs i []) ≤ owner_of (get_or succs j [])
  rises i j h k =
      by-eq i j (λ e. rw e (omega arith))
      (λ ne. pairwise-at (λ s t. owner_of s ≤ owner_of t) [] succs (owners-rise succs asc.up) i j (omega arith) k)

  -- ── halving finds where the ids are not below any more
  pub record Split (id r : ℕ) : Type 0 where
    pub within : r ≤ length succs
    pub below : (j : ℕ) → j < r → owner_of (get_or succs j []) < id
    pub above : (j : ℕ) → r ≤ j → j < length succs → id ≤ owner_of (get_or succs j [])

  halves : (n id low high : ℕ) → high - low ≤ n → low ≤ high → high ≤ length succs → ((j : ℕ) → j < low → owner_of (get_or succs j []) < id)
      → ((j : ℕ) → high ≤ j → j < length succs → id ≤ owner_of (get_or succs j [])) → Split id (narrowed n id succs low high)
  halves zero id low high f h k b a =
      let e : high ≡ low = omega arith in
      rw (stop zero id succs low high (omega arith)) record { within = omega arith; below = b; above = λ j x y. a j (omega arith) y }
  halves (suc n) id low high f h k b a =
      by_order low high
      (λ l.
      let mid = low + (high - low) / 2 in
      let lt : mid < high = omega arith in
      by_order (owner_of (get_or succs mid [])) id
      (λ o.
      rw (go_right n id succs low high l o)
      (halves n id (mid + 1) high (omega arith) (omega arith) k (λ j x. let q = rises j mid (omega arith) (omega arith) in omega arith) a))
      (λ o.
      rw (go_left n id succs low high l o)
      (halves n id low mid (omega arith) (omega arith) (omega arith) b (λ j x y. let q = rises mid j x y in omega arith))))
      (λ l.
      let e : high ≡ low = omega arith in
      rw (stop (suc n) id succs low high l) record { within = omega arith; below = b; above = λ j x y. a j (omega arith) y })

  pub first-splits : (id : ℕ) → Split id (narrowed (length succs) id succs 0 (length succs))
  first-splits id = halves (length succs) id 0 (length succs) (omega arith) (omega arith) (omega arith) (λ j h. absurd (omega arith)) (λ j h k. absurd (omega arith))

-- ── a run ends at the table's end, or at another row's entry
module _ (id : ℕ) (succs : List Succ) where
  pub record Ends (t : ℕ) : Type 0 where
    pub within : t ≤ length succs
    pub other : t < length succs → owner_of (get_or succs t []) ≡ id → ⊥

  pub run_ends : (k : ℕ) → k ≤ length succs → Ends (k + run id (drop k succs))
  unfolding run
  run_ends k h =
      let rest = drop k succs in
      let n : length rest ≡ length succs - k = length-drop k succs in
      let mine : Succ → Bool = λ s. eqb (owner_of s) id in
      let w = prefix_len-le-length mine rest in
      record {
        within = omega arith;
        other = λ x e.
            let s = get_or rest (run id rest) [] in
            false≢true (sym (prefix-ends mine [] rest (omega arith)) ∙ eq-eqb (owner_of s) id (ap owner_of (get_or-drop k succs (run id rest) []) ∙ e));
      }
