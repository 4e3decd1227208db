-- What the Untangler's walk puts out, and what it leaves: all rows of the list, and every new row whose element is put out; so all of them, where
-- each names an element of the list or of the batch.
use mathlib.Core.Path.{◌≡◌, refl, sym, ap, subst, ◌∙◌}
use mathlib.Core.Logic.{◌⊎◌, ⊎_elim}
use mathlib.Core.Bool.{Bool, not, ◌&&◌}
use mathlib.Core.List.{List, [], ◌∷◌, ◌++◌, map, append_assoc, append-nil}
use Prim.Native.Nat.{ℕ, zero, suc, ◌<◌}
use native.Mathlib.Omega.{arith}
use lib.Dec.{T, T_not, eqb}
use Rattle.model.specs.Basic.{filter}
use Rattle.model.specs.Id.{head}
use Rattle.model.specs.Row.{Row, id_of, named_of, is_insert}
use Rattle.laws.proofs.Tests.{and_comm}
use Rattle.laws.proofs.Members.{Mem, here, there, not-nil, All, on-mem, on-append, filter-both, filter-ext}
use Rattle.laws.proofs.Perms.{Perm, perm-cons, perm-trans, perm-refl, perm-sym, perm-append, perm-eq, perm-mem, perm_middle, perm-parts, perm_comm, sort-perm-self}
use Rattle.laws.proofs.Untangle.{falls, rises, waiting, updates, others, Event, row_in, Runs, ends, update, keep, place, step, updates-plain}
use Rattle.laws.proofs.Untangled.{others-in}

-- ── a pool is what waits for e, as updates and as inserts, and the others
pub parted : (e : ℕ) (pool : List Row) → Perm pool (others e pool ++ (updates e pool ++ waiting e pool))
unfolding others updates waiting
parted e pool =
    let here-at : Row → Bool = λ r. eqb (named_of r) e in
    let found = filter here-at pool in
    perm-trans (perm-parts here-at pool)
    (perm-append (perm-refl (filter (λ r. not (here-at r)) pool))
    (perm-trans (perm-parts is_insert found)
    (perm-append
    (perm-trans (perm-eq (filter-both (λ r. not (is_insert r)) here-at pool ∙ filter-ext (λ r. here-at r && not (is_insert r)) (λ r. not (is_insert r) && here-at r) pool (λ r m. and_comm (here-at r) (not (is_insert r)))))
    (perm-sym (sort-perm-self rises (filter (λ r. not (is_insert r) && here-at r) pool))))
    (perm-trans (perm-eq (filter-both is_insert here-at pool ∙ filter-ext (λ r. here-at r && is_insert r) (λ r. is_insert r && here-at r) pool (λ r m. and_comm (here-at r) (is_insert r))))
    (perm-sym (sort-perm-self falls (filter (λ r. is_insert r && here-at r) pool)))))))

-- ── what is put out, and what is left
-- none of those that are left waits for an element that was put out
abbrev Left : List Row → List Row → Type 0
Left left rows = All (λ x. All (λ y. T (is_insert y) → named_of x ≡ id_of y → ⊥) rows) left

record Out (pool up st doc rows : List Row) : Type 0 where
  left : List Row
  all : Perm (rows ++ left) (pool ++ (up ++ (st ++ doc)))
  in-pool : All (λ x. Mem x pool) left
  waits : Left left rows

-- an element x is put out, and all that waits for it leaves the pool
opened : (x : Row) (pool st doc rows : List Row) → Out (others (id_of x) pool) (updates (id_of x) pool) (waiting (id_of x) pool ++ st) doc rows
    → (left : List Row) × Perm (x ∷ (rows ++ left)) (x ∷ (pool ++ (st ++ doc))) × All (λ y. Mem y pool) left × Left left (x ∷ rows)
opened x pool st doc rows o =
    let e = id_of x in
    let others-e = others e pool in
    let up = updates e pool in
    let w = waiting e pool in
    let assoc : others-e ++ (up ++ ((w ++ st) ++ doc)) ≡ (others-e ++ (up ++ w)) ++ (st ++ doc) =
    ap (λ l. others-e ++ l) (ap (λ l. up ++ l) (append_assoc w st doc) ∙ sym (append_assoc up w (st ++ doc))) ∙ sym (append_assoc others-e (up ++ w) (st ++ doc)) in (
      o.left,
      perm-cons refl (perm-trans o.all (perm-trans (perm-eq assoc) (perm-append (perm-sym (parted e pool)) (perm-refl (st ++ doc))))),
      λ y m. (others-in e e pool (o.in-pool y m)).0,
      λ y m z n. on-mem n (λ q t g. (others-in e e pool (o.in-pool y m)).1 (g ∙ ap id_of q)) (λ k. o.waits y m z k),
    )

runs-out : {pool up st doc : List Row} {out : List Event} → Runs pool up st doc out → All (λ u. T (not (is_insert u))) up → Out pool up st doc (map row_in out)
runs-out (ends {pool}) a = record { left = pool; all = perm-eq (sym (append-nil pool)); in-pool = λ x m. m; waits = λ x m y n. absurd (not-nil n) }
runs-out (update {u} {pool} {up} {st} {doc} {out} h r) a =
    let o = runs-out r (λ x m. a x (there m)) in
    record {
      left = o.left;
      all = perm-trans (perm-cons refl o.all) (perm_middle u pool (up ++ (st ++ doc)));
      in-pool = o.in-pool;
      waits = λ x m y n. on-mem n (λ q t. absurd (T_not (is_insert u) (a u (here refl)) (subst (λ z. T (is_insert z)) q t))) (o.waits x m y);
    }
runs-out (keep {d} {pool} {up} {st} {doc} {out} t h r) a =
    let o = runs-out r a in
    let assoc : (k : List Row) → pool ++ (up ++ (st ++ k)) ≡ ((pool ++ up) ++ st) ++ k = λ k. sym (append_assoc (pool ++ up) st k ∙ append_assoc pool up (st ++ k)) in
    record {
      left = o.left;
      all = perm-trans (perm-cons refl (perm-trans o.all (perm-eq (assoc doc)))) (perm-trans (perm_middle d ((pool ++ up) ++ st) doc) (perm-eq (sym (assoc (d ∷ doc)))));
      in-pool = o.in-pool;
      waits = λ x m y n. on-mem n (λ q i. absurd (T_not (is_insert d) t (subst (λ z. T (is_insert z)) q i))) (o.waits x m y);
    }
runs-out (place {s} {pool} {st} {doc} {out} h r) a =
    let w = opened s pool st doc (map row_in out) (runs-out r (λ u m. (updates-plain (id_of s) pool u m).0)) in
    record { left = w.0; all = perm-trans w.1 (perm_middle s pool (st ++ doc)); in-pool = w.2; waits = w.3 }
runs-out (step {d} {pool} {st} {doc} {out} t h r) a =
    let w = opened d pool st doc (map row_in out) (runs-out r (λ u m. (updates-plain (id_of d) pool u m).0)) in
    let assoc : (k : List Row) → pool ++ (st ++ k) ≡ (pool ++ st) ++ k = λ k. sym (append_assoc pool st k) in
    record {
      left = w.0;
      all = perm-trans w.1 (perm-trans (perm-cons refl (perm-eq (assoc doc))) (perm-trans (perm_middle d (pool ++ st) doc) (perm-eq (sym (assoc (d ∷ doc))))));
      in-pool = w.2;
      waits = w.3;
    }

nil : (l : List Row) → All (λ x. ⊥) l → l ≡ []
nil [] a = refl
nil (x ∷ l) a = absurd (a x (here refl))

-- ── from HEAD, with all that names an element: nothing is left
module _ (news doc : List Row) (plain : All (λ r. T (not (is_insert r)) → named_of r ≡ head → ⊥) news)
    (known : All (λ r. (named_of r ≡ head) ⊎ ((e : Row) × Mem e (doc ++ news) × T (is_insert e) × (id_of e ≡ named_of r) × (id_of e < id_of r))) news) where
  no-updates : updates head news ≡ []
  no-updates = nil (updates head news) (λ u m. let w = updates-plain head news u m in plain u w.2 w.0 w.1)

  from-head : Perm news (others head news ++ waiting head news)
  from-head = perm-trans (parted head news) (perm-eq (ap (λ u. others head news ++ (u ++ waiting head news)) no-updates))

  module _ {out : List Event} (r : Runs (others head news) [] (waiting head news) doc out) where
    o : Out (others head news) [] (waiting head news) doc (map row_in out)
    o = runs-out r (λ u m. absurd (not-nil m))

    state : Perm (others head news ++ (waiting head news ++ doc)) (doc ++ news)
    state =
        perm-trans (perm-eq (sym (append_assoc (others head news) (waiting head news) doc)))
        (perm-trans (perm-append (perm-sym from-head) (perm-refl doc)) (perm_comm news doc))

    -- what is left would name something smaller that is left
    nothing_left : (n : ℕ) (x : Row) → Mem x o.left → id_of x < n → ⊥
    nothing_left zero x m h = omega arith
    nothing_left (suc n) x m h =
        let i = others-in head head news (o.in-pool x m) in
        ⊎_elim i.1
        (λ w.
        on-append (map row_in out) (perm-mem (perm-sym o.all) (perm-mem (perm-sym state) w.1))
        (λ k. o.waits x m w.0 k w.2 (sym w.3))
        (λ k. nothing_left n w.0 k (let q = w.4 in omega arith)))
        (known x i.0)

    pub runs-all : Perm (map row_in out) (doc ++ news)
    runs-all =
        let none : o.left ≡ [] = nil o.left (λ x m. nothing_left (suc (id_of x)) x m (omega arith)) in
        perm-trans (perm-eq (sym (ap (λ l. map row_in out ++ l) none ∙ append-nil (map row_in out)))) (perm-trans o.all state)
