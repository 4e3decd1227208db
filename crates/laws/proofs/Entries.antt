-- The entries that a batch's operations make: whose they are, and that no two are of one row and one operation.
use mathlib.Core.Path.{◌≡◌, refl, sym, ap, ◌∙◌, subst}
use mathlib.Core.Logic.{inl, inr}
use mathlib.Core.Bool.{Bool, true, false, not, cond, ◌&&◌, ◌||◌}
use mathlib.Core.List.{List, [], ◌∷◌, map}
use Prim.Native.Nat.{ℕ, suc, ◌≤◌, ◌<◌}
use native.Mathlib.Omega.{arith}
use lib.ListN.{length, drop, length-take, length-drop}
use lib.Dec.{T, ltb, eqb, leb, leb→le, ltb→lt, eqb→eq}
use Rattle.model.specs.Basic.{◌implies◌, any, all, filter, concat_map, zeros, ascends}
use Rattle.model.specs.Sizes.{max_preds, row_words, op_words}
use Rattle.model.specs.Id.{is_id}
use Rattle.model.specs.Row.{Row, Op, Succ, id_of, value_of, is_insert, is_delete, is_increment, is_counter, is_set_or_make, owner_of, succ_of, preds_of, pred_count_of, pred_room_of, rows_with}
use Rattle.model.specs.Key.{same_key}
use Rattle.model.specs.Document.{entry, new_succs, succ_before}
use Rattle.model.specs.Malformed.{preds_fit}
use Rattle.model.specs.Refusal.{pred_fits, preds_exist}
use Rattle.laws.proofs.Tests.{T_and, T-or, T-implies, by-test, ne→neqb, eq→eqb}
use Rattle.laws.proofs.Members.{Mem, here, there, not-nil, All, mem-map, map-from, concat_map-from, concat_map-in, any-from, all_from}
use Rattle.laws.proofs.Pairs.{Pairwise, NoDup, KeyDistinct, picked, pairwise_append, pairwise-mono, pairwise_map}
use Rattle.laws.proofs.Sort.{Sorted, ascends-sorted}
use Rattle.laws.proofs.Lex.{StrictTotal, ltb-strict, pair-strict, pair_before, eqb_is}
use Rattle.laws.proofs.RowOrder.{pair_of, SuccsApart}
use Rattle.laws.proofs.RowWords.{with-from}

-- ── one entry
module _ (rs : List Row) (o : Op) (p : ℕ) where
  pub owner_of-entry : owner_of (entry rs o p) ≡ p
  unfolding entry
  owner_of-entry = go (is_increment o && any is_counter (rows_with rs p))
    where
      go : (t : Bool) → owner_of (cond t (p ∷ id_of o ∷ 1 ∷ value_of o ∷ []) (p ∷ id_of o ∷ 0 ∷ 0 ∷ [])) ≡ p
      go true = refl
      go false = refl

  pub succ-of : succ_of (entry rs o p) ≡ id_of o
  unfolding entry
  succ-of = go (is_increment o && any is_counter (rows_with rs p))
    where
      go : (t : Bool) → succ_of (cond t (p ∷ id_of o ∷ 1 ∷ value_of o ∷ []) (p ∷ id_of o ∷ 0 ∷ 0 ∷ [])) ≡ id_of o
      go true = refl
      go false = refl

-- rows that agree on who is a counter give the same entry
pub entry-by : (rs rs' : List Row) (o : Op) (p : ℕ) → any is_counter (rows_with rs p) ≡ any is_counter (rows_with rs' p) → entry rs o p ≡ entry rs' o p
unfolding entry
entry-by rs rs' o p e = rw e

-- ── an operation's predecessors
pub record Preds (o : Op) : Type 0 where
  pub few : pred_count_of o ≤ max_preds
  pub past : T (zeros (drop (pred_count_of o) (pred_room_of o)))
  pub ids : All (λ p. T (is_id p)) (preds_of o)
  pub rise : Sorted ltb (preds_of o)
  pub no-insert : T (is_insert o) → pred_count_of o ≡ 0
  pub some : T (is_delete o) → 0 < pred_count_of o
  pub some-increment : T (is_increment o) → 0 < pred_count_of o

pub preds-facts : (o : Op) → T (preds_fit o) → Preds o
unfolding preds_fit
preds-facts o t5 =
    let c1 = leb (pred_count_of o) max_preds in
    let c2 = c1 && zeros (drop (pred_count_of o) (pred_room_of o)) in
    let c3 = c2 && all is_id (preds_of o) in
    let c4 = c3 && ascends ltb (preds_of o) in
    let c5 = c4 && (is_insert o implies eqb (pred_count_of o) 0) in
    let last = (is_delete o || is_increment o) implies ltb 0 (pred_count_of o) in
    let t4 = (T_and c5 last).0 t5 in
    let t3 = (T_and c4 (is_insert o implies eqb (pred_count_of o) 0)).0 t4.0 in
    let t2 = (T_and c3 (ascends ltb (preds_of o))).0 t3.0 in
    let t1 = (T_and c2 (all is_id (preds_of o))).0 t2.0 in
    let t0 = (T_and c1 (zeros (drop (pred_count_of o) (pred_room_of o)))).0 t1.0 in
    let many : T (is_delete o || is_increment o) → 0 < pred_count_of o = λ u. ltb→lt 0 (pred_count_of o) ((T-implies (is_delete o || is_increment o) (ltb 0 (pred_count_of o))).0 t4.1 u) in
    record {
      few = leb→le (pred_count_of o) max_preds t0.0;
      past = t0.1;
      ids = all_from is_id (preds_of o) t1.1;
      rise = ascends-sorted ltb (preds_of o) (λ x y z i j k. ltb-strict.transitive x y z) t2.1;
      no-insert = λ u. eqb→eq (pred_count_of o) 0 ((T-implies (is_insert o) (eqb (pred_count_of o) 0)).0 t3.1 u);
      some = λ u. many ((T-or (is_delete o) (is_increment o)).1 (inl u));
      some-increment = λ u. many ((T-or (is_delete o) (is_increment o)).1 (inr u));
    }

pub preds-few : (o : Op) → T (preds_fit o) → length (preds_of o) ≤ max_preds
preds-few o t = omega (arith, length-take (pred_count_of o) (pred_room_of o), (preds-facts o t).few)

pub preds-nodup : (o : Op) → T (preds_fit o) → NoDup (preds_of o)
preds-nodup o t = pairwise-mono (preds_of o) (λ x y i j u e. ltb-strict.irreflexive x (rw (← e) at u)) (preds-facts o t).rise

-- with predecessors it is no insert
pub preds-no-insert : (o : Op) (p : ℕ) → T (preds_fit o) → Mem p (preds_of o) → T (not (is_insert o))
preds-no-insert o p t m =
    by-test (is_insert o)
    (λ u. absurd (not-nil (rw ((preds-facts o t).no-insert u) at m)))
    (λ u. u)

-- an operation of full width has as many predecessors as it counts
pub preds-length : (o : Op) → length o ≡ op_words → T (preds_fit o) → length (preds_of o) ≡ pred_count_of o
preds-length o w t = omega (arith, length-take (pred_count_of o) (pred_room_of o), length-drop (suc row_words) o, (preds-facts o t).few)

-- what check 8 says of one of them
pub pred-row : (rs : List Row) (o : Op) → T (preds_exist rs o) → (p : ℕ) → Mem p (preds_of o)
    → (p < id_of o) × ((r : Row) × Mem r rs × (id_of r ≡ p) × T (is_set_or_make r) × T (same_key r o))
unfolding preds_exist pred_fits
pred-row rs o t p m =
    let q : Row → Bool = λ r. is_set_or_make r && same_key r o in
    let test : ℕ → Bool = λ p. ltb p (id_of o) && any q (rows_with rs p) in
    let u = (T_and (ltb p (id_of o)) (any q (rows_with rs p))).0 (all_from test (preds_of o) t p m) in
    let r = any-from q (rows_with rs p) u.1 in
    let w = with-from rs p r.1 in
    let v = (T_and (is_set_or_make r.0) (same_key r.0 o)).0 r.2 in
    (ltb→lt p (id_of o) u.0, (r.0, w.0, w.1, v.0, v.1))

-- ── all entries of a batch
pub new-succs-from : (rs : List Row) (b : List Op) {s : Succ} → Mem s (new_succs rs b) → (o : Op) × (p : ℕ) × Mem o b × Mem p (preds_of o) × (s ≡ entry rs o p)
unfolding new_succs
new-succs-from rs b m =
    let r = concat_map-from (λ o. map (entry rs o) (preds_of o)) b m in
    let q = map-from (entry rs r.0) (preds_of r.0) r.2 in
    (r.0, q.0, r.1, q.1, q.2)

pub new-succs-in : (rs : List Row) (b : List Op) {o : Op} {p : ℕ} → Mem o b → Mem p (preds_of o) → Mem (entry rs o p) (new_succs rs b)
unfolding new_succs
new-succs-in rs b {o} {p} m i = concat_map-in (λ o. map (entry rs o) (preds_of o)) b m (mem-map (entry rs o) i)

pairwise-concat_map : {A B : Type 0} (R : B → B → Type 0) (f : A → List B) (l : List A) → All (λ a. Pairwise R (f a)) l
    → Pairwise (λ a c. (x y : B) → Mem x (f a) → Mem y (f c) → R x y) l → Pairwise R (concat_map f l)
pairwise-concat_map R f [] a p = tt
pairwise-concat_map R f (c ∷ l) a p =
    pairwise_append (f c) (concat_map f l) (a c (here refl)) (pairwise-concat_map R f l (λ x m. a x (there m)) p.1)
    (λ x y m n. let r = concat_map-from f l n in p.0 r.0 r.1 x y m r.2)

pub new-succs-apart : (rs : List Row) (b : List Op) → KeyDistinct id_of b → All (λ o. T (preds_fit o)) b → SuccsApart (new_succs rs b)
unfolding new_succs
new-succs-apart rs b d f =
    pairwise-concat_map (λ x y. pair_of x ≡ pair_of y → ⊥) (λ o. map (entry rs o) (preds_of o)) b
    (λ o m.
    (pairwise_map (λ x y. pair_of x ≡ pair_of y → ⊥) (entry rs o) (preds_of o)).1
    (pairwise-mono (preds_of o) (λ p q i j ne e. ne (sym (owner_of-entry rs o p) ∙ ap (λ u. u.0) e ∙ owner_of-entry rs o q)) (preds-nodup o (f o m))))
    (pairwise-mono b
    (λ o c i j ne x y m n e.
    let p = map-from (entry rs o) (preds_of o) m in
    let q = map-from (entry rs c) (preds_of c) n in
    ne (sym (ap succ_of p.2 ∙ succ-of rs o p.0) ∙ ap (λ u. u.1) e ∙ ap succ_of q.2 ∙ succ-of rs c q.0))
    d)

-- the entries of one operation, among those of its batch
pub new-succs-of : (rs : List Row) (b : List Op) (o : Op) → KeyDistinct id_of b → Mem o b → filter (λ t. eqb (succ_of t) (id_of o)) (new_succs rs b) ≡ map (entry rs o) (preds_of o)
unfolding new_succs
new-succs-of rs b o d m =
    picked id_of (λ o. map (entry rs o) (preds_of o)) (λ t. eqb (succ_of t) (id_of o)) b o d m
    (λ s n. let q = map-from (entry rs o) (preds_of o) n in eq→eqb (succ_of s) (id_of o) (ap succ_of q.2 ∙ succ-of rs o q.0))
    (λ a i ne s n. let q = map-from (entry rs a) (preds_of a) n in ne→neqb (succ_of s) (id_of o) (λ e. ne (sym (ap succ_of q.2 ∙ succ-of rs a q.0) ∙ e)))

-- ── entries that ascend are apart
pair-total : StrictTotal (pair_before ltb eqb ltb)
pair-total = pair-strict ltb eqb ltb eqb_is ltb-strict ltb-strict

pub succs-sorted : (ss : List Succ) → T (ascends succ_before ss) → Sorted succ_before ss
unfolding succ_before
succs-sorted ss t = ascends-sorted succ_before ss (λ x y z i j k. pair-total.transitive (pair_of x) (pair_of y) (pair_of z)) t

pub sorted_apart : (ss : List Succ) → Sorted succ_before ss → SuccsApart ss
unfolding succ_before
sorted_apart ss s = pairwise-mono ss (λ x y i j u e. pair-total.irreflexive (pair_of x) (subst (λ q. T (pair_before ltb eqb ltb (pair_of x) q)) (sym e) u)) s

pub succs-apart : (ss : List Succ) → T (ascends succ_before ss) → SuccsApart ss
succs-apart ss t = sorted_apart ss (succs-sorted ss t)

-- the entries of one operation stand as its predecessors do
pub own-sorted : (rs : List Row) (o : Op) → T (preds_fit o) → Sorted succ_before (map (entry rs o) (preds_of o))
unfolding succ_before
own-sorted rs o t =
    (pairwise_map (λ x y. T (pair_before ltb eqb ltb (pair_of x) (pair_of y))) (entry rs o) (preds_of o)).1
    (pairwise-mono (preds_of o)
    (λ p q i j u. rw (owner_of-entry rs o p, owner_of-entry rs o q) ((T-or (ltb p q) (eqb p q && ltb (succ_of (entry rs o p)) (succ_of (entry rs o q)))).1 (inl u)))
    (preds-facts o t).rise)
