-- The Untangler's walk with no pool: what waits for an element is looked up among all new rows, since nothing is put out twice.
use Rattle.std.specs.Prelude.{if◌then◌else◌}
use mathlib.Core.Path.{◌≡◌, refl, sym, ap, subst, ◌∙◌}
use mathlib.Core.Logic.{⊎_map}
use mathlib.Core.Bool.{Bool, true, false, not, ◌&&◌, ◌||◌}
use mathlib.Core.List.{List, [], ◌∷◌, ◌++◌}
use Prim.Native.Nat.{ℕ, zero, suc, ◌+◌, ◌≤◌, ◌<◌}
use native.Mathlib.Omega.{arith}
use lib.ListN.{length, length-append}
use lib.Dec.{ltb, ltb→lt, nltb→le, T, not_T, eqb, eqb→eq}
use Rattle.model.specs.Basic.{filter, sort, member}
use Rattle.model.specs.Id.{head}
use Rattle.model.specs.Row.{Row, id_of, named_of, is_insert}
use Rattle.laws.proofs.Tests.{T-or, split, T_and, or-false}
use Rattle.laws.proofs.Members.{Mem, here, there, not-nil, All, on-mem, on-append, append_left, append_right, filter-both, filter-ext, filter-filter, member-mem}
use Rattle.laws.proofs.Pairs.{one_key, Pairwise, pairwise_append, pairwise-across, filter-pairwise}
use Rattle.laws.proofs.Perms.{perm-length, perm-pairwise, perm-sym, sort-perm-self}
use Rattle.laws.proofs.RowOrder.{Apart}
use Rattle.laws.proofs.UntangledAll.{parted}
use Rattle.laws.proofs.Untangle.{waiting, updates, others, Event, old, new, BeforeHead, BeforeNext, AboveHead, UpTo, Runs, ends, update, keep, place, step, waiting-inserts, updates-plain, falls, rises}

pub data Walks (news : List Row) : List Row → List Row → List Row → List Event → Type 0 where
  w-ends : Walks news [] [] [] []
  w-update : {u : Row} {up st doc : List Row} {out : List Event} → BeforeHead u doc → Walks news up st doc out → Walks news (u ∷ up) st doc (new u ∷ out)
  w-keep : {d : Row} {up st doc : List Row} {out : List Event} → T (not (is_insert d)) → BeforeNext d up → Walks news up st doc out → Walks news up st (d ∷ doc) (old d ∷ out)
  w-place : {s : Row} {st doc : List Row} {out : List Event} → AboveHead s doc → Walks news (updates (id_of s) news) (waiting (id_of s) news ++ st) doc out → Walks news [] (s ∷ st) doc (new s ∷ out)
  w-step : {d : Row} {st doc : List Row} {out : List Event} → T (is_insert d) → UpTo d st → Walks news (updates (id_of d) news) (waiting (id_of d) news ++ st) doc out → Walks news [] st (d ∷ doc) (old d ∷ out)

module _ (news : List Row) (apart : Apart news) where
  -- what does not wait for an element that was seen
  pool-of : List ℕ → List Row
  pool-of seen = filter (λ r. not (member (named_of r) seen)) news

  abbrev D : Row → Row → Type 0
  D x y = id_of x ≡ id_of y → ⊥

  -- the elements that were put out are `seen`; what waits on the stack waits for one of them, and was not put out itself
  record Seen (seen : List ℕ) (st doc : List Row) : Type 0 where
    st-apart : Pairwise D st
    st-waits : All (λ s. Mem s news × T (is_insert s) × Mem (named_of s) seen × (Mem (id_of s) seen → ⊥)) st
    doc-apart : Apart (doc ++ news)
    doc-new : All (λ d. T (is_insert d) → Mem (id_of d) seen → ⊥) doc
    seen-waited : All (λ r. Mem (id_of r) seen → Mem (named_of r) seen) news

  doc-across : {doc : List Row} → Apart (doc ++ news) → {d r : Row} → Mem d doc → Mem r news → id_of d ≡ id_of r → ⊥
  doc-across {doc} a {d} {r} m n = pairwise-across D doc news a d r m n

  not_seen : (e : ℕ) (seen : List ℕ) → (Mem e seen → ⊥) → (r : Row) → named_of r ≡ e → T (not (member (named_of r) seen))
  not_seen e seen f r g = not_T (member (named_of r) seen) (λ t. f (subst (λ i. Mem i seen) g ((member-mem (named_of r) seen).0 t)))

  -- an element that was not seen finds in the pool all that waits for it
  waiting-same : (e : ℕ) (seen : List ℕ) → (Mem e seen → ⊥) → waiting e (pool-of seen) ≡ waiting e news
  unfolding waiting pool-of
  waiting-same e seen f =
      ap (sort falls)
      (filter-filter (λ r. is_insert r && eqb (named_of r) e) (λ r. not (member (named_of r) seen)) news (λ r m t. not_seen e seen f r (eqb→eq (named_of r) e ((T_and (is_insert r) (eqb (named_of r) e)).0 t).1)))

  updates-same : (e : ℕ) (seen : List ℕ) → (Mem e seen → ⊥) → updates e (pool-of seen) ≡ updates e news
  unfolding updates pool-of
  updates-same e seen f =
      ap (sort rises)
      (filter-filter (λ r. not (is_insert r) && eqb (named_of r) e) (λ r. not (member (named_of r) seen)) news (λ r m t. not_seen e seen f r (eqb→eq (named_of r) e ((T_and (not (is_insert r)) (eqb (named_of r) e)).0 t).1)))

  others_same : (e : ℕ) (seen : List ℕ) → others e (pool-of seen) ≡ pool-of (e ∷ seen)
  unfolding others pool-of
  others_same e seen =
      filter-both (λ r. not (eqb (named_of r) e)) (λ r. not (member (named_of r) seen)) news
      ∙ filter-ext (λ r. not (member (named_of r) seen) && not (eqb (named_of r) e)) (λ r. not (member (named_of r) (e ∷ seen))) news (λ r m. both (eqb (named_of r) e) (member (named_of r) seen))
    where
      both : (a b : Bool) → not b && not a ≡ not (a || b)
      both true true = refl
      both true false = refl
      both false true = refl
      both false false = refl

  waiting-apart : (e : ℕ) → Pairwise D (waiting e news)
  unfolding waiting
  waiting-apart e =
      perm-pairwise D (λ x y ne q. ne (sym q)) (perm-sym (sort-perm-self falls (filter (λ r. is_insert r && eqb (named_of r) e) news))) (filter-pairwise D (λ r. is_insert r && eqb (named_of r) e) news apart)

  -- x, which was not seen, is put out
  opened : (x : Row) (seen : List ℕ) (st doc : List Row) → (Mem (id_of x) seen → ⊥) → All (λ s. id_of s ≡ id_of x → ⊥) st → All (λ d. T (is_insert d) → id_of d ≡ id_of x → ⊥) doc
      → All (λ r. id_of r ≡ id_of x → Mem (named_of r) seen) news → Pairwise D st → All (λ s. Mem s news × T (is_insert s) × Mem (named_of s) seen × (Mem (id_of s) seen → ⊥)) st
      → Apart (doc ++ news) → All (λ d. T (is_insert d) → Mem (id_of d) seen → ⊥) doc → All (λ r. Mem (id_of r) seen → Mem (named_of r) seen) news
      → Seen (id_of x ∷ seen) (waiting (id_of x) news ++ st) doc
  opened x seen st doc fresh st-other doc-other own sa sw da dn w =
      record {
        st-apart = pairwise_append (waiting (id_of x) news) st (waiting-apart (id_of x)) sa
            (λ a b m n e. let k = waiting-inserts (id_of x) news a m in let j = sw b n in
            fresh (subst (λ i. Mem i seen) (ap named_of (sym (one_key id_of news apart a b k.2 j.0 e)) ∙ k.1) j.2));
        st-waits = λ s m.
            on-append (waiting (id_of x) news) m
            (λ i.
            let k = waiting-inserts (id_of x) news s i in
            (k.2, k.0, here k.1, λ n. on-mem n (λ e. fresh (subst (λ j. Mem j seen) k.1 (own s k.2 e))) (λ j. fresh (subst (λ q. Mem q seen) k.1 (w s k.2 j)))))
            (λ i. let j = sw s i in (j.0, j.1, there j.2, λ n. on-mem n (st-other s i) j.3));
        doc-apart = da;
        doc-new = λ d m t n. on-mem n (doc-other d m t) (dn d m t);
        seen-waited = λ r m n. on-mem n (λ e. there (own r m e)) (λ k. there (w r m k));
      }

  moved : (e : ℕ) (seen : List ℕ) → (Mem e seen → ⊥) → (st doc : List Row) (out : List Event) → Runs (pool-of (e ∷ seen)) (updates e news) (waiting e news ++ st) doc out
      → Runs (others e (pool-of seen)) (updates e (pool-of seen)) (waiting e (pool-of seen) ++ st) doc out
  moved e seen f st doc out r =
      subst (λ k. Runs k (updates e (pool-of seen)) (waiting e (pool-of seen) ++ st) doc out) (sym (others_same e seen))
      (subst (λ k. Runs (pool-of (e ∷ seen)) k (waiting e (pool-of seen) ++ st) doc out) (sym (updates-same e seen f))
      (subst (λ k. Runs (pool-of (e ∷ seen)) (updates e news) (k ++ st) doc out) (sym (waiting-same e seen f)) r))

  after-place : (s : Row) (seen : List ℕ) (st doc : List Row) → Seen seen (s ∷ st) doc → (Mem (id_of s) seen → ⊥) × Seen (id_of s ∷ seen) (waiting (id_of s) news ++ st) doc
  after-place s seen st doc g =
      let k = g.st-waits s (here refl) in (
        k.3,
        opened s seen st doc k.3 (λ x m e. g.st-apart.0 x m (sym e)) (λ d m t e. doc-across g.doc-apart m k.0 e)
            (λ q m e. subst (λ z. Mem (named_of z) seen) (one_key id_of news apart s q k.0 m (sym e)) k.2) g.st-apart.1 (λ x m. g.st-waits x (there m)) g.doc-apart g.doc-new g.seen-waited,
      )

  after-step : (d : Row) (seen : List ℕ) (st doc : List Row) → T (is_insert d) → Seen seen st (d ∷ doc) → (Mem (id_of d) seen → ⊥) × Seen (id_of d ∷ seen) (waiting (id_of d) news ++ st) doc
  after-step d seen st doc t g =
      let fresh = g.doc-new d (here refl) t in
      let ahead : (x : Row) → Mem x news → id_of x ≡ id_of d → ⊥ = λ x m e. g.doc-apart.0 x (append_right doc m) (sym e) in (
        fresh,
        opened d seen st doc fresh (λ x m e. ahead x (g.st-waits x m).0 e) (λ x m u e. g.doc-apart.0 x (append_left news m) (sym e)) (λ q m e. absurd (ahead q m e))
            g.st-apart g.st-waits g.doc-apart.1 (λ x m. g.doc-new x (there m)) g.seen-waited,
      )

  after-keep : (d : Row) (seen : List ℕ) (st doc : List Row) → Seen seen st (d ∷ doc) → Seen seen st doc
  after-keep d seen st doc g =
      record { st-apart = g.st-apart; st-waits = g.st-waits; doc-apart = g.doc-apart.1; doc-new = λ x m. g.doc-new x (there m); seen-waited = g.seen-waited }

  walks-runs : {up st doc : List Row} {out : List Event} → Walks news up st doc out → (seen : List ℕ) → Seen seen st doc → Runs (pool-of seen) up st doc out
  walks-runs w-ends seen g = ends
  walks-runs (w-update h r) seen g = update h (walks-runs r seen g)
  walks-runs (w-keep {d} {up} {st} {doc} t h r) seen g = keep t h (walks-runs r seen (after-keep d seen st doc g))
  walks-runs (w-place {s} {st} {doc} {out} h r) seen g =
      let k = after-place s seen st doc g in place h (moved (id_of s) seen k.0 st doc out (walks-runs r (id_of s ∷ seen) k.1))
  walks-runs (w-step {d} {st} {doc} {out} t h r) seen g =
      let k = after-step d seen st doc t g in step t h (moved (id_of d) seen k.0 st doc out (walks-runs r (id_of d ∷ seen) k.1))

  -- what is seen at the start
  from-head : (doc : List Row) → Apart (doc ++ news) → All (λ r. 0 < id_of r) (doc ++ news) → Seen (head ∷ []) (waiting head news) doc
  from-head doc a z =
      record {
        st-apart = waiting-apart head;
        st-waits = λ s m. let k = waiting-inserts head news s m in (k.2, k.0, here k.1, no-head (append_right doc k.2));
        doc-apart = a;
        doc-new = λ d m t. no-head (append_left news m);
        seen-waited = λ q m n. absurd (no-head (append_right doc m) n);
      }
    where
      no-head : {x : Row} → Mem x (doc ++ news) → Mem (id_of x) (head ∷ []) → ⊥
      no-head {x} m n = let h = z x m in on-mem n (λ e. omega arith) (λ k. not-nil k)

  at_head : pool-of (head ∷ []) ≡ others head news
  unfolding pool-of others
  at_head = filter-ext (λ q. not (member (named_of q) (head ∷ []))) (λ q. not (eqb (named_of q) head)) news (λ q m. ap not (or-false (eqb (named_of q) head)))

  -- ── from HEAD
  pub walks-all : (doc : List Row) (out : List Event) → Apart (doc ++ news) → All (λ r. 0 < id_of r) (doc ++ news) → Walks news [] (waiting head news) doc out
      → Runs (others head news) [] (waiting head news) doc out
  walks-all doc out a z r = subst (λ k. Runs k [] (waiting head news) doc out) at_head (walks-runs r (head ∷ []) (from-head doc a z))

-- ── the walk as a function: one event a step, and a step for each row
module _ (news : List Row) where
  -- which row comes next: an update or a row of the element, then a waiting insert or the next element
  abbrev pub walk_rows : ℕ → List Row → List Row → List Row → List Event
  walk_rows zero up st doc = []
  walk_rows (suc n) (u ∷ up) st [] = new u ∷ walk_rows n up st []
  walk_rows (suc n) (u ∷ up) st (d ∷ doc) = if is_insert d || ltb (id_of u) (id_of d) then new u ∷ walk_rows n up st (d ∷ doc) else old d ∷ walk_rows n (u ∷ up) st doc
  walk_rows (suc n) [] [] [] = []
  walk_rows (suc n) [] (s ∷ st) [] = new s ∷ walk_rows n (updates (id_of s) news) (waiting (id_of s) news ++ st) []
  walk_rows (suc n) [] [] (d ∷ doc) = if is_insert d then old d ∷ walk_rows n (updates (id_of d) news) (waiting (id_of d) news ++ []) doc else old d ∷ walk_rows n [] [] doc
  walk_rows (suc n) [] (s ∷ st) (d ∷ doc) =
      if is_insert d
      then (if ltb (id_of d) (id_of s)
      then new s ∷ walk_rows n (updates (id_of s) news) (waiting (id_of s) news ++ st) (d ∷ doc)
      else old d ∷ walk_rows n (updates (id_of d) news) (waiting (id_of d) news ++ (s ∷ st)) doc)
      else old d ∷ walk_rows n [] (s ∷ st) doc

  module _ (apart : Apart news) where
    -- as many rows as are still to come
    left_over : List ℕ → List Row → List Row → List Row → ℕ
    left_over seen up st doc = length (pool-of news apart seen) + length up + length st + length doc

    -- putting an element out moves what waits for it
    spent : (e : ℕ) (seen : List ℕ) → (Mem e seen → ⊥) → (st : List Row)
        → length (pool-of news apart (e ∷ seen)) + length (updates e news) + length (waiting e news ++ st) ≡ length (pool-of news apart seen) + length st
    spent e seen f st =
        let pool = pool-of news apart seen in
        let k = perm-length (parted e pool) in
        omega (arith, k, length-append (others e pool) (updates e pool ++ waiting e pool), length-append (updates e pool) (waiting e pool), ap length (others_same news apart e seen), ap length (updates-same news apart e seen f), ap length (waiting-same news apart e seen f), length-append (waiting e news) st)

    not-or : (a b : Bool) → T (not (a || b)) → T (not a) × T (not b)
    not-or true b t = absurd t
    not-or false b t = (tt, t)

    walk-walks : (n : ℕ) (seen : List ℕ) (up st doc : List Row) → All (λ u. Mem u news) up → Seen news apart seen st doc → left_over seen up st doc ≤ n → Walks news up st doc (walk_rows n up st doc)
    unfolding left_over
    walk-walks zero seen [] [] [] a g h = w-ends
    walk-walks zero seen (u ∷ up) st doc a g h = absurd (omega arith)
    walk-walks zero seen [] (s ∷ st) doc a g h = absurd (omega arith)
    walk-walks zero seen [] [] (d ∷ doc) a g h = absurd (omega arith)
    walk-walks (suc n) seen (u ∷ up) st [] a g h = w-update tt (walk-walks n seen up st [] (λ x m. a x (there m)) g (omega arith))
    walk-walks (suc n) seen (u ∷ up) st (d ∷ doc) a g h =
        let ne : id_of d ≡ id_of u → ⊥ = g.doc-apart.0 u (append_right doc (a u (here refl))) in
        split (Walks news (u ∷ up) st (d ∷ doc)) (is_insert d || ltb (id_of u) (id_of d))
        (λ t. w-update (⊎_map (λ x. x) (ltb→lt (id_of u) (id_of d)) ((T-or (is_insert d) (ltb (id_of u) (id_of d))).0 t)) (walk-walks n seen up st (d ∷ doc) (λ x m. a x (there m)) g (omega arith)))
        (λ t.
        let k = not-or (is_insert d) (ltb (id_of u) (id_of d)) t in
        w-keep k.0 (omega (arith, nltb→le (id_of u) (id_of d) k.1)) (walk-walks n seen (u ∷ up) st doc a (after-keep news apart d seen st doc g) (omega arith)))
    walk-walks (suc n) seen [] [] [] a g h = w-ends
    walk-walks (suc n) seen [] (s ∷ st) [] a g h =
        let k = after-place news apart s seen st [] g in
        w-place tt (walk-walks n (id_of s ∷ seen) (updates (id_of s) news) (waiting (id_of s) news ++ st) [] (λ u m. (updates-plain (id_of s) news u m).2) k.1 (omega (arith, spent (id_of s) seen k.0 st)))
    walk-walks (suc n) seen [] [] (d ∷ doc) a g h =
        split (Walks news [] [] (d ∷ doc)) (is_insert d)
        (λ t.
        let k = after-step news apart d seen [] doc t g in
        w-step t tt (walk-walks n (id_of d ∷ seen) (updates (id_of d) news) (waiting (id_of d) news ++ []) doc (λ u m. (updates-plain (id_of d) news u m).2) k.1 (omega (arith, spent (id_of d) seen k.0 []))))
        (λ t. w-keep t tt (walk-walks n seen [] [] doc a (after-keep news apart d seen [] doc g) (omega arith)))
    walk-walks (suc n) seen [] (s ∷ st) (d ∷ doc) a g h =
        split (Walks news [] (s ∷ st) (d ∷ doc)) (is_insert d)
        (λ t.
        split (Walks news [] (s ∷ st) (d ∷ doc)) (ltb (id_of d) (id_of s))
        (λ u.
        let k = after-place news apart s seen st (d ∷ doc) g in
        w-place (t, ltb→lt (id_of d) (id_of s) u) (walk-walks n (id_of s ∷ seen) (updates (id_of s) news) (waiting (id_of s) news ++ st) (d ∷ doc) (λ x m. (updates-plain (id_of s) news x m).2) k.1 (omega (arith, spent (id_of s) seen k.0 st))))
        (λ u.
        let k = after-step news apart d seen (s ∷ st) doc t g in
        w-step t (nltb→le (id_of d) (id_of s) u)
        (walk-walks n (id_of d ∷ seen) (updates (id_of d) news) (waiting (id_of d) news ++ (s ∷ st)) doc (λ x m. (updates-plain (id_of d) news x m).2) k.1 (omega (arith, spent (id_of d) seen k.0 (s ∷ st))))))
        (λ t. w-keep t tt (walk-walks n seen [] (s ∷ st) doc a (after-keep news apart d seen (s ∷ st) doc g) (omega arith)))

    pub walk-runs : (doc : List Row) → Apart (doc ++ news) → All (λ r. 0 < id_of r) (doc ++ news)
        → Runs (others head news) [] (waiting head news) doc (walk_rows (length news + length doc) [] (waiting head news) doc)
    unfolding left_over
    walk-runs doc a z =
        walks-all news apart doc (walk_rows (length news + length doc) [] (waiting head news) doc) a z
        (walk-walks (length news + length doc) (head ∷ []) [] (waiting head news) doc (λ u m. absurd (not-nil m)) (from-head news apart doc a z)
        (omega (arith, ap length (at_head news apart), perm-length (parted head news), length-append (others head news) (updates head news ++ waiting head news), length-append (updates head news) (waiting head news))))
