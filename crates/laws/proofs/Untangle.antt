-- Merging new rows into the rows of one list, as the Untangler does: a walk over the list's rows with the updates of the element that was put
-- out last, ascending, and a stack of waiting inserts, the largest on top.
--     Runs pool up st doc out    the walk from such a state to its end puts out `out`; what waits for an element leaves the pool with it
--     runs-woven                 its inserts are woven as Weave says
--     runs-follow                each row that it puts out may stand behind the one before
--     runs-all                   it puts out the list's rows, as they stood, and all that waits for an element that it puts out
use mathlib.Core.Path.{◌≡◌, refl, sym, ap, subst, ◌∙◌}
use mathlib.Core.Logic.{◌⊎◌}
use mathlib.Core.Bool.{Bool, not, ◌&&◌}
use mathlib.Core.List.{List, [], ◌∷◌, ◌++◌, map, map-append}
use Prim.Native.Nat.{ℕ, ◌≤◌, ◌<◌}
use lib.Dec.{T, ltb, eqb, eqb→eq}
use Rattle.model.specs.Basic.{filter, sort}
use Rattle.model.specs.Row.{Row, id_of, named_of, is_insert}
use Rattle.laws.proofs.Tests.{T_and}
use Rattle.laws.proofs.Members.{Mem, here, there, All, on-append, filter-from, filter_passes, filter-yes, filter-no, filter-both, filter_comm, filter_map}
use Rattle.laws.proofs.Sort.{sort-from, sort-map}
use Rattle.laws.proofs.Nearest.{Ins, HeadBelow}
use Rattle.laws.proofs.Preorder.{desc, kids}
use Rattle.laws.proofs.Weave.{rest, TopUpTo, Woven, done, pop, move}
use Rattle.laws.proofs.Elements.{insert-of}

-- ── what waits for an element: inserts, descending; updates, ascending; and the others
abbrev pub falls : Row → Row → Bool
falls a b = ltb (id_of b) (id_of a)

abbrev pub rises : Row → Row → Bool
rises a b = ltb (id_of a) (id_of b)

unfoldable pub waiting : ℕ → List Row → List Row
waiting e pool = sort falls (filter (λ r. is_insert r && eqb (named_of r) e) pool)

unfoldable pub updates : ℕ → List Row → List Row
updates e pool = sort rises (filter (λ r. not (is_insert r) && eqb (named_of r) e) pool)

unfoldable pub others : ℕ → List Row → List Row
others e pool = filter (λ r. not (eqb (named_of r) e)) pool

-- ── what is put out: a row of the document, or a new one
pub data Event : Type 0 where
  old : Row → Event
  new : Row → Event

abbrev pub row_in : Event → Row
row_in (old r) = r
row_in (new r) = r

-- ── the walk
-- an update goes before the next row of its element if that has a larger id
abbrev pub BeforeHead : Row → List Row → Type 0
BeforeHead u [] = Unit {0}
BeforeHead u (d ∷ doc) = T (is_insert d) ⊎ (id_of u < id_of d)

abbrev pub BeforeNext : Row → List Row → Type 0
BeforeNext d [] = Unit {0}
BeforeNext d (u ∷ up) = id_of d < id_of u

-- a waiting insert goes before the next element if that is smaller
abbrev pub AboveHead : Row → List Row → Type 0
AboveHead s [] = Unit {0}
AboveHead s (d ∷ doc) = T (is_insert d) × (id_of d < id_of s)

abbrev pub UpTo : Row → List Row → Type 0
UpTo d [] = Unit {0}
UpTo d (s ∷ st) = id_of s ≤ id_of d

pub data Runs : List Row → List Row → List Row → List Row → List Event → Type 0 where
  ends : {pool : List Row} → Runs pool [] [] [] []
  update : {u : Row} {pool up st doc : List Row} {out : List Event} → BeforeHead u doc → Runs pool up st doc out → Runs pool (u ∷ up) st doc (new u ∷ out)
  keep : {d : Row} {pool up st doc : List Row} {out : List Event} → T (not (is_insert d)) → BeforeNext d up → Runs pool up st doc out → Runs pool up st (d ∷ doc) (old d ∷ out)
  place : {s : Row} {pool st doc : List Row} {out : List Event} → AboveHead s doc
      → Runs (others (id_of s) pool) (updates (id_of s) pool) (waiting (id_of s) pool ++ st) doc out → Runs pool [] (s ∷ st) doc (new s ∷ out)
  step : {d : Row} {pool st doc : List Row} {out : List Event} → T (is_insert d) → UpTo d st
      → Runs (others (id_of d) pool) (updates (id_of d) pool) (waiting (id_of d) pool ++ st) doc out → Runs pool [] st (d ∷ doc) (old d ∷ out)

-- ── the document's rows come out as they stood
abbrev pub olds : List Event → List Row
olds [] = []
olds (old r ∷ out) = r ∷ olds out
olds (new r ∷ out) = olds out

pub runs-olds : {pool up st doc : List Row} {out : List Event} → Runs pool up st doc out → olds out ≡ doc
runs-olds ends = refl
runs-olds (update h r) = runs-olds r
runs-olds (keep {d} t h r) = ap (λ l. d ∷ l) (runs-olds r)
runs-olds (place h r) = runs-olds r
runs-olds (step {d} t h r) = ap (λ l. d ∷ l) (runs-olds r)

-- ── its inserts are woven
abbrev pub inserts_in : List Row → List Ins
inserts_in rs = map insert-of (filter is_insert rs)

inserts-yes : (r : Row) (rs : List Row) → T (is_insert r) → inserts_in (r ∷ rs) ≡ insert-of r ∷ inserts_in rs
inserts-yes r rs t = ap (map insert-of) (filter-yes is_insert r rs t)

inserts-no : (r : Row) (rs : List Row) → T (not (is_insert r)) → inserts_in (r ∷ rs) ≡ inserts_in rs
inserts-no r rs t = ap (map insert-of) (filter-no is_insert r rs t)

pub rest-is : (e : ℕ) (pool : List Row) → inserts_in (others e pool) ≡ rest e (inserts_in pool)
unfolding others
rest-is e pool =
    ap (map insert-of) (filter_comm is_insert (λ r. not (eqb (named_of r) e)) pool) ∙ sym (filter_map (λ x. not (eqb x.ref e)) insert-of (filter is_insert pool))

pub kids-are : (e : ℕ) (pool : List Row) → map insert-of (waiting e pool) ≡ kids e (inserts_in pool)
unfolding waiting
kids-are e pool =
    let found = filter (λ r. is_insert r && eqb (named_of r) e) pool in
    sym (sort-map desc insert-of found)
    ∙ ap (sort desc) (ap (map insert-of) (sym (filter-both (λ r. eqb (named_of r) e) is_insert pool)) ∙ sym (filter_map (λ x. eqb x.ref e) insert-of (filter is_insert pool)))

head-below : (s : Row) (doc : List Row) → AboveHead s doc → HeadBelow (id_of s) (inserts_in doc)
head-below s [] h = tt
head-below s (d ∷ doc) h = subst (HeadBelow (id_of s)) (sym (inserts-yes d doc h.0)) h.1

top-up-to : (d : Row) (st : List Row) → UpTo d st → TopUpTo (id_of d) (map insert-of st)
top-up-to d [] h = tt
top-up-to d (s ∷ st) h = h

pub updates-plain : (e : ℕ) (pool : List Row) → All (λ u. T (not (is_insert u)) × (named_of u ≡ e) × Mem u pool) (updates e pool)
unfolding updates
updates-plain e pool u m =
    let p : Row → Bool = λ r. not (is_insert r) && eqb (named_of r) e in
    let n = sort-from rises (filter p pool) m in
    let t = (T_and (not (is_insert u)) (eqb (named_of u) e)).0 (filter_passes p pool n) in
    (t.0, eqb→eq (named_of u) e t.1, filter-from p pool n)

pub waiting-inserts : (e : ℕ) (pool : List Row) → All (λ s. T (is_insert s) × (named_of s ≡ e) × Mem s pool) (waiting e pool)
unfolding waiting
waiting-inserts e pool s m =
    let p : Row → Bool = λ r. is_insert r && eqb (named_of r) e in
    let n = sort-from falls (filter p pool) m in
    let t = (T_and (is_insert s) (eqb (named_of s) e)).0 (filter_passes p pool n) in
    (t.0, eqb→eq (named_of s) e t.1, filter-from p pool n)

next-woven : (x : Row) (pool st doc out : List Row) → Woven (inserts_in (others (id_of x) pool)) (map insert-of (waiting (id_of x) pool ++ st)) (inserts_in doc) (inserts_in out)
    → Woven (rest (id_of x) (inserts_in pool)) (kids (id_of x) (inserts_in pool) ++ map insert-of st) (inserts_in doc) (inserts_in out)
next-woven x pool st doc out w =
    subst (λ k. Woven k (kids (id_of x) (inserts_in pool) ++ map insert-of st) (inserts_in doc) (inserts_in out)) (rest-is (id_of x) pool)
    (subst (λ k. Woven (inserts_in (others (id_of x) pool)) k (inserts_in doc) (inserts_in out)) (map-append insert-of (waiting (id_of x) pool) st ∙ ap (λ k. k ++ map insert-of st) (kids-are (id_of x) pool)) w)

inserts-after : (x : Row) (pool st : List Row) → All (λ s. T (is_insert s)) st → All (λ s. T (is_insert s)) (waiting (id_of x) pool ++ st)
inserts-after x pool st a s m = on-append (waiting (id_of x) pool) m (λ i. (waiting-inserts (id_of x) pool s i).0) (a s)

pub runs-woven : {pool up st doc : List Row} {out : List Event} → Runs pool up st doc out → All (λ u. T (not (is_insert u))) up → All (λ s. T (is_insert s)) st
    → Woven (inserts_in pool) (map insert-of st) (inserts_in doc) (inserts_in (map row_in out))
runs-woven ends a b = done
runs-woven (update {u} {pool} {up} {st} {doc} {out} h r) a b =
    subst (Woven (inserts_in pool) (map insert-of st) (inserts_in doc)) (sym (inserts-no u (map row_in out) (a u (here refl)))) (runs-woven r (λ x m. a x (there m)) b)
runs-woven (keep {d} {pool} {up} {st} {doc} {out} t h r) a b =
    subst (λ k. Woven (inserts_in pool) (map insert-of st) k (inserts_in (d ∷ map row_in out))) (sym (inserts-no d doc t))
    (subst (Woven (inserts_in pool) (map insert-of st) (inserts_in doc)) (sym (inserts-no d (map row_in out) t)) (runs-woven r a b))
runs-woven (place {s} {pool} {st} {doc} {out} h r) a b =
    subst (Woven (inserts_in pool) (map insert-of (s ∷ st)) (inserts_in doc)) (sym (inserts-yes s (map row_in out) (b s (here refl))))
    (pop (head-below s doc h)
    (next-woven s pool st doc (map row_in out) (runs-woven r (λ x m. (updates-plain (id_of s) pool x m).0) (inserts-after s pool st (λ x m. b x (there m))))))
runs-woven (step {d} {pool} {st} {doc} {out} t h r) a b =
    subst (λ k. Woven (inserts_in pool) (map insert-of st) k (inserts_in (d ∷ map row_in out))) (sym (inserts-yes d doc t))
    (subst (Woven (inserts_in pool) (map insert-of st) (insert-of d ∷ inserts_in doc)) (sym (inserts-yes d (map row_in out) t))
    (move (top-up-to d st h)
    (next-woven d pool st doc (map row_in out) (runs-woven r (λ x m. (updates-plain (id_of d) pool x m).0) (inserts-after d pool st b)))))
