-- The walk over a whole document runs as the laws of the merge ask, so what it puts out is the order of the document's rows and the new ones.
--     object-kept    the rows of an object come out as they stood
--     doc-runs       the walk over all objects runs, with a group for each object that has new rows
--     doc-walk       so it puts out all rows in order
use mathlib.Core.Path.{◌≡◌, refl, sym, ap, subst, ◌∙◌}
use mathlib.Core.Bool.{not}
use mathlib.Core.List.{List, [], ◌∷◌, ◌++◌, map}
use Prim.Native.Nat.{ℕ, zero, suc, ◌+◌, ◌≤◌, ◌<◌}
use native.Mathlib.Omega.{arith}
use lib.Dec.{T, ltb, eqb, ltb→lt, nltb→le}
use lib.ListN.{length, get_or, drop, drop_of_length-le, length-append}
use Rattle.model.specs.Basic.{filter}
use Rattle.model.specs.Id.{head}
use Rattle.model.specs.Row.{Row, id_of, object_of, on_list}
use Rattle.model.specs.Order.{order}
use Rattle.laws.proofs.Tests.{split}
use Rattle.laws.proofs.Members.{Mem, here, All, filter-append, filter-from}
use Rattle.laws.proofs.Pairs.{filter-pairwise, pairwise-right}
use Rattle.laws.proofs.Sort.{Sorted}
use Rattle.laws.proofs.Perms.{Perm, perm-refl, perm-append, perm-trans, perm-eq}
use Rattle.laws.proofs.RowOrder.{Apart}
use Rattle.laws.proofs.SubDocument.{Placed, id-positive}
use Rattle.laws.proofs.Together.{placed-perm}
use Rattle.laws.proofs.Passes.{map_next}
use Rattle.laws.proofs.Untangle.{Event, old, row_in, olds, others, waiting, Runs, runs-olds}
use Rattle.laws.proofs.UntangleWalk.{walk-runs}
use Rattle.laws.proofs.MapMerge.{Merges, map-merges, merges-olds}
use Rattle.laws.proofs.DocMerge.{Group, news_of, ObjectRuns, in_list, in_map, DocRuns, rest, next, doc-olds, doc-merged, olds-old}
use Rattle.batch.specs.Places.{Rising}
use Rattle.batch.specs.Walk.{list_out}
use Rattle.batch.specs.Groups.{below, between, map_out, object_out, out_from, doc_out}
use Rattle.batch.proofs.Between.{length-between, of-object}
use Rattle.batch.proofs.Cuts.{below-zero, cut_at, cut_in, rest_in}
use Rattle.batch.proofs.Objects.{bound-up, object-starts, object-some}

-- ── one object
-- new rows of a map stand by key and then id
abbrev pub MapSorted : List Row → Type 0
MapSorted [] = Unit {0}
MapSorted (u ∷ news) = T (not (on_list u)) → Sorted map_next (u ∷ news)

abbrev pub Positive : List Row → Type 0
Positive l = All (λ r. 0 < id_of r) l

module _ (news doc : List Row) (apart : Apart (doc ++ news)) (positive : Positive (doc ++ news)) where
  pub list-runs : Runs (others head news) [] (waiting head news) doc (list_out news doc)
  unfolding list_out
  list-runs = walk-runs news (pairwise-right (λ x y. id_of x ≡ id_of y → ⊥) doc news apart) doc apart positive

  pub map_runs : Merges news doc (map_out news doc)
  unfolding map_out
  map_runs = map-merges (length news + length doc) news doc apart (omega arith)

pub object-kept : (news doc : List Row) → Apart (doc ++ news) → Positive (doc ++ news) → olds (object_out news doc) ≡ doc
object-kept [] doc a z = olds-old doc
object-kept (u ∷ news) doc a z =
    split (λ (out : List Event). olds out ≡ doc) (on_list u) (λ t. runs-olds (list-runs (u ∷ news) doc a z)) (λ t. merges-olds (map_runs (u ∷ news) doc a z))

object-runs : (u : Row) (news doc : List Row) → Apart (doc ++ u ∷ news) → Positive (doc ++ u ∷ news) → MapSorted (u ∷ news) → ObjectRuns (u ∷ news) doc (object_out (u ∷ news) doc)
object-runs u news doc a z s =
    split (ObjectRuns (u ∷ news) doc) (on_list u) (λ t. in_list u (here refl) t (list-runs (u ∷ news) doc a z)) (λ t. in_map u (here refl) t (s t) (map_runs (u ∷ news) doc a z))

-- ── all objects
module _ (news doc : List Row) (apart : Apart (doc ++ news)) (positive : Positive (doc ++ news)) (doc-rise : Rising (map object_of doc)) (news-rise : Rising (map object_of news)) where
  of-both : (o : ℕ) → between o (suc o) doc ++ between o (suc o) news ≡ filter (λ r. eqb (object_of r) o) (doc ++ news)
  of-both o = rw (of-object o doc doc-rise, of-object o news news-rise) (sym (filter-append (λ r. eqb (object_of r) o) doc news))

  pub object-apart : (o : ℕ) → Apart (between o (suc o) doc ++ between o (suc o) news)
  object-apart o = subst Apart (sym (of-both o)) (filter-pairwise (λ x y. id_of x ≡ id_of y → ⊥) (λ r. eqb (object_of r) o) (doc ++ news) apart)

  pub object-positive : (o : ℕ) → Positive (between o (suc o) doc ++ between o (suc o) news)
  object-positive o r m = positive r (filter-from (λ r. eqb (object_of r) o) (doc ++ news) (subst (λ (l : List Row). Mem r l) (of-both o) m))

  -- field `kept` of `Grouped`
  pub each-kept : (o : ℕ) → olds (object_out (between o (suc o) news) (between o (suc o) doc)) ≡ between o (suc o) doc
  each-kept o = object-kept (between o (suc o) news) (between o (suc o) doc) (object-apart o) (object-positive o)

  -- from bound b on, where a new row is left: nothing stands before its object, and its object has a new row
  module _ (b : ℕ) (left : below b news < length news) (o : ℕ) (is-next : o ≡ object_of (get_or news (below b news) [])) where
    from-object : drop (below b news) news ≡ between o (suc o) news ++ drop (below (suc o) news) news
    from-object = ap (λ (i : ℕ). drop i news) (sym (object-starts news news-rise b left o is-next)) ∙ cut_at o (suc o) news (omega arith)

    some-here : 0 < length (between o (suc o) news)
    some-here = omega (arith, object-some news news-rise b left o is-next, object-starts news news-rise b left o is-next, length-between o (suc o) news)

  -- ── by the bound
  abbrev RunsFrom : ℕ → List Event → Type 0
  RunsFrom b out = (gs : List Group) × DocRuns gs (drop (below b doc) doc) out × (news_of gs ≡ drop (below b news) news)

  -- no new row from the bound on
  runs-rest : (b : ℕ) → drop (below b news) news ≡ [] → RunsFrom b (map old (drop (below b doc) doc))
  runs-rest b e = ([], rest, sym e)

  module _ (sorted : (o : ℕ) → MapSorted (between o (suc o) news)) where
    -- the first object from the bound on, and then the others
    module _ (b : ℕ) (left : below b news < length news) (o : ℕ) (is-next : o ≡ object_of (get_or news (below b news) [])) (more : List Event) (others : RunsFrom (suc o) more) where
      runs-object : (k : List Row) → between o (suc o) news ≡ k → ObjectRuns k (between o (suc o) doc) (object_out k (between o (suc o) doc))
      runs-object [] e = absurd (omega (arith, some-here b left o is-next, ap length e))
      runs-object (x ∷ k) e =
          object-runs x k (between o (suc o) doc) (subst (λ (l : List Row). Apart (between o (suc o) doc ++ l)) e (object-apart o))
          (subst (λ (l : List Row). Positive (between o (suc o) doc ++ l)) e (object-positive o)) (subst MapSorted e (sorted o))

      runs-next : RunsFrom b (map old (between b o doc) ++ (object_out (between o (suc o) news) (between o (suc o) doc) ++ more))
      runs-next =
          let up : b ≤ o = bound-up news news-rise b left o is-next in
          let s : o ≤ suc o = omega arith in
          let g : Group = record { object = o; news = between o (suc o) news } in
          let gs : List Group = others.0 in
          let out : List Event = object_out (between o (suc o) news) (between o (suc o) doc) in
          let behind : List Row = drop (below (suc o) doc) doc in
          let one : (l : List Row) → Rising (map object_of l) → All (λ r. object_of r ≡ o) (between o (suc o) l) = λ l r x m. let i = cut_in o (suc o) l s r x m in omega (arith, i.0, i.1) in
          let parts : drop (below b doc) doc ≡ between b o doc ++ (between o (suc o) doc ++ behind) =
          cut_at b o doc up ∙ ap (λ (l : List Row). between b o doc ++ l) (cut_at o (suc o) doc s) in
          let above : All (λ r. o < object_of r) (news_of gs) = λ x m. rest_in (suc o) news news-rise x (subst (λ (l : List Row). Mem x l) others.2 m) in
          let runs : DocRuns (g ∷ gs) (between b o doc ++ (between o (suc o) doc ++ behind)) (map old (between b o doc) ++ (out ++ more)) =
          next {g = g} {gs = gs} {ahead = between b o doc} {doc = between o (suc o) doc} {behind = behind} {out = out} {more = more}
          (λ x m. (cut_in b o doc up doc-rise x m).1) (one doc doc-rise) (rest_in (suc o) doc doc-rise) (one news news-rise) above (runs-object (between o (suc o) news) refl) others.1 in
          let all-news : news_of (g ∷ gs) ≡ drop (below b news) news = ap (λ (l : List Row). between o (suc o) news ++ l) others.2 ∙ sym (from-object b left o is-next) in
          (g ∷ gs, subst (λ (l : List Row). DocRuns (g ∷ gs) l (map old (between b o doc) ++ (out ++ more))) (sym parts) runs, all-news)

    runs-from : (n b : ℕ) → length (drop (below b news) news) ≤ n → RunsFrom b (out_from n news doc b)
    runs-from zero b h = runs-rest b (drop_of_length-le (drop (below b news) news) h)
    runs-from (suc n) b h =
        split (RunsFrom b) (ltb (below b news) (length news))
        (λ t.
        let o : ℕ = object_of (get_or news (below b news) []) in
        let left : below b news < length news = ltb→lt (below b news) (length news) t in
        let fewer : length (drop (below (suc o) news) news) ≤ n =
        omega (arith, ap length (from-object b left o refl), some-here b left o refl, length-append (between o (suc o) news) (drop (below (suc o) news) news)) in
        runs-next b left o refl (out_from n news doc (suc o)) (runs-from n (suc o) fewer))
        (λ t. runs-rest b (drop_of_length-le news (nltb→le (below b news) (length news) t)))

    from_start : (l : List Row) → drop (below 0 l) l ≡ l
    from_start l = ap (λ (n : ℕ). drop n l) (below-zero l)

    pub doc-runs : (gs : List Group) × DocRuns gs doc (doc_out news doc) × (news_of gs ≡ news)
    unfolding doc_out
    doc-runs =
        let r = runs-from (length news) 0 (omega (arith, ap length (from_start news))) in
        (r.0, subst (λ (l : List Row). DocRuns r.0 l (out_from (length news) news doc 0)) (from_start doc) r.1, r.2 ∙ from_start news)

    pub doc_out-olds : olds (doc_out news doc) ≡ doc
    doc_out-olds = doc-olds doc-runs.1

-- ── all rows in order
module _ (rows ns news : List Row) (p : Placed (rows ++ ns)) (same : Perm news ns) where
  both : Placed (rows ++ news)
  both = placed-perm (perm-append (perm-refl rows) same) p

  pub doc-walk : Placed rows → order rows ≡ rows → Rising (map object_of rows) → Rising (map object_of news) → ((o : ℕ) → MapSorted (between o (suc o) news))
      → map row_in (doc_out news rows) ≡ order (rows ++ ns)
  doc-walk pr e rows-rise news-rise sorted =
      let r = doc-runs news rows both.apart (λ x. id-positive (rows ++ news) both) rows-rise news-rise sorted in
      doc-merged rows ns p r.0 (doc_out news rows) r.1 (perm-trans (perm-eq r.2) same) pr e
