-- The rows of one object, of a document and of a batch: all of one kind, and fit to be walked.
use mathlib.Core.Path.{◌≡◌, sym, subst}
use mathlib.Core.Bool.{Bool, true, not}
use mathlib.Core.List.{List, [], ◌∷◌, ◌++◌}
use Prim.Native.Nat.{ℕ, ◌<◌}
use lib.Dec.{T, eqb, eqb→eq}
use lib.ListN.{get_or}
use Rattle.model.specs.Basic.{filter, zeros}
use Rattle.model.specs.Row.{Row, id_of, object_of, on_list, key_length_of}
use Rattle.laws.proofs.Tests.{T_and, eq→eqb}
use Rattle.laws.proofs.Members.{Mem, All, on-append, append_left, append_right, filter-from, filter_passes, filter-in, filter-append}
use Rattle.laws.proofs.Pairs.{filter-pairwise}
use Rattle.laws.proofs.Sort.{Sorted, filter-sorted}
use Rattle.laws.proofs.RowOrder.{Apart}
use Rattle.laws.proofs.RowFits.{fits, list-key}
use Rattle.laws.proofs.SubDocument.{Placed, id-positive}
use Rattle.laws.proofs.Untangled.{OfList}
use Rattle.laws.proofs.ListMerge.{NewRows}
use Rattle.laws.proofs.MapMerge.{OfMap}
use Rattle.laws.proofs.DocMerge.{list-rows, map_rows, new-rows}
use Rattle.ids.proofs.KeyWords.{key-words}
use Rattle.checks.proofs.OneKey.{Plain}
use Rattle.batch.specs.Rank.{op_before}
use Rattle.batch.proofs.OrderedRuns.{ListRow}

-- doc and news are all rows of object o among rows and new
pub record OneObject (o : ℕ) (rows new doc news : List Row) : Type 0 where
  pub doc-in : All (λ r. Mem r rows) doc
  pub doc-of : All (λ r. object_of r ≡ o) doc
  pub doc-all : (r : Row) → Mem r rows → object_of r ≡ o → Mem r doc
  pub news-in : All (λ r. Mem r new) news
  pub news-of : All (λ r. object_of r ≡ o) news
  pub news-all : (r : Row) → Mem r new → object_of r ≡ o → Mem r news
  pub apart : Apart (doc ++ news)
  pub sorted : Sorted op_before news

pub one-object : (o : ℕ) (rows new : List Row) → Apart (rows ++ new) → Sorted op_before new
    → OneObject o rows new (filter (λ r. eqb (object_of r) o) rows) (filter (λ r. eqb (object_of r) o) new)
one-object o rows new a s =
    let p : Row → Bool = λ r. eqb (object_of r) o in
    record {
      doc-in = λ r m. filter-from p rows m;
      doc-of = λ r m. eqb→eq (object_of r) o (filter_passes p rows m);
      doc-all = λ r m e. filter-in p rows m (eq→eqb (object_of r) o e);
      news-in = λ r m. filter-from p new m;
      news-of = λ r m. eqb→eq (object_of r) o (filter_passes p new m);
      news-all = λ r m e. filter-in p new m (eq→eqb (object_of r) o e);
      apart = subst Apart (filter-append p rows new) (filter-pairwise (λ x y. id_of x ≡ id_of y → ⊥) p (rows ++ new) a);
      sorted = filter-sorted op_before p new s;
    }

-- ── a list's row has no key words
pub list-row : (o : ℕ) (r : Row) → Plain r → T (on_list r) → object_of r ≡ o → ListRow o r
list-row o r p t e =
    let a = get_or r 5 0 in
    let b = get_or r 6 0 in
    let c = get_or r 7 0 in
    let z : T (zeros (key_length_of r ∷ a ∷ b ∷ c ∷ [])) = subst (λ l. T (zeros (key_length_of r ∷ l))) (key-words r p.whole.wide) (list-key r p.fit t).bare in
    let z1 = (T_and (eqb 0 (key_length_of r)) (zeros (a ∷ b ∷ c ∷ []))).0 z in
    let z2 = (T_and (eqb 0 a) (zeros (b ∷ c ∷ []))).0 z1.1 in
    let z3 = (T_and (eqb 0 b) (zeros (c ∷ []))).0 z2.1 in
    let z4 = (T_and (eqb 0 c) true).0 z3.1 in
    record {
      here-object = e;
      no_length = sym (eqb→eq 0 (key_length_of r) z1.0);
      no_word = sym (eqb→eq 0 a z2.0);
      no-word-2 = sym (eqb→eq 0 b z3.0);
      no-word-3 = sym (eqb→eq 0 c z4.0);
      flag = (fits r p.fit).insert;
    }

module _ {o : ℕ} {rows new doc news : List Row} (p : Placed (rows ++ new)) (w : OneObject o rows new doc news) where
  in_all : {r : Row} → Mem r (doc ++ news) → Mem r (rows ++ new)
  in_all {r} m = on-append doc m (λ i. append_left new (w.doc-in r i)) (λ i. append_right rows (w.news-in r i))

  of-all : {r : Row} → Mem r (doc ++ news) → object_of r ≡ o
  of-all {r} m = on-append doc m (w.doc-of r) (w.news-of r)

  pub all-positive : All (λ r. 0 < id_of r) (doc ++ news)
  all-positive r m = id-positive (rows ++ new) p (in_all m)

  -- one new row tells the kind of all
  module _ (x : Row) (m : Mem x news) where
    pub all_list : T (on_list x) → All (OfList o) (doc ++ news)
    all_list t r i = list-rows rows new p o x (append_right rows (w.news-in x m)) (w.news-of x m) t r (in_all i) (of-all i)

    pub all_map : T (not (on_list x)) → All (OfMap o) (doc ++ news)
    all_map t r i = map_rows rows new p o x (append_right rows (w.news-in x m)) (w.news-of x m) t r (in_all i) (of-all i)

    -- what a new row of a list names is HEAD or one of the list's elements
    pub list-news : T (on_list x) → NewRows o doc news
    list-news = new-rows rows new p o doc news w.doc-in w.news-in w.doc-of w.news-of w.doc-all w.news-all w.apart x m
