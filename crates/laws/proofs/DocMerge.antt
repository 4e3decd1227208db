-- Merging new rows into the rows of a document, object by object: what the walks put out is the document's order of all of them.
--     Group             an object and its new rows
--     DocRuns gs doc    the rows of objects between are kept, and each group's object is walked
--     doc-merged        from rows in order and all new rows: the order of both, and where each new row goes
use mathlib.Core.Path.{◌≡◌, refl, sym, ap, ap₂, subst, ◌∙◌}
use mathlib.Core.Logic.{inl, inr, ⊎_elim}
use mathlib.Core.Bool.{not}
use mathlib.Core.List.{List, [], ◌∷◌, ◌++◌, map, append_assoc, append-nil, map-append}
use Prim.Native.Nat.{ℕ, suc, ◌≤◌, ◌<◌}
use native.Mathlib.Omega.{arith}
use lib.Dec.{T, T_not}
use Rattle.model.specs.Basic.{ascends, concat_map}
use Rattle.model.specs.Id.{head}
use Rattle.model.specs.Row.{Row, id_of, object_of, on_list, is_insert}
use Rattle.model.specs.Order.{order}
use Rattle.laws.proofs.Tests.{T_and}
use Rattle.laws.proofs.Members.{Mem, here, there, All, on-append, append_left, append_right}
use Rattle.laws.proofs.Pairs.{pairwise-left, pairwise-right, pairwise-across, pairwise_append}
use Rattle.laws.proofs.Sort.{Sorted, ascends-sorted}
use Rattle.laws.proofs.Perms.{Perm, perm-refl, perm-trans, perm-append, perm-eq, perm-mem, perm_comm, perm-sym}
use Rattle.laws.proofs.RowOrder.{Apart, apart-perm, order-perm}
use Rattle.laws.proofs.RowFits.{list-key}
use Rattle.laws.proofs.Refers.{names}
use Rattle.laws.proofs.Grow.{object-grows, element-grows}
use Rattle.laws.proofs.SubDocument.{Placed, on-object, one-kind, id-positive}
use Rattle.laws.proofs.Passes.{map_next, adjacent, adjacent-out}
use Rattle.laws.proofs.Pass.{Pass, Below, pass-append, pass-parts, pass-order}
use Rattle.laws.proofs.Untangle.{waiting, others, Event, old, new, row_in, Runs, olds, runs-olds}
use Rattle.laws.proofs.Untangled.{OfList}
use Rattle.laws.proofs.UntangledAll.{runs-all}
use Rattle.laws.proofs.ListMerge.{NewRows, runs-pass}
use Rattle.laws.proofs.MapMerge.{Merges, OfMap, map-order, merges-olds, merges-all, merges-pass}

-- ── the walks
pub record Group : Type 0 where
  pub object : ℕ
  pub news : List Row

abbrev pub news_of : List Group → List Row
news_of gs = concat_map (λ g. g.news) gs

-- the walk of one object, by its kind; a group has a new row that tells it
pub data ObjectRuns : List Row → List Row → List Event → Type 0 where
  in_list : {news doc : List Row} {out : List Event} (x : Row) → Mem x news → T (on_list x) → Runs (others head news) [] (waiting head news) doc out → ObjectRuns news doc out
  in_map : {news doc : List Row} {out : List Event} (x : Row) → Mem x news → T (not (on_list x)) → Sorted map_next news → Merges news doc out → ObjectRuns news doc out

pub data DocRuns : List Group → List Row → List Event → Type 0 where
  rest : {doc : List Row} → DocRuns [] doc (map old doc)
  next : {g : Group} {gs : List Group} {ahead doc behind : List Row} {out more : List Event} → All (λ r. object_of r < g.object) ahead → All (λ r. object_of r ≡ g.object) doc
      → All (λ r. g.object < object_of r) behind → All (λ r. object_of r ≡ g.object) g.news → All (λ r. g.object < object_of r) (news_of gs)
      → ObjectRuns g.news doc out → DocRuns gs behind more → DocRuns (g ∷ gs) (ahead ++ (doc ++ behind)) (map old ahead ++ (out ++ more))

-- ── the document's rows come out as they stood
olds-append : (a b : List Event) → olds (a ++ b) ≡ olds a ++ olds b
olds-append [] b = refl
olds-append (old r ∷ a) b = ap (λ l. r ∷ l) (olds-append a b)
olds-append (new r ∷ a) b = olds-append a b

pub olds-old : (l : List Row) → olds (map old l) ≡ l
olds-old [] = refl
olds-old (r ∷ l) = ap (λ k. r ∷ k) (olds-old l)

rows-old : (l : List Row) → map row_in (map old l) ≡ l
rows-old [] = refl
rows-old (r ∷ l) = ap (λ k. r ∷ k) (rows-old l)

object-olds : {news doc : List Row} {out : List Event} → ObjectRuns news doc out → olds out ≡ doc
object-olds (in_list x m t r) = runs-olds r
object-olds (in_map x m t s r) = merges-olds r

pub doc-olds : {gs : List Group} {doc : List Row} {out : List Event} → DocRuns gs doc out → olds out ≡ doc
doc-olds (rest {doc}) = olds-old doc
doc-olds (next {g} {gs} {ahead} {doc} {behind} {out} {more} a b c d e r s) =
    olds-append (map old ahead) (out ++ more) ∙ ap₂ ◌++◌ (olds-old ahead) (olds-append out more ∙ ap₂ ◌++◌ (object-olds r) (doc-olds s))

rows_next : (ahead : List Row) (out more : List Event) → map row_in (map old ahead ++ (out ++ more)) ≡ ahead ++ (map row_in out ++ map row_in more)
rows_next ahead out more = map-append row_in (map old ahead) (out ++ more) ∙ ap₂ ◌++◌ (rows-old ahead) (map-append row_in out more)

-- ── rows `all` of document and batch, whose checks hold; `rows` and `ns` are the two
module _ (rows ns : List Row) (p : Placed (rows ++ ns)) where
  -- what is there of an object from bound b on is in doc, or in the groups
  abbrev Has : ℕ → List Row → List Row → Type 0
  Has b l part = (r : Row) → Mem r l → b ≤ object_of r → Mem r part

  pub list-rows : (o : ℕ) (x : Row) → Mem x (rows ++ ns) → object_of x ≡ o → T (on_list x) → (r : Row) → Mem r (rows ++ ns) → object_of r ≡ o → OfList o r
  list-rows o x m e t r n g =
      record {
        here-object = g;
        stands_on_list = rw (one-kind (rows ++ ns) p r x n m (g ∙ sym e)) t;
        low = ⊎_elim (λ z. omega (arith, id-positive (rows ++ ns) p n)) (λ w. w.0) (names (rows ++ ns) r (p.elements r n));
      }

  pub map_rows : (o : ℕ) (x : Row) → Mem x (rows ++ ns) → object_of x ≡ o → T (not (on_list x)) → (r : Row) → Mem r (rows ++ ns) → object_of r ≡ o → OfMap o r
  map_rows o x m e t r n g =
      let l : T (not (on_list r)) = rw (one-kind (rows ++ ns) p r x n m (g ∙ sym e)) t in
      record {
        here-object = g;
        off_list = l;
        no-insert = ⊎_elim (λ w. absurd (T_not (on_list r) l w.0)) (λ w. w.1) (on-object (rows ++ ns) r (p.objects r n));
      }

  -- in a map, what may stand behind is larger
  map-sorted : (o : ℕ) (l : List Row) → Apart l → All (OfMap o) l → T (ascends adjacent l) → Sorted map_next l
  map-sorted o l d g t = ascends-sorted map_next l (map-order l d).transitive (larger l g t)
    where
      larger : (k : List Row) → All (OfMap o) k → T (ascends adjacent k) → T (ascends map_next k)
      larger [] g t = tt
      larger (a ∷ []) g t = tt
      larger (a ∷ b ∷ k) g t =
          let u = (T_and (adjacent a b) (ascends adjacent (b ∷ k))).0 t in
          let ga = g a (here refl) in
          let gb = g b (there (here refl)) in
          (T_and (map_next a b) (ascends map_next (b ∷ k))).1 (
            ⊎_elim (λ x. absurd (let h = x.0 in omega (arith, ga.here-object, gb.here-object)))
                (λ x. ⊎_elim (λ y. absurd (T_not (on_list b) gb.off_list y.0)) (λ y. y.1) x.1) (adjacent-out a b u.0),
            larger (b ∷ k) (λ z m. g z (there m)) u.1,
          )

  -- ── one object
  module _ (o : ℕ) (doc news : List Row) (in_rows : All (λ r. Mem r rows) doc) (in-ns : All (λ r. Mem r ns) news) (od : All (λ r. object_of r ≡ o) doc) (on : All (λ r. object_of r ≡ o) news)
      (all-rows : (r : Row) → Mem r rows → object_of r ≡ o → Mem r doc) (all-ns : (r : Row) → Mem r ns → object_of r ≡ o → Mem r news) (apart : Apart (doc ++ news)) where
    in_all : {r : Row} → Mem r (doc ++ news) → Mem r (rows ++ ns)
    in_all {r} m = on-append doc m (λ i. append_left ns (in_rows r i)) (λ i. append_right rows (in-ns r i))

    here-all : {r : Row} → Mem r (doc ++ news) → object_of r ≡ o
    here-all {r} m = on-append doc m (od r) (on r)

    pub new-rows : (x : Row) → Mem x news → T (on_list x) → NewRows o doc news
    new-rows x m t =
        let of-list : All (OfList o) (doc ++ news) = λ r n. list-rows o x (append_right rows (in-ns x m)) (on x m) t r (in_all n) (here-all n) in
        record {
          apart = apart;
          of-list = of-list;
          plain = λ r n u e. T_not (is_insert r) u ((list-key r (p.fit r (append_right rows (in-ns r n))) (of-list r (append_right doc n)).stands_on_list).from-head e);
          known = λ r n.
              ⊎_elim inl
              (λ w.
              let k = w.1 in
              let there-o : object_of k.0 ≡ o = k.3 ∙ on r n in
              let h = w.0 in
              inr (k.0, on-append rows k.1 (λ i. append_left news (all-rows k.0 i there-o)) (λ i. append_right doc (all-ns k.0 i there-o)), k.2, k.4, omega (arith, k.4)))
              (names (rows ++ ns) r (p.elements r (append_right rows (in-ns r n))));
        }

    object-all : {out : List Event} → ObjectRuns news doc out → Perm (map row_in out) (doc ++ news)
    object-all (in_list x m t r) = let n = new-rows x m t in runs-all news doc n.plain n.known r
    object-all (in_map x m t s r) = merges-all r

    object-pass : Pass doc → {out : List Event} → ObjectRuns news doc out → Pass (map row_in out)
    object-pass passes (in_list x m t r) = runs-pass o doc news (new-rows x m t) passes r
    object-pass passes (in_map x m t s r) =
        let g : All (OfMap o) (doc ++ news) = λ z n. map_rows o x (append_right rows (in-ns x m)) (on x m) t z (in_all n) (here-all n) in
        merges-pass o r apart g s (map-sorted o doc (pairwise-left (λ x y. id_of x ≡ id_of y → ⊥) doc news apart) (λ z n. g z (append_left news n)) passes.next)

  -- ── object by object, from bound b on
  abbrev Done : List Row → List Row → List Row → Type 0
  Done doc news out = Perm out (doc ++ news) × Pass out

  -- what is asked of a walk of groups, and what it gives
  abbrev Walk : List Group → List Row → List Row → Type 0
  Walk gs doc out =
      (b : ℕ) → All (λ r. Mem r rows) doc → All (λ r. Mem r ns) (news_of gs) → All (λ r. b ≤ object_of r) (news_of gs) → Has b rows doc → Has b ns (news_of gs) → Apart (doc ++ news_of gs) → Pass doc
      → Done doc (news_of gs) out

  module _ (g : Group) (gs : List Group) (ahead doc behind : List Row) (out more : List Event) (a : All (λ r. object_of r < g.object) ahead) (s : All (λ r. object_of r ≡ g.object) doc)
      (c : All (λ r. g.object < object_of r) behind) (n : All (λ r. object_of r ≡ g.object) g.news) (l : All (λ r. g.object < object_of r) (news_of gs)) (r : ObjectRuns g.news doc out)
      (later-walk : Walk gs behind (map row_in more)) (b : ℕ) (in_rows : All (λ r. Mem r rows) (ahead ++ (doc ++ behind))) (in-ns : All (λ r. Mem r ns) (g.news ++ news_of gs))
      (low : All (λ r. b ≤ object_of r) (g.news ++ news_of gs)) (hr : Has b rows (ahead ++ (doc ++ behind))) (hn : Has b ns (g.news ++ news_of gs))
      (d : Apart ((ahead ++ (doc ++ behind)) ++ (g.news ++ news_of gs))) (ps : Pass (ahead ++ (doc ++ behind))) where
    abbrev D : Row → Row → Type 0
    D x y = id_of x ≡ id_of y → ⊥

    -- the parts of the rows
    ahead-below : Below ahead (doc ++ behind)
    ahead-below x y m k = let h = a x m in on-append doc k (λ i. omega (arith, s y i)) (λ i. omega (arith, c y i))

    doc-below : Below doc behind
    doc-below x y m k = omega (arith, s x m, c y k)

    parts : Pass ahead × Pass (doc ++ behind)
    parts = pass-parts ahead (doc ++ behind) ahead-below ps

    parts2 : Pass doc × Pass behind
    parts2 = pass-parts doc behind doc-below parts.1

    doc-rows : All (λ r. Mem r rows) doc
    doc-rows x m = in_rows x (append_right ahead (append_left behind m))

    behind-rows : All (λ r. Mem r rows) behind
    behind-rows x m = in_rows x (append_right ahead (append_right doc m))

    -- nothing of the object stands elsewhere
    own-rows : (x : Row) → Mem x rows → object_of x ≡ g.object → b ≤ g.object → Mem x doc
    own-rows x m e h =
        on-append ahead (hr x m (omega (arith, e))) (λ i. absurd (omega (arith, a x i, e))) (λ i. on-append doc i (λ j. j) (λ j. absurd (omega (arith, c x j, e))))

    own-news : (x : Row) → Mem x ns → object_of x ≡ g.object → b ≤ g.object → Mem x g.news
    own-news x m e h = on-append g.news (hn x m (omega (arith, e))) (λ i. i) (λ i. absurd (omega (arith, l x i, e)))

    doc-news-apart : Apart (doc ++ g.news)
    doc-news-apart =
        let left = pairwise-left D (ahead ++ (doc ++ behind)) (g.news ++ news_of gs) d in
        let right = pairwise-right D (ahead ++ (doc ++ behind)) (g.news ++ news_of gs) d in
        pairwise_append doc g.news (pairwise-left D doc behind (pairwise-right D ahead (doc ++ behind) left)) (pairwise-left D g.news (news_of gs) right)
        (λ x y m k. pairwise-across D (ahead ++ (doc ++ behind)) (g.news ++ news_of gs) d x y (append_right ahead (append_left behind m)) (append_left (news_of gs) k))

    behind-apart : Apart (behind ++ news_of gs)
    behind-apart =
        let left = pairwise-left D (ahead ++ (doc ++ behind)) (g.news ++ news_of gs) d in
        let right = pairwise-right D (ahead ++ (doc ++ behind)) (g.news ++ news_of gs) d in
        pairwise_append behind (news_of gs) (pairwise-right D doc behind (pairwise-right D ahead (doc ++ behind) left)) (pairwise-right D g.news (news_of gs) right)
        (λ x y m k. pairwise-across D (ahead ++ (doc ++ behind)) (g.news ++ news_of gs) d x y (append_right ahead (append_right doc m)) (append_right g.news k))

    -- a group has a new row, so its object is not below the bound
    bound : b ≤ g.object
    bound = witness r
      where
        from_row : (x : Row) → Mem x g.news → b ≤ g.object
        from_row x m = omega (arith, low x (append_left (news_of gs) m), n x m)

        witness : {e : List Event} → ObjectRuns g.news doc e → b ≤ g.object
        witness (in_list x m t k) = from_row x m
        witness (in_map x m t i k) = from_row x m

    object-perm : Perm (map row_in out) (doc ++ g.news)
    object-perm = object-all g.object doc g.news doc-rows (λ x m. in-ns x (append_left (news_of gs) m)) s n (λ x m e. own-rows x m e bound) (λ x m e. own-news x m e bound) doc-news-apart r

    object-passes : Pass (map row_in out)
    object-passes = object-pass g.object doc g.news doc-rows (λ x m. in-ns x (append_left (news_of gs) m)) s n (λ x m e. own-rows x m e bound) (λ x m e. own-news x m e bound) doc-news-apart parts2.0 r

    later : Done behind (news_of gs) (map row_in more)
    later =
        later-walk (suc g.object) behind-rows (λ x m. in-ns x (append_right g.news m)) (λ x m. l x m)
        (λ x m h. on-append ahead (hr x m (omega (arith, bound))) (λ i. absurd (omega (arith, a x i))) (λ i. on-append doc i (λ j. absurd (omega (arith, s x j))) (λ j. j)))
        (λ x m h. on-append g.news (hn x m (omega (arith, bound))) (λ i. absurd (omega (arith, n x i))) (λ i. i))
        behind-apart parts2.1

    out-object : (x : Row) → Mem x (map row_in out) → object_of x ≡ g.object
    out-object x m = on-append doc (perm-mem object-perm m) (s x) (n x)

    more-object : (x : Row) → Mem x (map row_in more) → g.object < object_of x
    more-object x m = on-append behind (perm-mem later.0 m) (c x) (l x)

    passes : Pass (ahead ++ (map row_in out ++ map row_in more))
    passes =
        pass-append ahead (map row_in out ++ map row_in more) (λ x y m k. let h = a x m in on-append (map row_in out) k (λ i. omega (arith, out-object y i)) (λ i. omega (arith, more-object y i))) parts.0
        (pass-append (map row_in out) (map row_in more) (λ x y m k. omega (arith, out-object x m, more-object y k)) object-passes later.1)

    shuffle : Perm (ahead ++ (map row_in out ++ map row_in more)) ((ahead ++ (doc ++ behind)) ++ (g.news ++ news_of gs))
    shuffle =
        perm-trans (perm-append (perm-refl ahead) (perm-trans (perm-append object-perm later.0) (cross doc g.news behind (news_of gs))))
        (perm-eq (sym (append_assoc ahead (doc ++ behind) (g.news ++ news_of gs))))
      where
        cross : (u v w x : List Row) → Perm ((u ++ v) ++ (w ++ x)) ((u ++ w) ++ (v ++ x))
        cross u v w x =
            perm-trans (perm-eq (append_assoc u v (w ++ x) ∙ ap (λ k. u ++ k) (sym (append_assoc v w x))))
            (perm-trans (perm-append (perm-refl u) (perm-append (perm_comm v w) (perm-refl x))) (perm-eq (ap (λ k. u ++ k) (append_assoc w v x) ∙ sym (append_assoc u w (v ++ x)))))

    one_more : Done (ahead ++ (doc ++ behind)) (g.news ++ news_of gs) (map row_in (map old ahead ++ (out ++ more)))
    one_more =
        (subst (λ k. Perm k ((ahead ++ (doc ++ behind)) ++ (g.news ++ news_of gs))) (sym (rows_next ahead out more)) shuffle, subst Pass (sym (rows_next ahead out more)) passes)

  walked : {gs : List Group} {doc : List Row} {out : List Event} → DocRuns gs doc out → Walk gs doc (map row_in out)
  walked (rest {doc}) b in_rows in-ns low hr hn d ps =
      (subst (λ l. Perm l (doc ++ [])) (sym (rows-old doc)) (perm-eq (sym (append-nil doc))), subst Pass (sym (rows-old doc)) ps)
  walked (next {g} {gs} {ahead} {doc} {behind} {out} {more} a s c n l r q) b in_rows in-ns low hr hn d ps =
      one_more g gs ahead doc behind out more a s c n l r (λ e x1 x2 x3 x4 x5 x6 x7. walked q e x1 x2 x3 x4 x5 x6 x7) b in_rows in-ns low hr hn d ps

  -- ── all of it
  pub doc-merged : (gs : List Group) (out : List Event) → DocRuns gs rows out → Perm (news_of gs) ns → Placed rows → order rows ≡ rows → map row_in out ≡ order (rows ++ ns)
  doc-merged gs out r q pr e =
      let apart : Apart (rows ++ news_of gs) = apart-perm (perm-append (perm-refl rows) (perm-sym q)) p.apart in
      let w = walked r 0 (λ x m. m) (λ x m. perm-mem q m) (λ x m. omega arith) (λ x m h. m) (λ x m h. perm-mem (perm-sym q) m) apart ((pass-order rows pr).1 e) in
      let all : Perm (map row_in out) (rows ++ ns) = perm-trans w.0 (perm-append (perm-refl rows) q) in
      sym ((pass-order (map row_in out) (placed-perm all)).0 w.1) ∙ order-perm (map row_in out) (rows ++ ns) (apart-perm (perm-sym all) p.apart) all
    where
      placed-perm : {l : List Row} → Perm l (rows ++ ns) → Placed l
      placed-perm {l} k =
          record {
            apart = apart-perm (perm-sym k) p.apart;
            fit = λ x m. p.fit x (perm-mem k m);
            objects = λ x m. object-grows (rows ++ ns) l (λ y i. perm-mem (perm-sym k) i) x (p.objects x (perm-mem k m));
            elements = λ x m. element-grows (rows ++ ns) l (λ y i. perm-mem (perm-sym k) i) x (p.elements x (perm-mem k m));
          }
