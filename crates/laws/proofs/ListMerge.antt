-- Merging new rows into the rows of one list: what the Untangler's walk puts out passes.
use mathlib.Core.Path.{◌≡◌, refl, sym, ap, subst, ◌∙◌}
use mathlib.Core.Logic.{◌⊎◌, inl, inr, ⊎_elim}
use mathlib.Core.Bool.{not, ◌&&◌}
use mathlib.Core.List.{List, [], ◌∷◌, ◌++◌, map, map-append}
use Prim.Native.Nat.{ℕ, ◌<◌}
use lib.Dec.{T, eqb}
use Rattle.model.specs.Basic.{filter}
use Rattle.model.specs.Id.{head}
use Rattle.model.specs.Row.{Row, id_of, object_of, named_of, on_list, is_insert}
use Rattle.model.specs.Order.{inserts}
use Rattle.laws.proofs.Tests.{T_and, T-implies, by-eq, bool-ext, eq→eqb}
use Rattle.laws.proofs.Members.{Mem, here, not-nil, All, append_left, append_right, mem-map, map-from, filter-from, filter_passes, filter-in, filter-append, filter-ext}
use Rattle.laws.proofs.Pairs.{pairwise-right, pairwise_map, filter-pairwise}
use Rattle.laws.proofs.Perms.{perm-mem}
use Rattle.laws.proofs.RowOrder.{Apart}
use Rattle.laws.proofs.Nearest.{Ins, Ordered, Distinct, nearest, nearest-law}
use Rattle.laws.proofs.Weave.{Fits, rest, Woven, start-ordered}
use Rattle.laws.proofs.Preorder.{kids}
use Rattle.laws.proofs.Elements.{insert-of, ins_of}
use Rattle.laws.proofs.Passes.{begins, first_begins, ins-none}
use Rattle.laws.proofs.Pass.{Pass}
use Rattle.laws.proofs.Untangle.{waiting, others, Event, row_in, Runs, inserts_in, runs-woven, waiting-inserts, rest-is, kids-are}
use Rattle.laws.proofs.Untangled.{OfList, others-in, HeadInsert, runs-start}
use Rattle.laws.proofs.UntangledAll.{runs-all}

-- in one list, its inserts are all inserts
pub ins-all : (o : ℕ) (rs : List Row) → All (λ r. object_of r ≡ o) rs → ins_of rs o ≡ inserts_in rs
unfolding ins_of inserts
ins-all o rs g =
    ap (map insert-of)
    (filter-ext (λ r. is_insert r && eqb (object_of r) o) is_insert rs
    (λ r m. bool-ext (is_insert r && eqb (object_of r) o) (is_insert r) (λ t. ((T_and (is_insert r) (eqb (object_of r) o)).0 t).0) (λ t. (T_and (is_insert r) (eqb (object_of r) o)).1 (t, eq→eqb (object_of r) o (g r m)))))

-- what checks 4 and 7 say of new rows of list o beside its rows
pub record NewRows (o : ℕ) (doc news : List Row) : Type 0 where
  pub apart : Apart (doc ++ news)
  pub of-list : All (OfList o) (doc ++ news)
  pub plain : All (λ r. T (not (is_insert r)) → named_of r ≡ head → ⊥) news
  pub known : All (λ r. (named_of r ≡ head) ⊎ ((e : Row) × Mem e (doc ++ news) × T (is_insert e) × (id_of e ≡ named_of r) × (id_of e < id_of r))) news

module _ (o : ℕ) (doc news : List Row) (n : NewRows o doc news) (p : Pass doc) where
  doc-list : All (OfList o) doc
  doc-list r m = n.of-list r (append_left news m)

  news-list : All (OfList o) news
  news-list r m = n.of-list r (append_right doc m)

  in-inserts : {x : Ins} (rs : List Row) → Mem x (inserts_in rs) → (r : Row) × Mem r rs × T (is_insert r) × (x ≡ insert-of r)
  in-inserts rs m =
      let q = map-from insert-of (filter is_insert rs) m in
      (q.0, filter-from is_insert rs q.1, filter_passes is_insert rs q.1, q.2)

  both : inserts_in (doc ++ news) ≡ inserts_in doc ++ inserts_in news
  both = ap (map insert-of) (filter-append is_insert doc news) ∙ map-append insert-of (filter is_insert doc) (filter is_insert news)

  doc-ordered : Ordered (0 ∷ []) (inserts_in doc)
  doc-ordered = (nearest-law (inserts_in doc)).0 (subst (λ l. T (nearest [] l)) (ins-all o doc (λ r m. (doc-list r m).here-object)) (p.near o))

  fits : Fits (inserts_in doc) (inserts_in news)
  fits =
      record {
        below = subst (All (λ x. x.ref < x.id)) both (λ x m. let w = in-inserts (doc ++ news) m in rw w.3 (n.of-list w.0 w.1).low);
        distinct = subst Distinct both ((pairwise_map (λ x y. x.id ≡ y.id → ⊥) insert-of (filter is_insert (doc ++ news))).1 (filter-pairwise (λ x y. id_of x ≡ id_of y → ⊥) is_insert (doc ++ news) n.apart));
        known = λ y m.
            let w = in-inserts news m in
            ⊎_elim (λ e. inl (ap (λ z. z.ref) w.3 ∙ e))
            (λ k. inr (insert-of k.0, subst (λ l. Mem (insert-of k.0) l) both (mem-map insert-of (filter-in is_insert (doc ++ news) k.1 k.2)), k.3 ∙ sym (ap (λ z. z.ref) w.3)))
            (n.known w.0 w.1);
        ordered = doc-ordered;
      }

  doc-begins : (l : List Row) → All (OfList o) l → T (first_begins l) → HeadInsert o l
  unfolding begins
  doc-begins [] g t = tt
  doc-begins (d ∷ l) g t = (T-implies (on_list d) (is_insert d)).0 t (g d (here refl)).stands_on_list

  pub runs-pass : {out : List Event} → Runs (others head news) [] (waiting head news) doc out → Pass (map row_in out)
  runs-pass {out} r =
      let start = runs-start o r (others_apart news (pairwise-right (λ x y. id_of x ≡ id_of y → ⊥) doc news n.apart)) (λ x m. news-list x (others-in o head news m).0) (λ s m. news-list s (waiting-inserts head news s m).2)
      (λ s m. (waiting-inserts head news s m).0) doc-list (doc-begins doc doc-list p.first) p.next in
      record { first = start.0; next = start.1; near = near }
    where
      others_apart : (l : List Row) → Apart l → Apart (others head l)
      others_apart l a = unfold others in filter-pairwise (λ x y. id_of x ≡ id_of y → ⊥) (λ q. not (eqb (named_of q) head)) l a

      all : All (OfList o) (map row_in out)
      all x m = n.of-list x (perm-mem (runs-all news doc n.plain n.known r) m)

      woven : Woven (rest 0 (inserts_in news)) (kids 0 (inserts_in news)) (inserts_in doc) (inserts_in (map row_in out))
      woven =
          subst (λ k. Woven k (kids 0 (inserts_in news)) (inserts_in doc) (inserts_in (map row_in out))) (rest-is head news)
          (subst (λ k. Woven (inserts_in (others head news)) k (inserts_in doc) (inserts_in (map row_in out))) (kids-are head news)
          (runs-woven r (λ u m. absurd (not-nil m)) (λ s m. (waiting-inserts head news s m).0)))

      own : T (nearest [] (inserts_in (map row_in out)))
      own = (nearest-law (inserts_in (map row_in out))).1 (start-ordered (inserts_in doc) (inserts_in news) fits woven)

      near : (q : ℕ) → T (nearest [] (ins_of (map row_in out) q))
      near q =
          by-eq o q (λ e. subst (λ z. T (nearest [] (ins_of (map row_in out) z))) e (subst (λ l. T (nearest [] l)) (sym (ins-all o (map row_in out) (λ x m. (all x m).here-object))) own))
          (λ ne. subst (λ l. T (nearest [] l)) (sym (ins-none (map row_in out) q (λ x m t e. ne (sym (all x m).here-object ∙ e)))) tt)
