-- Each object that has a new row may be walked: what the walks over a list and over a map ask.
use mathlib.Core.Path.{◌≡◌, sym, subst, ◌∙◌}
use mathlib.Core.Bool.{not}
use mathlib.Core.List.{List, [], ◌++◌, map}
use Prim.Native.Nat.{ℕ, suc, ◌*◌, ◌≤◌, ◌<◌}
use native.Mathlib.Omega.{arith}
use lib.Dec.{T, eqb}
use lib.ListN.{length, get_or}
use Rattle.model.specs.Basic.{filter}
use Rattle.model.specs.Sizes.{row_words, op_words}
use Rattle.model.specs.Row.{Row, id_of, object_of, on_list}
use Rattle.laws.proofs.Members.{Mem, All, append_left, append_right, get_or-mem}
use Rattle.laws.proofs.Pairs.{pairwise-right}
use Rattle.laws.proofs.Sort.{Sorted}
use Rattle.laws.proofs.RowOrder.{Apart}
use Rattle.laws.proofs.SubDocument.{Placed}
use Rattle.checks.proofs.OneKey.{Plain}
use Rattle.batch.specs.Places.{Rising}
use Rattle.batch.specs.Merge.{Known}
use Rattle.batch.specs.Rank.{op_before}
use Rattle.batch.specs.Walk.{doc_from, new_rows_of, Listed}
use Rattle.batch.specs.Groups.{below, tags_of, group_of, Mapped, Object}
use Rattle.batch.proofs.OrderedRuns.{ListRow}
use Rattle.batch.proofs.Between.{below-grows, of-object}
use Rattle.batch.proofs.MapRanks.{map-rank}
use Rattle.batch.proofs.ListRuns.{list-rising, list-up-to, list-updates, list-waits}
use Rattle.batch.proofs.ListCount.{list_count}
use Rattle.batch.proofs.SmallWords.{small-id, small-tag}
use Rattle.batch.proofs.OneObject.{OneObject, one-object, list-row, all-positive, all_list, all_map, list-news}
use Rattle.batch.proofs.GroupRows.{doc-room, doc-between, group-between, group-known, group-some}
use Rattle.batch.proofs.NewRows.{length-new}

module _ (rows : List ℕ) (n : ℕ) (ops sorted : List ℕ) where
  abbrev doc : List Row
  doc = doc_from rows n 0

  abbrev news : List Row
  news = new_rows_of ops sorted

  module _ (room : n * row_words ≤ length rows) (known : Known op_words ops sorted) (p : Placed (doc ++ news)) (old-plain : All Plain doc) (new-plain : All Plain news)
      (rows-rise : Rising (map object_of doc)) (news-rise : Rising (map object_of news)) (by_rank : Sorted op_before news) (o : ℕ) where
    abbrev group : List ℕ
    group = group_of ops sorted o

    abbrev own : List Row
    own = doc_from rows (below (suc o) doc) (below o doc)

    abbrev own-news : List Row
    own-news = new_rows_of ops group

    pub own-rows : OneObject o doc news own own-news
    own-rows =
        subst (λ l. OneObject o doc news l own-news) (sym (doc-between rows n o ∙ of-object o doc rows-rise))
        (subst (λ l. OneObject o doc news (filter (λ r. eqb (object_of r) o) doc) l) (sym (group-between ops sorted o ∙ of-object o news news-rise)) (one-object o doc news p.apart by_rank))

    plain-own : All Plain own
    plain-own r m = old-plain r (own-rows.doc-in r m)

    plain-news : All Plain own-news
    plain-news r m = new-plain r (own-rows.news-in r m)

    news-apart : Apart own-news
    news-apart = pairwise-right (λ x y. id_of x ≡ id_of y → ⊥) own own-news own-rows.apart

    module _ (some : below o news < below (suc o) news) where
      first : Row
      first = get_or own-news 0 []

      first-in : Mem first own-news
      unfolding first
      first-in = get_or-mem own-news 0 [] (omega (arith, group-some ops sorted o some, length-new ops group))

      each-list : T (on_list first) → Listed rows (below o doc) (below (suc o) doc) ops group (tags_of ops group)
      unfolding tags_of
      each-list t =
          let list : All (ListRow o) own-news = λ r m. list-row o r (plain-news r m) (all_list p own-rows first first-in t r (append_right own m)).stands_on_list (own-rows.news-of r m) in
          record {
            within = below-grows o (suc o) doc (omega arith);
            room = doc-room rows n o room;
            known = group-known ops sorted o known;
            rising = list-rising o own-news news-apart own-rows.sorted list;
            up_to = λ v. omega (arith, list-up-to o own-news news-apart own-rows.sorted list v, length-new ops group);
            updated = list-updates o own-news news-apart own-rows.sorted list;
            waits = list-waits o own-news news-apart own-rows.sorted list;
            small-old = λ r m. small-id r (plain-own r m).fit;
            small-new = λ r m. small-id r (plain-news r m).fit;
            all-out = list_count o own own-news (list-news p own-rows first first-in t) (all-positive p own-rows) ∙ length-new ops group;
          }

      each_map : T (not (on_list first)) → Mapped rows (below o doc) (below (suc o) doc) ops group
      each_map t =
          let maps = all_map p own-rows first first-in t in
          record {
            within = below-grows o (suc o) doc (omega arith);
            room = doc-room rows n o room;
            known = group-known ops sorted o known;
            by_rank = λ u d m i. map-rank o u d (plain-news u m) (plain-own d i) (maps u (append_right own m)) (maps d (append_left own-news i));
          }

      pub each-object : Object rows (below o doc) (below (suc o) doc) ops group
      unfolding first
      each-object =
          record {
            some = group-some ops sorted o some;
            all_known = group-known ops sorted o known;
            small-tags = λ r m. small-tag r (plain-news r m).fit;
            of-list = each-list;
            of_map = each_map;
          }
