-- The turns of the walk over all objects: each puts out the new rows of one.
use mathlib.Core.Path.{◌≡◌, refl, sym, ap, ap₂, ◌∙◌}
use mathlib.Core.List.{List, [], ◌++◌, map, append_assoc, append-nil}
use Prim.Native.Nat.{ℕ, suc, ◌+◌, ◌-◌, ◌≤◌, ◌<◌}
use native.Mathlib.Omega.{arith}
use borrow.Rule.Slice.PartMut.{put_mid}
use lib.ListN.{length, get_or, take, drop, take-append-drop, length-append, length-drop}
use lib.Seq.{take_at, take_all, length-take-le}
use Rattle.model.specs.Sizes.{word_range}
use Rattle.model.specs.Row.{Row, object_of}
use Rattle.laws.proofs.Members.{All, Mem, not-nil, on-append, append_left, append_right, get_or-mem}
use Rattle.laws.proofs.Untangle.{Event, old, olds}
use Rattle.laws.proofs.Placing.{news_in, places_in}
use Rattle.batch.specs.Walk.{doc_from, new_rows_of}
use Rattle.batch.specs.Groups.{below, between, object_out, out_from, doc_out, group_of, Object, Grouped, Grouping}
use Rattle.batch.proofs.Events.{news-append, news-old, places-old, places-append, out-next, out_none}
use Rattle.batch.proofs.Between.{below-grows, below-most, length-between}
use Rattle.batch.proofs.Cuts.{below-zero}
use Rattle.batch.proofs.Objects.{bound-up, object-starts, object-some}
use Rattle.batch.proofs.GroupRows.{doc-between, group-between}
use Rattle.batch.proofs.NewRows.{length-new, new_none, new-append}

-- a part that was lent and came back: what is before its end
put-part : {A : Type 0} (lo hi : ℕ) (xs ys : List A) → lo ≤ hi → hi ≤ length xs → length ys ≡ hi - lo → take hi (put_mid lo (hi - lo) xs ys) ≡ take lo xs ++ ys
put-part {A} lo hi xs ys h l e =
    let front : List A = take lo xs ++ ys in
    let n : length front ≡ hi = length-append (take lo xs) ys ∙ (let k = length-take-le lo xs (omega arith) in omega arith) in
    ap (take hi) (sym (append_assoc (take lo xs) ys (drop (hi - lo) (drop lo xs)))) ∙ take_at front (drop (hi - lo) (drop lo xs)) hi n

put-length : {A : Type 0} (lo hi : ℕ) (xs ys : List A) → lo ≤ hi → hi ≤ length xs → length ys ≡ hi - lo → length (put_mid lo (hi - lo) xs ys) ≡ length xs
put-length lo hi xs ys h l e =
    let k = length-take-le lo xs (omega arith) in
    omega (arith, length-append (take lo xs) (ys ++ drop (hi - lo) (drop lo xs)), length-append ys (drop (hi - lo) (drop lo xs)), length-drop (hi - lo) (drop lo xs), length-drop lo xs)

module _ {rows : List ℕ} {n : ℕ} {ops sorted : List ℕ} (g : Grouped rows n ops sorted) where
  abbrev news : List Row
  news = new_rows_of ops sorted

  abbrev doc : List Row
  doc = doc_from rows n 0

  whole : doc_out news doc ≡ out_from (length news) news doc 0
  unfolding doc_out
  whole = refl

  pub group-starts : (order places : List ℕ) → length order ≡ length sorted → length places ≡ length sorted → Grouping rows n ops sorted order places 0
  group-starts order places p q =
      record {
        bound = 0;
        steps = length news;
        lo-is = sym (below-zero news);
        enough = omega (arith, length-new ops sorted);
        numbers = p;
        spots = q;
        news = ap news_in whole ∙ ap (λ (l : List Row). l ++ news_in (out_from (length news) news doc 0)) (sym (new_none ops));
        puts = ap (places_in 0) whole ∙ ap (λ (i : ℕ). places_in i (out_from (length news) news doc 0)) (sym (below-zero doc));
        chosen = λ x m. absurd (not-nil m);
      }

  -- ── the next object
  module _ {order places : List ℕ} {lo : ℕ} (c : Grouping rows n ops sorted order places lo) (m : lo < length sorted) (o : ℕ) (e : o ≡ object_of (get_or news lo [])) where
    at_bound : below c.bound news < length news
    at_bound = omega (arith, c.lo-is, length-new ops sorted)

    object-is : o ≡ object_of (get_or news (below c.bound news) [])
    object-is = e ∙ ap (λ (i : ℕ). object_of (get_or news i [])) c.lo-is

    pub starts-at : below o news ≡ lo
    starts-at = object-starts news g.news-rise c.bound at_bound o object-is ∙ sym c.lo-is

    pub more-than : lo < below (suc o) news
    more-than = let k = object-some news g.news-rise c.bound at_bound o object-is in omega (arith, c.lo-is)

    pub at_most : below (suc o) news ≤ length sorted
    at_most = let k = below-most (suc o) news in omega (arith, length-new ops sorted)

    pub small-object : o + 1 < word_range
    small-object = rw e (g.small-objects (get_or news lo []) (get_or-mem news lo [] (omega (arith, length-new ops sorted))))

    pub the-object : Object rows (below o doc) (below (suc o) doc) ops (group_of ops sorted o)
    the-object = g.each o (let k = more-than in omega (arith, starts-at))

    pub group-is : take (below (suc o) news - lo) (drop lo sorted) ≡ group_of ops sorted o
    unfolding group_of
    group-is = ap (λ (i : ℕ). take (below (suc o) news - i) (drop i sorted)) (sym starts-at)

    -- what comes out of this object and then
    abbrev here : List Event
    here = object_out (between o (suc o) news) (between o (suc o) doc)

    -- one step fewer, for the rest
    fewer : ℕ
    fewer = c.steps - 1

    abbrev more : List Event
    more = out_from fewer news doc (suc o)

    now-next : out_from c.steps news doc c.bound ≡ map old (between c.bound o doc) ++ (here ++ more)
    unfolding fewer
    now-next =
        let s : c.steps ≡ suc (c.steps - 1) = omega (arith, c.enough) in
        ap (λ (k : ℕ). out_from k news doc c.bound) s ∙ out-next (c.steps - 1) news doc c.bound o at_bound object-is

    next-news : news_in (out_from c.steps news doc c.bound) ≡ news_in here ++ news_in more
    next-news = ap news_in now-next ∙ news-old (between c.bound o doc) (here ++ more) ∙ news-append here more

    up-to-object : below c.bound doc + length (between c.bound o doc) ≡ below o doc
    up-to-object =
        let k = below-grows c.bound o doc (bound-up news g.news-rise c.bound at_bound o object-is) in
        omega (arith, length-between c.bound o doc)

    past-object : below o doc + length (olds here) ≡ below (suc o) doc
    past-object =
        let k = below-grows o (suc o) doc (omega arith) in
        omega (arith, ap length (g.kept o), length-between o (suc o) doc)

    next-places : places_in (below c.bound doc) (out_from c.steps news doc c.bound) ≡ places_in (below o doc) here ++ places_in (below (suc o) doc) more
    next-places =
        ap (places_in (below c.bound doc)) now-next
        ∙ places-old (below c.bound doc) (between c.bound o doc) (here ++ more)
        ∙ ap (λ (i : ℕ). places_in i (here ++ more)) up-to-object
        ∙ places-append (below o doc) here more
        ∙ ap (λ (i : ℕ). places_in (below o doc) here ++ places_in i more) past-object

    -- ── its new rows have their places
    module _ (part spots-part : List ℕ) (size : length part ≡ below (suc o) news - lo) (size₂ : length spots-part ≡ below (suc o) news - lo)
        (done : news_in (object_out (new_rows_of ops (group_of ops sorted o)) (doc_from rows (below (suc o) doc) (below o doc))) ≡ new_rows_of ops part)
        (put : places_in (below o doc) (object_out (new_rows_of ops (group_of ops sorted o)) (doc_from rows (below (suc o) doc) (below o doc))) ≡ spots-part)
        (from : All (λ x. Mem x (group_of ops sorted o)) part) where
      object-here : object_out (new_rows_of ops (group_of ops sorted o)) (doc_from rows (below (suc o) doc) (below o doc)) ≡ here
      object-here = ap₂ object_out (group-between ops sorted o) (doc-between rows n o)

      from_sorted : {x : ℕ} → Mem x (group_of ops sorted o) → Mem x sorted
      unfolding group_of
      from_sorted {x} k =
          let a = below o news in
          let l = below (suc o) news - a in
          rw (take-append-drop a sorted) at (append_right (take a sorted) (rw (take-append-drop l (drop a sorted)) at (append_left (drop l (drop a sorted)) k)))

      pub group-turn : Grouping rows n ops sorted (put_mid lo (below (suc o) news - lo) order part) (put_mid lo (below (suc o) news - lo) places spots-part) (below (suc o) news)
      unfolding fewer
      group-turn =
          let hi = below (suc o) news in
          let front = put-part lo hi order part (omega (arith, more-than)) (omega (arith, at_most, c.numbers)) size in
          let front₂ = put-part lo hi places spots-part (omega (arith, more-than)) (omega (arith, at_most, c.spots)) size₂ in
          record {
            bound = suc o;
            steps = fewer;
            lo-is = refl;
            enough = omega (arith, c.enough, more-than);
            numbers = put-length lo hi order part (omega (arith, more-than)) (omega (arith, at_most, c.numbers)) size ∙ c.numbers;
            spots = put-length lo hi places spots-part (omega (arith, more-than)) (omega (arith, at_most, c.spots)) size₂ ∙ c.spots;
            news =
                c.news
                ∙ ap (λ (l : List Row). new_rows_of ops (take lo order) ++ l) (next-news ∙ ap (λ (l : List Row). l ++ news_in more) (ap news_in (sym object-here) ∙ done))
                ∙ sym (append_assoc (new_rows_of ops (take lo order)) (new_rows_of ops part) (news_in more))
                ∙ ap (λ (l : List Row). l ++ news_in more) (sym (ap (new_rows_of ops) front ∙ new-append ops (take lo order) part));
            puts =
                c.puts
                ∙ ap (λ (l : List ℕ). take lo places ++ l) (next-places ∙ ap (λ (l : List ℕ). l ++ places_in (below (suc o) doc) more) (ap (places_in (below o doc)) (sym object-here) ∙ put))
                ∙ sym (append_assoc (take lo places) spots-part (places_in (below (suc o) doc) more))
                ∙ ap (λ (l : List ℕ). l ++ places_in (below (suc o) doc) more) (sym front₂);
            chosen = λ x k. on-append (take lo order) (rw front at k) (c.chosen x) (λ i. from_sorted (from x i));
          }

  -- ── the end: no new row is left
  pub group-ends : {order places : List ℕ} {lo : ℕ} → Grouping rows n ops sorted order places lo → length sorted ≤ lo
      → (news_in (doc_out news doc) ≡ new_rows_of ops order) × (places_in 0 (doc_out news doc) ≡ places) × All (λ x. Mem x sorted) order
  group-ends {order} {places} {lo} c h =
      let last : out_from c.steps news doc c.bound ≡ map old (drop (below c.bound doc) doc) = out_none c.steps news doc c.bound (omega (arith, c.lo-is, length-new ops sorted)) in
      let l = map old (drop (below c.bound doc) doc) in
      let all : take lo order ≡ order = take_all lo order (omega (arith, c.numbers)) in
      let no_more : news_in (out_from c.steps news doc c.bound) ≡ [] = ap news_in (last ∙ sym (append-nil l)) ∙ news-old (drop (below c.bound doc) doc) [] in
      let no-places : places_in (below c.bound doc) (out_from c.steps news doc c.bound) ≡ [] =
      ap (places_in (below c.bound doc)) (last ∙ sym (append-nil l)) ∙ places-old (below c.bound doc) (drop (below c.bound doc) doc) [] in (
        c.news ∙ ap₂ (λ (i : List ℕ) (k : List Row). new_rows_of ops i ++ k) all no_more ∙ append-nil (new_rows_of ops order),
        c.puts ∙ ap₂ (λ (i k : List ℕ). i ++ k) (take_all lo places (omega (arith, c.spots))) no-places ∙ append-nil places,
        rw all at c.chosen,
      )
