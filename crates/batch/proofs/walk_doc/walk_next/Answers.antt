use native.Mathlib.Omega.{arith}
use mathlib.Core.Path.{sym, subst, ◌∙◌}
use Rattle.batch.specs.Places.{Rising}
use Rattle.batch.proofs.NextObject.{part-size, objects-size, next-small, run, run-turned}
use Rattle.batch.proofs.walk_doc.walk_next.Goals as goal

pub bounds-news-lo : goal.bounds-news-lo
bounds-news-lo c = let s = c in omega (arith, objects-size s.args.news.now.ops.now s.args.news.now.sorted.now s.args.news.now.objects.now s.requires.0.1, s.requires.3)

pub overflow_add-object : goal.overflow_add-object
overflow_add-object c = let s = c.requires in omega (arith, next-small s.0.0 s.0.1 s.3 s.4)

pub lower-hi-requires : goal.lower-hi-requires
lower-hi-requires c = let s = c in subst Rising (sym s.requires.0.1) s.requires.0.0.news-rise

pub overflow_add-object-2 : goal.overflow_add-object-2
overflow_add-object-2 c = let s = c.requires in omega (arith, next-small s.0.0 s.0.1 s.3 s.4)

pub slice_bounds-walk_object-count : goal.slice_bounds-walk_object-count
slice_bounds-walk_object-count c = let s = c.requires in let r = run s.0.0 s.0.1 s.3 s.4 c.lower-hi.ensures c.rows_below-a.ensures c.rows_below-z.ensures in omega (arith, s.2, s.4.numbers, s.4.spots)

pub slice_bounds-walk_object-start : goal.slice_bounds-walk_object-start
slice_bounds-walk_object-start c = let s = c.requires in let r = run s.0.0 s.0.1 s.3 s.4 c.lower-hi.ensures c.rows_below-a.ensures c.rows_below-z.ensures in omega (arith, s.2, s.4.numbers, s.4.spots)

pub slice_bounds-walk_object-end : goal.slice_bounds-walk_object-end
slice_bounds-walk_object-end c = let s = c.requires in let r = run s.0.0 s.0.1 s.3 s.4 c.lower-hi.ensures c.rows_below-a.ensures c.rows_below-z.ensures in omega (arith, s.2, s.4.numbers, s.4.spots)

pub slice_bounds-walk_object-count-2 : goal.slice_bounds-walk_object-count-2
slice_bounds-walk_object-count-2 c = let s = c.requires in let r = run s.0.0 s.0.1 s.3 s.4 c.lower-hi.ensures c.rows_below-a.ensures c.rows_below-z.ensures in omega (arith, s.2, s.4.numbers, s.4.spots)

pub slice_bounds-walk_object-start-2 : goal.slice_bounds-walk_object-start-2
slice_bounds-walk_object-start-2 c = let s = c.requires in let r = run s.0.0 s.0.1 s.3 s.4 c.lower-hi.ensures c.rows_below-a.ensures c.rows_below-z.ensures in omega (arith, s.2, s.4.numbers, s.4.spots)

pub slice_bounds-walk_object-count-3 : goal.slice_bounds-walk_object-count-3
slice_bounds-walk_object-count-3 c = let s = c.requires in let r = run s.0.0 s.0.1 s.3 s.4 c.lower-hi.ensures c.rows_below-a.ensures c.rows_below-z.ensures in omega (arith, s.2, s.4.numbers, s.4.spots)

pub slice_bounds-walk_object-start-3 : goal.slice_bounds-walk_object-start-3
slice_bounds-walk_object-start-3 c = let s = c.requires in let r = run s.0.0 s.0.1 s.3 s.4 c.lower-hi.ensures c.rows_below-a.ensures c.rows_below-z.ensures in omega (arith, s.2, s.4.numbers, s.4.spots)

pub slice_bounds-walk_object-count-4 : goal.slice_bounds-walk_object-count-4
slice_bounds-walk_object-count-4 c = let s = c.requires in let r = run s.0.0 s.0.1 s.3 s.4 c.lower-hi.ensures c.rows_below-a.ensures c.rows_below-z.ensures in omega (arith, s.2, s.4.numbers, s.4.spots)

pub slice_bounds-walk_object-start-4 : goal.slice_bounds-walk_object-start-4
slice_bounds-walk_object-start-4 c = let s = c.requires in let r = run s.0.0 s.0.1 s.3 s.4 c.lower-hi.ensures c.rows_below-a.ensures c.rows_below-z.ensures in omega (arith, s.2, s.4.numbers, s.4.spots)

pub walk_object-requires : goal.walk_object-requires
walk_object-requires c =
    let s = c.requires in
    let a = c.args in
    let hi = c.lower-hi.result in
    let r = run s.0.0 s.0.1 s.3 s.4 c.lower-hi.ensures c.rows_below-a.ensures c.rows_below-z.ensures in
    let w = part-size a.lo hi a.news.now.sorted.now (omega arith) r.within in (
      r.object,
      omega (arith, w, s.1),
      part-size a.lo hi a.tags.now (omega arith) (omega (arith, s.2)) ∙ sym w,
      part-size a.lo hi a.order.now (omega arith) (omega (arith, s.4.numbers)) ∙ sym w,
      part-size a.lo hi a.places.now (omega arith) (omega (arith, s.4.spots)) ∙ sym w,
    )

pub returns : goal.returns
returns c =
    let s = c.requires in
    let a = c.args in
    let r = run s.0.0 s.0.1 s.3 s.4 c.lower-hi.ensures c.rows_below-a.ensures c.rows_below-z.ensures in
    (run-turned s.0.0 s.0.1 s.3 s.4 c.lower-hi.ensures c.rows_below-a.ensures c.rows_below-z.ensures (c.walk_object.auto.order ∙ part-size a.lo c.lower-hi.result a.order.now (omega arith) (omega (arith, s.4.numbers))) (c.walk_object.auto.places ∙ part-size a.lo c.lower-hi.result a.places.now (omega arith) (omega (arith, s.4.spots))) c.walk_object.ensures, r.some)
