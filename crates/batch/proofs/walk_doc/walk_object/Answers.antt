use mathlib.Core.Path.{sym, subst}
use Rattle.batch.specs.Walk.{Listed}
use Rattle.batch.proofs.ObjectWalk.{stands_on_list, off_list, list_done, map-done}
use Rattle.batch.proofs.walk_doc.walk_object.Goals as goal

pub walk_list-requires : goal.walk_list-requires
walk_list-requires c =
    let s = c in
    (subst (Listed _ _ _ _ _) (sym c.write_tags.ensures) (s.requires.0.of-list (stands_on_list s.requires.0 c.op_row.ensures c.on_list.ensures c.if-on_list.true)), s.requires.1, s.requires.3, s.requires.4)

pub returns-then-on_list : goal.returns-then-on_list
returns-then-on_list c =
    let s = c in
    list_done s.requires.0 (stands_on_list s.requires.0 c.op_row.ensures c.on_list.ensures c.if-on_list.true) c.walk_list.ensures

pub walk_map-requires : goal.walk_map-requires
walk_map-requires c = let s = c in (s.requires.0.of_map (off_list s.requires.0 c.op_row.ensures c.on_list.ensures c.if-on_list.false), s.requires.3, s.requires.4)

pub returns : goal.returns
returns c =
    let s = c in
    map-done s.requires.0 (off_list s.requires.0 c.op_row.ensures c.on_list.ensures c.if-on_list.false) c.walk_map.ensures
