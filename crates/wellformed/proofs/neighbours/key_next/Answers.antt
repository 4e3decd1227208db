use mathlib.Core.Path.{◌∙◌}
use lib.Dec.{ltb, eqb}
use lib.ListN.{get_or}
use Rattle.model.specs.Row.{id_of, key_length_of}
use Rattle.wellformed.specs.Neighbours.{tail_next, key_next}
use Rattle.wellformed.proofs.Lists.{first-less}
use Rattle.wellformed.proofs.neighbours.key_next.Goals as goal

pub returns : goal.returns
unfolding key_next tail_next
returns c =
    let a = c.args.a.now in
    let b = c.args.b.now in
    rw (c.map_place.ensures, c.map_place-2.ensures) at c.lt.ensures
    ∙ first-less
    (ltb (get_or a 5 0) (get_or b 5 0)) (eqb (get_or a 5 0) (get_or b 5 0))
    (ltb (get_or a 6 0) (get_or b 6 0)) (eqb (get_or a 6 0) (get_or b 6 0))
    (ltb (get_or a 7 0) (get_or b 7 0)) (eqb (get_or a 7 0) (get_or b 7 0))
    (ltb (key_length_of a) (key_length_of b)) (eqb (key_length_of a) (key_length_of b)) (ltb (id_of a) (id_of b)) (eqb (id_of a) (id_of b))
