-- The checks of a batch (01, "What comes back", 3 to 9).
use Rattle.std.specs.Prelude.{ℕ, Bool, not, ◌&&◌, ◌||◌, List, ◌++◌, map, ltb, eqb, length, if◌then◌else◌}
use Rattle.model.specs.Basic.{any, all, member}
use Rattle.model.specs.Sizes.{max_rows, max_succs, max_batch}
use Rattle.model.specs.Id.{root, head}
use Rattle.model.specs.Row.{Row, Op, id_of, object_of, on_list, named_of, is_insert, is_make_map, is_make_sequence, is_set_or_make, preds_of, succ_of, rows_with}
use Rattle.model.specs.Key.{same_key}
use Rattle.model.specs.Document.{Document, all_rows, all_succs}
use Rattle.model.specs.Answer.{Answer, ◌otherwise◌, refuse, refuse_op}
use Rattle.model.specs.Malformed.{row_fits, preds_fit}

-- 5: "id also earlier in the batch, or in the document as row or successor"
unfoldable pub id_taken : Document → List Op → Op → Bool
id_taken d earlier o = member (id_of o) (map id_of earlier ++ map id_of d.rows ++ map succ_of d.succs)

-- 6: "the object isn't ROOT and no Make row has its id, smaller than the op's; or its kind doesn't fit key and insert flag".
-- ROOT is a map; a map key takes no insert flag.
unfoldable pub has_make : (Row → Bool) → List Row → Row → Bool
has_make kind rs r = ltb (object_of r) (id_of r) && any kind (rows_with rs (object_of r))

unfoldable pub object_fits : List Row → Row → Bool
object_fits rs r =
    if on_list r
    then has_make is_make_sequence rs r
    else not (is_insert r) && (eqb (object_of r) root || has_make is_make_map rs r)

-- 7: "the element named isn't HEAD and isn't an insert row of that object with a smaller id"
unfoldable pub element_fits : List Row → Row → Bool
element_fits rs r =
    eqb (named_of r) head
    || ltb (named_of r) (id_of r) && any (λ e. is_insert e && eqb (object_of e) (object_of r)) (rows_with rs (named_of r))

-- 8: "a predecessor isn't a Set or Make row of the same object and key with a smaller id"
unfoldable pub pred_fits : List Row → Op → ℕ → Bool
pred_fits rs o p = ltb p (id_of o) && any (λ r. is_set_or_make r && same_key r o) (rows_with rs p)

unfoldable pub preds_exist : List Row → Op → Bool
preds_exist rs o = all (pred_fits rs o) (preds_of o)

-- 9: "rows would pass 4,096 or successors 8,192"
unfoldable pub too_many : Document → List Op → Bool
too_many d b = ltb max_rows (length (all_rows d b)) || ltb max_succs (length (all_succs d b))

-- "Rows for 6 to 8 are those of document and batch together. The smallest number over the whole batch is given, then the first op with it"
unfoldable pub batch_refusal : Document → List Op → Answer
batch_refusal d b =
    refuse 3 (ltb max_batch (length b))
    otherwise refuse_op 4 (λ earlier o. not (row_fits o && preds_fit o)) b
    otherwise refuse_op 5 (id_taken d) b
    otherwise refuse_op 6 (λ earlier o. not (object_fits (all_rows d b) o)) b
    otherwise refuse_op 7 (λ earlier o. not (element_fits (all_rows d b) o)) b
    otherwise refuse_op 8 (λ earlier o. not (preds_exist (all_rows d b) o)) b
    otherwise refuse 9 (too_many d b)
