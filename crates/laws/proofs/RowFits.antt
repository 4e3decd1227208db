-- What check 4 says of a row, field by field.
use Rattle.std.specs.Prelude.{if◌then◌else◌}
use mathlib.Core.Path.{◌≡◌, subst}
use mathlib.Core.Logic.{◌⊎◌}
use mathlib.Core.Bool.{not, cond, ◌&&◌, ◌||◌}
use mathlib.Core.List.{[], ◌∷◌}
use Prim.Native.Nat.{◌≤◌}
use lib.ListN.{drop}
use lib.Dec.{T, leb, eqb, leb→le, eqb→eq}
use Rattle.model.specs.Basic.{member, zeros}
use Rattle.model.specs.Sizes.{max_key}
use Rattle.model.specs.Id.{is_id, root, head}
use Rattle.model.specs.Kinds.{map_key, list_key, make_map, set, make_list, delete, increment}
use Rattle.model.specs.Row.{Row, id_of, object_of, key_kind_of, on_list, named_of, key_length_of, key_words_of, insert_of, action_of, is_insert, is_delete, is_increment}
use Rattle.model.specs.Key.{key_room_of}
use Rattle.model.specs.Malformed.{list_key_fits, map_key_fits, value_fits, row_fits}
use Rattle.laws.proofs.Tests.{T_and, T-or, is_true, is_false, eq→eqb, ne→neqb}

pub record Fits (r : Row) : Type 0 where
  pub id : T (is_id (id_of r))
  pub object : T (eqb (object_of r) root) ⊎ T (is_id (object_of r))
  pub kind : T (member (key_kind_of r) (map_key ∷ list_key ∷ []))
  pub insert : insert_of r ≤ 1
  pub action : T (member (action_of r) (make_map ∷ set ∷ make_list ∷ delete ∷ increment ∷ []))
  pub key : T (if on_list r then list_key_fits r else map_key_fits r)
  pub value : T (value_fits r)
  pub plain : T (not (is_insert r && (is_delete r || is_increment r)))

pub fits : (r : Row) → T (row_fits r) → Fits r
unfolding row_fits
fits r t8 =
    let c1 = is_id (id_of r) in
    let f2 = eqb (object_of r) root || is_id (object_of r) in
    let f3 = member (key_kind_of r) (map_key ∷ list_key ∷ []) in
    let f4 = leb (insert_of r) 1 in
    let f5 = member (action_of r) (make_map ∷ set ∷ make_list ∷ delete ∷ increment ∷ []) in
    let f6 = if on_list r then list_key_fits r else map_key_fits r in
    let f7 = value_fits r in
    let f8 = not (is_insert r && (is_delete r || is_increment r)) in
    let c2 = c1 && f2 in
    let c3 = c2 && f3 in
    let c4 = c3 && f4 in
    let c5 = c4 && f5 in
    let c6 = c5 && f6 in
    let t7 = (T_and (c6 && f7) f8).0 t8 in
    let t6 = (T_and c6 f7).0 t7.0 in
    let t5 = (T_and c5 f6).0 t6.0 in
    let t4 = (T_and c4 f5).0 t5.0 in
    let t3 = (T_and c3 f4).0 t4.0 in
    let t2 = (T_and c2 f3).0 t3.0 in
    let t1 = (T_and c1 f2).0 t2.0 in
    record {
      id = t1.0;
      object = (T-or (eqb (object_of r) root) (is_id (object_of r))).0 t1.1;
      kind = t2.1;
      insert = leb→le (insert_of r) 1 t3.1;
      action = t4.1;
      key = t5.1;
      value = t6.1;
      plain = t7.1;
    }

-- ── its key
pub record ListKey (r : Row) : Type 0 where
  pub bare : T (zeros (key_length_of r ∷ key_words_of r))
  pub from-head : named_of r ≡ head → T (is_insert r)
  pub from-element : (named_of r ≡ head → ⊥) → T (is_id (named_of r))

pub list-key : (r : Row) → T (row_fits r) → T (on_list r) → ListKey r
unfolding list_key_fits
list-key r t l =
    let whole : T (list_key_fits r) = subst (λ b. T (cond b (list_key_fits r) (map_key_fits r))) (is_true (on_list r) l) (fits r t).key in
    let name = if eqb (named_of r) head then is_insert r else is_id (named_of r) in
    let u = (T_and (zeros (key_length_of r ∷ key_words_of r)) name).0 whole in
    record {
      bare = u.0;
      from-head = λ e. subst (λ b. T (cond b (is_insert r) (is_id (named_of r)))) (is_true (eqb (named_of r) head) (eq→eqb (named_of r) head e)) u.1;
      from-element = λ ne. subst (λ b. T (cond b (is_insert r) (is_id (named_of r)))) (is_false (eqb (named_of r) head) (ne→neqb (named_of r) head ne)) u.1;
    }

pub record MapKey (r : Row) : Type 0 where
  pub no-element : named_of r ≡ 0
  pub short : key_length_of r ≤ max_key
  pub past : T (zeros (drop (key_length_of r) (key_room_of r)))

pub map-key-fits : (r : Row) → T (row_fits r) → T (not (on_list r)) → T (map_key_fits r)
map-key-fits r t l = subst (λ b. T (cond b (list_key_fits r) (map_key_fits r))) (is_false (on_list r) l) (fits r t).key

pub map-key : (r : Row) → T (row_fits r) → T (not (on_list r)) → MapKey r
unfolding map_key_fits
map-key r t l =
    let whole : T (map_key_fits r) = map-key-fits r t l in
    let short = leb (key_length_of r) max_key in
    let past = zeros (drop (key_length_of r) (key_room_of r)) in
    let u = (T_and (eqb (named_of r) 0 && short) past).0 whole in
    let v = (T_and (eqb (named_of r) 0) short).0 u.0 in
    record { no-element = eqb→eq (named_of r) 0 v.0; short = leb→le (key_length_of r) max_key v.1; past = u.1 }
