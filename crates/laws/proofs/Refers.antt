-- What a row refers to: an object and an element with smaller ids, or ROOT and HEAD.
use mathlib.Core.Path.{◌≡◌}
use mathlib.Core.Logic.{◌⊎◌, inl, inr, ⊎_elim}
use mathlib.Core.Bool.{Bool, true, false, not, cond, ◌&&◌, ◌||◌}
use mathlib.Core.List.{List}
use Prim.Native.Nat.{◌<◌}
use lib.Dec.{T, ltb, eqb, ltb→lt, eqb→eq}
use Rattle.model.specs.Basic.{any}
use Rattle.model.specs.Id.{root, head}
use Rattle.model.specs.Row.{Row, id_of, object_of, named_of, on_list, is_insert, is_make_sequence, is_make_map, rows_with}
use Rattle.model.specs.Refusal.{has_make, object_fits, element_fits}
use Rattle.laws.proofs.Tests.{T_and, T-or}
use Rattle.laws.proofs.Members.{Mem, any-from}
use Rattle.laws.proofs.RowWords.{with-from}

-- the object is ROOT, or has a smaller id
pub object-low : (rs : List Row) (r : Row) → T (object_fits rs r) → (object_of r ≡ root) ⊎ (object_of r < id_of r)
unfolding object_fits has_make
object-low rs r = go (on_list r)
  where
    made : (kind : Row → Bool) → T (ltb (object_of r) (id_of r) && any kind (rows_with rs (object_of r))) → object_of r < id_of r
    made kind t = ltb→lt (object_of r) (id_of r) ((T_and (ltb (object_of r) (id_of r)) (any kind (rows_with rs (object_of r)))).0 t).0

    go : (s : Bool) → T (cond s (ltb (object_of r) (id_of r) && any is_make_sequence (rows_with rs (object_of r))) (not (is_insert r) && (eqb (object_of r) root || ltb (object_of r) (id_of r) && any is_make_map (rows_with rs (object_of r)))))
        → (object_of r ≡ root) ⊎ (object_of r < id_of r)
    go true t = inr (made is_make_sequence t)
    go false t =
        let made-map = ltb (object_of r) (id_of r) && any is_make_map (rows_with rs (object_of r)) in
        ⊎_elim (λ u. inl (eqb→eq (object_of r) root u)) (λ u. inr (made is_make_map u)) ((T-or (eqb (object_of r) root) made-map).0 ((T_and (not (is_insert r)) (eqb (object_of r) root || made-map)).0 t).1)

-- the element named is HEAD, or that of an insert row of the same object, with a smaller id
abbrev pub Names : List Row → Row → Type 0
Names rs r = (named_of r ≡ head) ⊎ ((named_of r < id_of r) × ((e : Row) × Mem e rs × T (is_insert e) × (object_of e ≡ object_of r) × (id_of e ≡ named_of r)))

pub names : (rs : List Row) (r : Row) → T (element_fits rs r) → Names rs r
unfolding element_fits
names rs r t =
    let p : Row → Bool = λ e. is_insert e && eqb (object_of e) (object_of r) in
    let found = any p (rows_with rs (named_of r)) in
    ⊎_elim (λ u. inl (eqb→eq (named_of r) head u))
    (λ u.
    let v = (T_and (ltb (named_of r) (id_of r)) found).0 u in
    let q = any-from p (rows_with rs (named_of r)) v.1 in
    let w = with-from rs (named_of r) q.1 in
    let x = (T_and (is_insert q.0) (eqb (object_of q.0) (object_of r))).0 q.2 in
    inr (ltb→lt (named_of r) (id_of r) v.0, (q.0, w.0, x.0, eqb→eq (object_of q.0) (object_of r) x.1, w.1)))
    ((T-or (eqb (named_of r) head) (ltb (named_of r) (id_of r) && found)).0 t)
