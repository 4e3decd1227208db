-- Checks 6, 7 and 8 of an operation ask of the rows only what it refers to, and only gain by more rows.
use mathlib.Core.Path.{refl}
use mathlib.Core.Logic.{⊎_elim, inl, inr}
use mathlib.Core.Bool.{Bool, true, false, not, cond, ◌&&◌, ◌||◌}
use mathlib.Core.List.{List, ◌∷◌}
use Prim.Native.Nat.{ℕ}
use lib.Dec.{T, ltb, eqb}
use Rattle.model.specs.Basic.{any}
use Rattle.model.specs.Id.{root, head}
use Rattle.model.specs.Row.{Row, Op, id_of, object_of, on_list, named_of, is_insert, is_make_map, is_make_sequence, is_set_or_make, preds_of, rows_with}
use Rattle.model.specs.Key.{same_key}
use Rattle.model.specs.Refusal.{has_make, object_fits, element_fits, pred_fits, preds_exist}
use Rattle.laws.proofs.Tests.{T_and, T-or}
use Rattle.laws.proofs.Members.{Mem, here, there, any-from, any-in, all_from, all_in}
use Rattle.laws.proofs.RowWords.{with-from, with_in}

-- what an operation names: its object, its element, its predecessors
abbrev pub named : Op → List ℕ
named o = object_of o ∷ named_of o ∷ preds_of o

-- what is found in rs at an id that o names is found in rs' too
abbrev pub Finds : List Row → List Row → Op → Type 0
Finds rs rs' o = (p : Row → Bool) (i : ℕ) → Mem i (named o) → T (any p (rows_with rs i)) → T (any p (rows_with rs' i))

module _ (rs rs' : List Row) (o : Op) (finds : Finds rs rs' o) where
  make-kept : (kind : Row → Bool) → T (has_make kind rs o) → T (has_make kind rs' o)
  unfolding has_make
  make-kept kind t =
      let u = (T_and (ltb (object_of o) (id_of o)) (any kind (rows_with rs (object_of o)))).0 t in
      (T_and (ltb (object_of o) (id_of o)) (any kind (rows_with rs' (object_of o)))).1 (u.0, finds kind (object_of o) (here refl) u.1)

  pub object-kept : T (object_fits rs o) → T (object_fits rs' o)
  unfolding object_fits
  object-kept = go (on_list o)
    where
      in_map : List Row → Bool
      in_map l = eqb (object_of o) root || has_make is_make_map l o

      go : (s : Bool) → T (cond s (has_make is_make_sequence rs o) (not (is_insert o) && in_map rs)) → T (cond s (has_make is_make_sequence rs' o) (not (is_insert o) && in_map rs'))
      go true t = make-kept is_make_sequence t
      go false t =
          let u = (T_and (not (is_insert o)) (in_map rs)).0 t in
          (T_and (not (is_insert o)) (in_map rs')).1 (
            u.0,
            (T-or (eqb (object_of o) root) (has_make is_make_map rs' o)).1
                (⊎_elim (λ v. inl v) (λ v. inr (make-kept is_make_map v)) ((T-or (eqb (object_of o) root) (has_make is_make_map rs o)).0 u.1)),
          )

  pub element-kept : T (element_fits rs o) → T (element_fits rs' o)
  unfolding element_fits
  element-kept t =
      let p : Row → Bool = λ e. is_insert e && eqb (object_of e) (object_of o) in
      let low = ltb (named_of o) (id_of o) in
      let found : List Row → Bool = λ l. any p (rows_with l (named_of o)) in
      (T-or (eqb (named_of o) head) (low && found rs')).1
      (⊎_elim (λ u. inl u)
      (λ u. let v = (T_and low (found rs)).0 u in inr ((T_and low (found rs')).1 (v.0, finds p (named_of o) (there (here refl)) v.1)))
      ((T-or (eqb (named_of o) head) (low && found rs)).0 t))

  pub preds-kept : T (preds_exist rs o) → T (preds_exist rs' o)
  unfolding preds_exist pred_fits
  preds-kept t =
      let q : Row → Bool = λ r. is_set_or_make r && same_key r o in
      let p : List Row → ℕ → Bool = λ l i. ltb i (id_of o) && any q (rows_with l i) in
      all_in (p rs') (preds_of o)
      (λ i m.
      let u = (T_and (ltb i (id_of o)) (any q (rows_with rs i))).0 (all_from (p rs) (preds_of o) t i m) in
      (T_and (ltb i (id_of o)) (any q (rows_with rs' i))).1 (u.0, finds q i (there (there m)) u.1))

-- more rows find no less
module _ (rs rs' : List Row) (more : (r : Row) → Mem r rs → Mem r rs') where
  more-finds : (o : Op) → Finds rs rs' o
  more-finds o p i m t =
      let r = any-from p (rows_with rs i) t in
      let w = with-from rs i r.1 in
      any-in p (rows_with rs' i) (with_in rs' i (more r.0 w.0) w.1) r.2

  pub object-grows : (o : Op) → T (object_fits rs o) → T (object_fits rs' o)
  object-grows o = object-kept rs rs' o (more-finds o)

  pub element-grows : (o : Op) → T (element_fits rs o) → T (element_fits rs' o)
  element-grows o = element-kept rs rs' o (more-finds o)

  pub preds-grow : (o : Op) → T (preds_exist rs o) → T (preds_exist rs' o)
  preds-grow o = preds-kept rs rs' o (more-finds o)
