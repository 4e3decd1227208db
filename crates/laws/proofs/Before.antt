-- What `before` says of two rows: by object, then by key, then by id; and in one list, by the places of their elements.
use mathlib.Core.Path.{◌≡◌, sym, ap, ◌∙◌}
use mathlib.Core.Logic.{◌⊎◌, inl, inr, ⊎_elim}
use mathlib.Core.Bool.{Bool, false, not, ◌&&◌, ◌||◌}
use mathlib.Core.List.{List, [], ◌∷◌}
use Prim.Native.Nat.{ℕ, ◌<◌}
use lib.ListN.{get_or}
use lib.Dec.{T, ltb, eqb, ltb→lt, lt→ltb, eqb→eq}
use Rattle.model.specs.Basic.{place_in, lex_before, same}
use Rattle.model.specs.Row.{Row, id_of, object_of, on_list, element_of}
use Rattle.model.specs.Key.{key_bytes_of}
use Rattle.model.specs.Order.{key_rank, before}
use Rattle.laws.proofs.Tests.{T_and, T-or, is_true, is_false, eq→eqb}
use Rattle.laws.proofs.Members.{words-eq, words-refl}

module _ (es : List ℕ) (a b : Row) where
  by_key : Bool
  by_key = lex_before (key_rank es a) (key_rank es b) || same (key_rank es a) (key_rank es b) && ltb (id_of a) (id_of b)

  -- ── in general
  pub before-out : T (before es a b) → (object_of a < object_of b)
      ⊎ ((object_of a ≡ object_of b) × (T (lex_before (key_rank es a) (key_rank es b)) ⊎ ((key_rank es a ≡ key_rank es b) × (id_of a < id_of b))))
  unfolding before by_key
  before-out t =
      let one = eqb (object_of a) (object_of b) in
      let lex = lex_before (key_rank es a) (key_rank es b) in
      let tie = same (key_rank es a) (key_rank es b) in
      let id = ltb (id_of a) (id_of b) in
      ⊎_elim (λ u. inl (ltb→lt (object_of a) (object_of b) u))
      (λ u.
      let v = (T_and one by_key).0 u in
      inr (eqb→eq (object_of a) (object_of b) v.0, ⊎_elim (λ w. inl w) (λ w. let x = (T_and tie id).0 w in inr (words-eq (key_rank es a) (key_rank es b) x.0, ltb→lt (id_of a) (id_of b) x.1)) ((T-or lex (tie && id)).0 v.1)))
      ((T-or (ltb (object_of a) (object_of b)) (one && by_key)).0 t)

  pub before-object : object_of a < object_of b → T (before es a b)
  unfolding before by_key
  before-object h = (T-or (ltb (object_of a) (object_of b)) (eqb (object_of a) (object_of b) && by_key)).1 (inl (lt→ltb (object_of a) (object_of b) h))

  within : object_of a ≡ object_of b → T by_key → T (before es a b)
  unfolding before by_key
  within e t = (T-or (ltb (object_of a) (object_of b)) (eqb (object_of a) (object_of b) && by_key)).1 (inr ((T_and (eqb (object_of a) (object_of b)) by_key).1 (eq→eqb (object_of a) (object_of b) e, t)))

  pub before-key : object_of a ≡ object_of b → T (lex_before (key_rank es a) (key_rank es b)) → T (before es a b)
  unfolding by_key
  before-key e t = within e ((T-or (lex_before (key_rank es a) (key_rank es b)) (same (key_rank es a) (key_rank es b) && ltb (id_of a) (id_of b))).1 (inl t))

  pub before-id : object_of a ≡ object_of b → key_rank es a ≡ key_rank es b → id_of a < id_of b → T (before es a b)
  unfolding by_key
  before-id e k h =
      let tie = same (key_rank es a) (key_rank es b) in
      let id = ltb (id_of a) (id_of b) in
      within e ((T-or (lex_before (key_rank es a) (key_rank es b)) (tie && id)).1 (inr ((T_and tie id).1 (rw k (words-refl (key_rank es b)), lt→ltb (id_of a) (id_of b) h))))

-- ── in a map
pub map-rank : (es : List ℕ) (a : Row) → T (not (on_list a)) → key_rank es a ≡ key_bytes_of a
unfolding key_rank
map-rank es a t = rw (is_false (on_list a) t)

-- ── in a list
pub list-rank : (es : List ℕ) (a : Row) → T (on_list a) → key_rank es a ≡ place_in es (element_of a) ∷ []
unfolding key_rank
list-rank es a t = rw (is_true (on_list a) t)

lex-one : (x y : ℕ) → T (lex_before (x ∷ []) (y ∷ [])) → x < y
lex-one x y t = ⊎_elim (λ u. ltb→lt x y u) (λ u. absurd ((T_and (eqb x y) false).0 u).1) ((T-or (ltb x y) (eqb x y && false)).0 t)

module _ (es : List ℕ) (a b : Row) (la : T (on_list a)) (lb : T (on_list b)) where
  pub list-out : T (before es a b) → (object_of a < object_of b)
      ⊎ ((object_of a ≡ object_of b) × ((place_in es (element_of a) < place_in es (element_of b)) ⊎ ((place_in es (element_of a) ≡ place_in es (element_of b)) × (id_of a < id_of b))))
  list-out t =
      ⊎_elim (λ h. inl h)
      (λ p. inr (
        p.0,
        ⊎_elim
            (λ u. inl (lex-one (place_in es (element_of a)) (place_in es (element_of b)) (rw (list-rank es a la, list-rank es b lb) at u)))
            (λ q. inr (ap (λ l. get_or l 0 0) (sym (list-rank es a la) ∙ q.0 ∙ list-rank es b lb), q.1)) p.1,
      ))
      (before-out es a b t)

  pub list-place : object_of a ≡ object_of b → place_in es (element_of a) < place_in es (element_of b) → T (before es a b)
  list-place e h =
      let x = place_in es (element_of a) in
      let y = place_in es (element_of b) in
      before-key es a b e (rw (list-rank es a la, list-rank es b lb) ((T-or (ltb x y) (eqb x y && false)).1 (inl (lt→ltb x y h))))
