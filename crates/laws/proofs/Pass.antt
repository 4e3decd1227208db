-- Rows that pass: each may stand behind the one before, the first may begin, and each list's inserts stand behind their references. This can be put
-- together and taken apart where objects part, and it is what standing in order means.
use Rattle.std.specs.Prelude.{if◌then◌else◌}
use mathlib.Core.Path.{◌≡◌, refl, sym, subst}
use mathlib.Core.Logic.{◌⊎◌, inl, inr, ⊎_elim, ◌↔◌}
use mathlib.Core.Bool.{◌&&◌}
use mathlib.Core.List.{List, [], ◌∷◌, ◌++◌, append-nil}
use Prim.Native.Nat.{ℕ, ◌<◌}
use native.Mathlib.Omega.{arith}
use lib.Dec.{T, ltb, eqb, lt→ltb}
use Rattle.model.specs.Basic.{ascends}
use Rattle.model.specs.Row.{Row, object_of, on_list}
use Rattle.model.specs.Order.{order}
use Rattle.laws.proofs.Tests.{T_and, T-or, by-eq}
use Rattle.laws.proofs.Members.{Mem, here, there}
use Rattle.laws.proofs.Nearest.{Ins, nearest}
use Rattle.laws.proofs.Elements.{ins_of, ins-from}
use Rattle.laws.proofs.SubDocument.{Placed}
use Rattle.laws.proofs.ListOrder.{ins-append}
use Rattle.laws.proofs.Passes.{map_next, list_next, begins, adjacent, first_begins, lists-are, adjacent-out, rising, ins-none}
use Rattle.laws.proofs.OrderPass.{order-pass}

pub record Pass (rs : List Row) : Type 0 where
  pub first : T (first_begins rs)
  pub next : T (ascends adjacent rs)
  pub near : (o : ℕ) → T (nearest [] (ins_of rs o))

-- ── it is the order
pub pass-order : (rs : List Row) → Placed rs → Pass rs ↔ (order rs ≡ rs)
pass-order rs p = (
  λ s. (order-pass rs p).0 (s.first, s.next, (lists-are 0 [] rs (λ r m. omega arith) (rising rs s.next)).1 (s.near 0, λ q h. s.near q)),
  λ e.
      let t = (order-pass rs p).1 e in
      let l = (lists-are 0 [] rs (λ r m. omega arith) (rising rs t.1)).0 t.2 in
      record { first = t.0; next = t.1; near = λ o. by-eq o 0 (λ z. subst (λ q. T (nearest [] (ins_of rs q))) (sym z) l.0) (λ ne. l.1 o (omega arith)) },
)

-- ── where objects part
abbrev pub Below : List Row → List Row → Type 0
Below a b = (x y : Row) → Mem x a → Mem y b → object_of x < object_of y

-- the inserts of one list stand on one side
one_side : (a b : List Row) → Below a b → (o : ℕ) → (ins_of a o ≡ []) ⊎ (ins_of b o ≡ [])
one_side a b s o = go (ins_of a o) refl
  where
    go : (k : List Ins) → ins_of a o ≡ k → (ins_of a o ≡ []) ⊎ (ins_of b o ≡ [])
    go [] e = inl e
    go (x ∷ k) e =
        let w = ins-from a o {x = x} (subst (λ l. Mem x l) (sym e) (here refl)) in
        inr (ins-none b o (λ r m t g. omega (arith, s w.0 r w.1 m, w.3, g)))

ascends_join : (a b : List Row) → Below a b → T (ascends adjacent a) → T (first_begins b) → T (ascends adjacent b) → T (ascends adjacent (a ++ b))
ascends_join [] b s t f u = u
ascends_join (x ∷ []) [] s t f u = tt
ascends_join (x ∷ []) (y ∷ b) s t f u =
    (T_and (adjacent x y) (ascends adjacent (y ∷ b))).1 (parts x y (s x y (here refl) (here refl)) f, u)
  where
    parts : (x y : Row) → object_of x < object_of y → T (begins y) → T (adjacent x y)
    parts x y h f = unfold adjacent in
        (T-or (ltb (object_of x) (object_of y) && begins y) (eqb (object_of x) (object_of y) && (if on_list y then list_next x y else map_next x y))).1
        (inl ((T_and (ltb (object_of x) (object_of y)) (begins y)).1 (lt→ltb (object_of x) (object_of y) h, f)))
ascends_join (x ∷ z ∷ a) b s t f u =
    let v = (T_and (adjacent x z) (ascends adjacent (z ∷ a))).0 t in
    (T_and (adjacent x z) (ascends adjacent ((z ∷ a) ++ b))).1 (v.0, ascends_join (z ∷ a) b (λ p q m n. s p q (there m) n) v.1 f u)

pub pass-append : (a b : List Row) → Below a b → Pass a → Pass b → Pass (a ++ b)
pass-append a b s p q =
    record {
      first = begin a p.first;
      next = ascends_join a b s p.next q.first q.next;
      near = λ o. subst (λ l. T (nearest [] l)) (sym (ins-append a b o))
          (⊎_elim (λ e. subst (λ l. T (nearest [] (l ++ ins_of b o))) (sym e) (q.near o))
          (λ e. subst (λ l. T (nearest [] (ins_of a o ++ l))) (sym e) (subst (λ l. T (nearest [] l)) (sym (append-nil (ins_of a o))) (p.near o))) (one_side a b s o));
    }
  where
    begin : (k : List Row) → T (first_begins k) → T (first_begins (k ++ b))
    begin [] t = q.first
    begin (x ∷ k) t = t

-- and taken apart
ascends_front : (a b : List Row) → T (ascends adjacent (a ++ b)) → T (ascends adjacent a)
ascends_front [] b t = tt
ascends_front (x ∷ []) b t = tt
ascends_front (x ∷ z ∷ a) b t =
    let v = (T_and (adjacent x z) (ascends adjacent ((z ∷ a) ++ b))).0 t in
    (T_and (adjacent x z) (ascends adjacent (z ∷ a))).1 (v.0, ascends_front (z ∷ a) b v.1)

ascends_back : (x : Row) (a b : List Row) → Below (x ∷ a) b → T (ascends adjacent ((x ∷ a) ++ b)) → T (first_begins b) × T (ascends adjacent b)
ascends_back x [] [] s t = (tt, tt)
ascends_back x [] (y ∷ b) s t =
    let v = (T_and (adjacent x y) (ascends adjacent (y ∷ b))).0 t in
    let h = s x y (here refl) (here refl) in
    (⊎_elim (λ w. w.1) (λ w. absurd (omega (arith, w.0))) (adjacent-out x y v.0), v.1)
ascends_back x (z ∷ a) b s t =
    ascends_back z a b (λ p q m n. s p q (there m) n) ((T_and (adjacent x z) (ascends adjacent ((z ∷ a) ++ b))).0 t).1

pub pass-parts : (a b : List Row) → Below a b → Pass (a ++ b) → Pass a × Pass b
pass-parts a b s p = (
  record {
    first = begin a p.first;
    next = ascends_front a b p.next;
    near = λ o. ⊎_elim (λ e. subst (λ l. T (nearest [] l)) (sym e) tt)
        (λ e. subst (λ l. T (nearest [] l)) (append-nil (ins_of a o)) (subst (λ l. T (nearest [] (ins_of a o ++ l))) e (joined o))) (one_side a b s o);
  },
  record {
    first = (back a p.first p.next s).0;
    next = (back a p.first p.next s).1;
    near = λ o. ⊎_elim (λ e. subst (λ l. T (nearest [] (l ++ ins_of b o))) e (joined o)) (λ e. subst (λ l. T (nearest [] l)) (sym e) tt) (one_side a b s o);
  },
)
  where
    joined : (o : ℕ) → T (nearest [] (ins_of a o ++ ins_of b o))
    joined o = subst (λ l. T (nearest [] l)) (ins-append a b o) (p.near o)

    begin : (k : List Row) → T (first_begins (k ++ b)) → T (first_begins k)
    begin [] t = tt
    begin (x ∷ k) t = t

    back : (k : List Row) → T (first_begins (k ++ b)) → T (ascends adjacent (k ++ b)) → Below k b → T (first_begins b) × T (ascends adjacent b)
    back [] f t s = (f, t)
    back (x ∷ k) f t s = ascends_back x k b s t
