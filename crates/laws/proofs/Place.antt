-- The place of a number in a list, `place_in`: it tells the members apart, and what a test leaves keeps its order.
use mathlib.Core.Path.{◌≡◌, refl, sym, ap, ◌∙◌}
use mathlib.Core.Bool.{Bool}
use mathlib.Core.List.{List, [], ◌∷◌, ◌++◌}
use Prim.Native.Nat.{ℕ, suc, ◌+◌, ◌<◌}
use native.Mathlib.Omega.{arith}
use lib.ListN.{length}
use lib.Dec.{T, T_not, ltb, leb-suc-suc}
use borrow.Author.Tests.{lt-ltb, le-ltb, eq-eqb, ne_eqb}
use Rattle.model.specs.Basic.{filter, place_in}
use Rattle.laws.proofs.Tests.{by-eq, by-test}
use Rattle.laws.proofs.Members.{Mem, here, there, not-nil, on-mem, filter-yes, filter-no}

pub place_here : (e x : ℕ) (es : List ℕ) → e ≡ x → place_in (e ∷ es) x ≡ 0
place_here e x es q = rw (eq-eqb e x q)

pub place-past : (e x : ℕ) (es : List ℕ) → (e ≡ x → ⊥) → place_in (e ∷ es) x ≡ suc (place_in es x)
place-past e x es ne = rw (ne_eqb e x ne)

-- a member's place is its own
pub place-eq : (es : List ℕ) (x y : ℕ) → Mem x es → place_in es x ≡ place_in es y → x ≡ y
place-eq [] x y m q = absurd (not-nil m)
place-eq (e ∷ es) x y m q =
    by-eq e x
    (λ a. by-eq e y (λ b. sym a ∙ b) (λ b. absurd (omega (arith, q, place_here e x es a, place-past e y es b))))
    (λ a. by-eq e y (λ b. absurd (omega (arith, q, place-past e x es a, place_here e y es b)))
    (λ b. place-eq es x y (on-mem m (λ r. absurd (a (sym r))) (λ n. n)) (omega (arith, q, place-past e x es a, place-past e y es b))))

pub place-bound : (es : List ℕ) (x : ℕ) → Mem x es → place_in es x < length es
place-bound [] x m = absurd (not-nil m)
place-bound (e ∷ es) x m =
    by-eq e x (λ a. omega (arith, place_here e x es a))
    (λ a. omega (arith, place-past e x es a, place-bound es x (on-mem m (λ r. absurd (a (sym r))) (λ n. n))))

-- ── in a list made of two
pub place-append-left : (a b : List ℕ) (x : ℕ) → Mem x a → place_in (a ++ b) x ≡ place_in a x
place-append-left [] b x m = absurd (not-nil m)
place-append-left (e ∷ a) b x m =
    by-eq e x (λ q. place_here e x (a ++ b) q ∙ sym (place_here e x a q))
    (λ q. place-past e x (a ++ b) q ∙ ap suc (place-append-left a b x (on-mem m (λ r. absurd (q (sym r))) (λ n. n))) ∙ sym (place-past e x a q))

pub place-append-right : (a b : List ℕ) (x : ℕ) → (Mem x a → ⊥) → place_in (a ++ b) x ≡ length a + place_in b x
place-append-right [] b x ne = omega arith
place-append-right (e ∷ a) b x ne =
    omega (arith, place-past e x (a ++ b) (λ q. ne (here (sym q))), place-append-right a b x (λ m. ne (there m)))

pub place_at : (a b : List ℕ) (e : ℕ) → (Mem e a → ⊥) → place_in (a ++ e ∷ b) e ≡ length a
place_at a b e ne = omega (arith, place-append-right a (e ∷ b) e ne, place_here e e b refl)

pub place-next : (a b : List ℕ) (e x : ℕ) → (Mem x a → ⊥) → (e ≡ x → ⊥) → place_in (a ++ e ∷ x ∷ b) x ≡ suc (length a)
place-next a b e x ne d = omega (arith, place-append-right a (e ∷ x ∷ b) x ne, place-past e x (x ∷ b) d, place_here x x b refl)

-- ── in what passes a test
place-cons : (e x y : ℕ) (l k : List ℕ) → ltb (place_in l x) (place_in l y) ≡ ltb (place_in k x) (place_in k y)
    → ltb (place_in (e ∷ l) x) (place_in (e ∷ l) y) ≡ ltb (place_in (e ∷ k) x) (place_in (e ∷ k) y)
place-cons e x y l k q =
    by-eq e x
    (λ a. by-eq e y (λ b. rw (eq-eqb e x a, eq-eqb e y b))
    (λ b. rw (eq-eqb e x a, ne_eqb e y b) (lt-ltb 0 (suc (place_in l y)) (omega arith) ∙ sym (lt-ltb 0 (suc (place_in k y)) (omega arith)))))
    (λ a. by-eq e y
    (λ b. rw (ne_eqb e x a, eq-eqb e y b) (le-ltb (suc (place_in l x)) 0 (omega arith) ∙ sym (le-ltb (suc (place_in k x)) 0 (omega arith))))
    (λ b. rw (ne_eqb e x a, ne_eqb e y b) (leb-suc-suc (suc (place_in l x)) (place_in l y) ∙ q ∙ sym (leb-suc-suc (suc (place_in k x)) (place_in k y)))))

pub place-filter : (p : ℕ → Bool) (es : List ℕ) (x y : ℕ) → T (p x) → T (p y) → ltb (place_in (filter p es) x) (place_in (filter p es) y) ≡ ltb (place_in es x) (place_in es y)
place-filter p [] x y t u = refl
place-filter p (e ∷ es) x y t u =
    let ih = place-filter p es x y t u in
    by-test (p e)
    (λ s. rw (filter-yes p e es s) (place-cons e x y (filter p es) es ih))
    (λ s.
    rw (filter-no p e es s, place-past e x es (λ q. T_not (p e) s (rw q t)), place-past e y es (λ q. T_not (p e) s (rw q u)))
    (ih ∙ sym (leb-suc-suc (suc (place_in es x)) (place_in es y))))
