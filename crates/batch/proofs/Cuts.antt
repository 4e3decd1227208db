-- A list in which objects ascend, cut where an object begins: what is from a bound on is what is between it and a later bound, and the rest.
--     cut_at        so it is cut
--     cut_in        the objects of what is between
--     rest_in       the objects of what is from a bound on
use mathlib.Core.Path.{◌≡◌, sym, ap, subst, ◌∙◌}
use mathlib.Core.Bool.{Bool, not, ◌&&◌}
use mathlib.Core.List.{List, [], ◌∷◌, ◌++◌, map}
use Prim.Native.Nat.{ℕ, ◌+◌, ◌-◌, ◌≤◌, ◌<◌}
use native.Mathlib.Omega.{arith}
use lib.Dec.{not_T, ltb, ltb→lt, nltb→le}
use lib.ListN.{length, take, drop, take-append-drop}
use lib.Seq.{drop-drop}
use Rattle.model.specs.Basic.{filter}
use Rattle.model.specs.Row.{Row, object_of}
use Rattle.laws.proofs.Tests.{T_and, by_order}
use Rattle.laws.proofs.Members.{Mem, not-nil, All, on-mem, mem-map, filter_passes, filter_none}
use Rattle.batch.specs.Places.{Rising}
use Rattle.batch.specs.Walk.{lower}
use Rattle.batch.specs.Groups.{below, between}
use Rattle.batch.proofs.Rising.{rising-rest, rising-first}
use Rattle.batch.proofs.Between.{below-grows, lower-none, lower-more, cut-between}

-- ── a cut
pub below-zero : (l : List Row) → below 0 l ≡ 0
unfolding below lower
below-zero l = ap length (filter_none (λ t. ltb t 0) (map object_of l) (λ x m. not_T (ltb x 0) (λ t. omega (arith, ltb→lt x 0 t))))

pub cut_at : (b w : ℕ) (l : List Row) → b ≤ w → drop (below b l) l ≡ between b w l ++ drop (below w l) l
unfolding between
cut_at b w l h =
    let n : ℕ = below w l - below b l in
    let e : below b l + n ≡ below w l = omega (arith, below-grows b w l h) in
    sym (take-append-drop n (drop (below b l) l)) ∙ ap (λ (k : List Row). take n (drop (below b l) l) ++ k) (drop-drop n (below b l) l ∙ ap (λ (i : ℕ). drop i l) e)

pub cut_in : (b w : ℕ) (l : List Row) → b ≤ w → Rising (map object_of l) → All (λ r. (b ≤ object_of r) × (object_of r < w)) (between b w l)
unfolding between below
cut_in b w l h u r m =
    let p : Row → Bool = λ r. not (ltb (object_of r) b) && ltb (object_of r) w in
    let k : Mem r (filter p l) = subst (λ (x : List Row). Mem r x) (cut-between object_of b w h l u) m in
    let t = (T_and (not (ltb (object_of r) b)) (ltb (object_of r) w)).0 (filter_passes p l k) in
    (nltb→le (object_of r) b t.0, ltb→lt (object_of r) w t.1)

pub rest_in : (b : ℕ) (l : List Row) → Rising (map object_of l) → All (λ r. b ≤ object_of r) (drop (below b l) l)
unfolding below lower
rest_in b [] u = λ r m. absurd (not-nil m)
rest_in b (x ∷ l) u =
    let P : List Row → Type 0 = λ k. All (λ r. b ≤ object_of r) k in
    by_order (object_of x) b
    (λ h. subst (λ (n : ℕ). P (drop n (x ∷ l))) (sym (lower-more b (object_of x) (map object_of l) h)) (rest_in b l (rising-rest u)))
    (λ h. subst (λ (n : ℕ). P (drop n (x ∷ l))) (sym (lower-none b (object_of x) (map object_of l) u h))
    (λ r m. on-mem m (λ e. rw e h) (λ n. omega (arith, rising-first u (object_of r) (mem-map object_of n)))))
