-- Parts of a list: what is dropped of what was taken; and parts and members of a list computed member by member.
use mathlib.Core.Path.{◌≡◌, refl, ap}
use mathlib.Core.List.{List, [], ◌∷◌, map}
use Prim.Native.Nat.{ℕ, zero, suc, ◌+◌, ◌<◌}
use native.Mathlib.Nat.{zero-add, suc-add, not-suc-le-zero, le_of_suc-le-suc}
use native.Mathlib.Numerals.{add-one}
use lib.ListN.{length, get_or, take, drop}
use lib.Seq.{take-nil, drop-nil, drop-cons}

module _ {A : Type 0} where
  -- the next member
  pub drop_here : (l : List A) (i : ℕ) (d : A) → i < length l → drop i l ≡ get_or l i d ∷ drop (i + 1) l
  drop_here l i d h = rw add-one (drop-cons l i d h)

  pub drop-take : (n m : ℕ) (l : List A) → drop n (take (n + m) l) ≡ take m (drop n l)
  drop-take zero m l = rw zero-add
  drop-take (suc n) m [] = rw (take-nil (suc n + m), take-nil m, drop-nil (suc n))
  drop-take (suc n) m (x ∷ l) = rw (suc-add n m) (drop-take n m l)

  module _ {B : Type 0} (f : A → B) where
    pub map-take : (n : ℕ) (l : List A) → map f (take n l) ≡ take n (map f l)
    map-take zero l = refl
    map-take (suc n) [] = refl
    map-take (suc n) (x ∷ l) = ap (λ (k : List B). f x ∷ k) (map-take n l)

    pub map-drop : (n : ℕ) (l : List A) → map f (drop n l) ≡ drop n (map f l)
    map-drop zero l = refl
    map-drop (suc n) [] = refl
    map-drop (suc n) (x ∷ l) = map-drop n l

    -- a member, whatever stands for one that is not there
    pub get_or-map : (l : List A) (i : ℕ) (a : A) (b : B) → i < length l → get_or (map f l) i b ≡ f (get_or l i a)
    get_or-map [] i a b h = absurd (not-suc-le-zero h)
    get_or-map (x ∷ l) zero a b h = refl
    get_or-map (x ∷ l) (suc i) a b h = get_or-map l i a b (le_of_suc-le-suc h)
