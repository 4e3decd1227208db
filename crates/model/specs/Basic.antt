-- The few tests and list functions that the rules are written with. Nothing here speaks of documents.
use Rattle.std.specs.Prelude.{ℕ, zero, suc, Bool, true, false, not, ◌&&◌, ◌||◌, List, [], ◌∷◌, ◌++◌, eqb, ltb, take, drop, if◌then◌else◌}

infixr 25 ◌implies◌
abbrev pub ◌implies◌ : Bool → Bool → Bool
a implies b = not a || b

abbrev pub flag : Bool → ℕ
flag b = if b then 1 else 0

module _ {A : Type 0} where
  abbrev pub any : (A → Bool) → List A → Bool
  any p [] = false
  any p (x ∷ xs) = p x || any p xs

  abbrev pub all : (A → Bool) → List A → Bool
  all p [] = true
  all p (x ∷ xs) = p x && all p xs

  abbrev pub filter : (A → Bool) → List A → List A
  filter p [] = []
  filter p (x ∷ xs) = if p x then x ∷ filter p xs else filter p xs

  -- each element stands before the next
  abbrev pub ascends : (A → A → Bool) → List A → Bool
  ascends before [] = true
  ascends before (x ∷ []) = true
  ascends before (x ∷ y ∷ ys) = before x y && ascends before (y ∷ ys)

  -- x goes before the first element that it stands before
  abbrev pub insert : (A → A → Bool) → A → List A → List A
  insert before x [] = x ∷ []
  insert before x (y ∷ ys) = if before x y then x ∷ y ∷ ys else y ∷ insert before x ys

  abbrev pub sort : (A → A → Bool) → List A → List A
  sort before [] = []
  sort before (x ∷ xs) = insert before x (sort before xs)

  -- xs up to and with the last element that passes p
  abbrev pub up_to_last : (A → Bool) → List A → List A
  up_to_last p [] = []
  up_to_last p (x ∷ xs) = if any p (x ∷ xs) then x ∷ up_to_last p xs else []

  abbrev pub concat : List (List A) → List A
  concat [] = []
  concat (xs ∷ xss) = xs ++ concat xss

  -- the first n pieces of w elements each
  abbrev pub pieces : ℕ → ℕ → List A → List (List A)
  pieces w zero xs = []
  pieces w (suc n) xs = take w xs ∷ pieces w n (drop w xs)

module _ {A B : Type 0} where
  abbrev pub concat_map : (A → List B) → List A → List B
  concat_map f [] = []
  concat_map f (x ∷ xs) = f x ++ concat_map f xs

abbrev pub member : ℕ → List ℕ → Bool
member x xs = any (eqb x) xs

abbrev pub distinct : List ℕ → Bool
distinct [] = true
distinct (x ∷ xs) = not (member x xs) && distinct xs

-- each number once, where it comes first
abbrev pub once : List ℕ → List ℕ
once [] = []
once (x ∷ xs) = x ∷ filter (λ y. not (eqb x y)) (once xs)

abbrev pub zeros : List ℕ → Bool
zeros xs = all (eqb 0) xs

abbrev pub same : List ℕ → List ℕ → Bool
same [] [] = true
same [] (y ∷ ys) = false
same (x ∷ xs) [] = false
same (x ∷ xs) (y ∷ ys) = eqb x y && same xs ys

abbrev pub same_all : List (List ℕ) → List (List ℕ) → Bool
same_all [] [] = true
same_all [] (y ∷ ys) = false
same_all (x ∷ xs) [] = false
same_all (x ∷ xs) (y ∷ ys) = same x y && same_all xs ys

-- the order of a dictionary: "a", "ab", "b"
abbrev pub lex_before : List ℕ → List ℕ → Bool
lex_before [] [] = false
lex_before [] (y ∷ ys) = true
lex_before (x ∷ xs) [] = false
lex_before (x ∷ xs) (y ∷ ys) = ltb x y || eqb x y && lex_before xs ys

-- how many elements stand before x
abbrev pub place_in : List ℕ → ℕ → ℕ
place_in [] x = zero
place_in (y ∷ ys) x = if eqb y x then zero else suc (place_in ys x)

-- the last element, 0 where there is none
abbrev pub last : List ℕ → ℕ
last [] = 0
last (x ∷ []) = x
last (x ∷ y ∷ ys) = last (y ∷ ys)
