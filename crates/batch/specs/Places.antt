-- New pieces and the places that they are put at.
use Rattle.std.specs.Prelude.{ℕ, ◌+◌, ◌*◌, ◌≤◌, ◌<◌, ◌≡◌, List, map, length, get_or}
use Rattle.batch.specs.Parts.{part}

-- the pieces with these numbers: w words each, one every `stride` words of src
unfoldable pub picked : ℕ → ℕ → List ℕ → List ℕ → List (List ℕ)
picked w stride src order = map (λ x. part w src (x * stride)) order

-- no place is above a later one
pub record Rising (ps : List ℕ) : Type 0 where
  pub rises : (i j : ℕ) → i ≤ j → j < length ps → get_or ps i 0 ≤ get_or ps j 0

-- what is asked of the numbers and the places: as many of the one as of the other, pieces that are there, places among n old ones
pub record Asked (w n stride : ℕ) (src order places : List ℕ) : Type 0 where
  pub wide : 0 < w
  pub pairs : length places ≡ length order
  pub known : (i : ℕ) → i < length order → get_or order i 0 * stride + w ≤ length src
  pub most : (i : ℕ) → i < length places → get_or places i 0 ≤ n
  pub rising : Rising places
