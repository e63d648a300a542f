-- Rows of tiles of a picture that are drawn ahead.
use Rattle.std.specs.Prelude.{◌≡◌, ℕ, ◌+◌, ◌*◌, ◌≤◌, List, length, Bool, true, Option}
use Rattle.dp_blend.specs.Color.{Channels}
use Rattle.dp_pixels.specs.Tiles.{tiles_along}
use Rattle.dp_plain.specs.Board.{Board}
use Rattle.dp_flat.specs.Bands.{IsBand}
use Rattle.dp_flat.specs.Composed.{IsDeep}

-- memory for a row of tiles of a picture, and whether it is drawn there
pub record DrawnBand : Type 0 where
  pub row : ℕ
  pub drawn : Bool
  pub colors : List (Option (List ℕ))
  pub bytes : List (List ℕ)

-- there is room for a row of tiles, going down into groups so deep, and it is drawn there if
-- `drawn` says so
pub record HasBand (board : Board) (depth row : ℕ) (drawn : Bool) (memory : List Channels)
    (colors : List (Option (List ℕ))) (bytes : List (List ℕ)) : Type 0 where
  pub some : 1 ≤ depth
  pub few : depth ≤ 16
  pub deep : IsDeep board depth
  pub room : length memory ≡ 4096 * (depth + 1)
  pub cols : length colors ≡ tiles_along board.width
  pub long : length bytes ≡ 4096 * tiles_along board.width
  pub band : drawn ≡ true → IsBand board row colors bytes
