-- The board that commands are drawn on: a canvas with its background and the rows of its layers,
-- each paint row with its pixels.
use Rattle.std.specs.Prelude.{◌≡◌, ◌↔◌, ℕ, ◌*◌, ◌≤◌, List, [], length, All}
use Rattle.std.specs.Option.{ForSome}
use Rattle.dp_blend.specs.Color.{Channels, IsPixel}
use Rattle.dp_layers.specs.Rows.{Row}
use Rattle.dp_layers.specs.Tree.{IsTree}

-- The sides in pixels, the background as an ARGB number, and the rows, the bottom one first. A
-- paint row holds its pixels, row by row from the top, each from the left; a group holds none.
pub record Board : Type 0 where
  pub width : ℕ
  pub height : ℕ
  pub background : ℕ
  pub rows : List (Row (List Channels))

-- the board before anything is drawn
abbrev pub empty_board : Board
empty_board = record { width = 0; height = 0; background = 0; rows = [] }

-- the row has a pixel for each place of a canvas of this width and height, if it is a paint row
abbrev pub Covers : ℕ → ℕ → Row (List Channels) → Type 0
Covers width height row = ForSome row.content (λ pixels. length pixels ≡ width * height)

-- Both sides are 0, or both are from 1 to 4096 pixels. The rows are a tree of layers, and each
-- paint row covers the canvas.
pub record IsBoard (board : Board) : Type 0 where
  pub width : board.width ≤ 4096
  pub height : board.height ≤ 4096
  pub both : (board.width ≡ 0) ↔ (board.height ≡ 0)
  pub tree : IsTree board.rows
  pub each : All (Covers board.width board.height) board.rows

-- each paint row holds pixels: no channel is above alpha, and alpha is at most one
abbrev pub HasPixels : Board → Type 0
HasPixels board = All (λ row. ForSome row.content (All IsPixel)) board.rows
