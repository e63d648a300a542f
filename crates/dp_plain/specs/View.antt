-- What is read of a board.
use Rattle.std.specs.Prelude.{ℕ, ◌&&◌, nat_lt, if◌then◌else◌, Option, None}
use Rattle.std.specs.Prelude.{option_map}
use Rattle.dp_blend.specs.Color.{Channels}
use Rattle.dp_blend.specs.Canvas.{pixel_at}
use Rattle.dp_layers.specs.Rows.{content_of}
use Rattle.dp_plain.specs.Board.{Board}

-- The pixel of the paint layer of the id at a place of the canvas. It is None if no paint layer has
-- the id or the place is outside.
abbrev pub pixel_in : Board → ℕ → ℕ → ℕ → Option Channels
pixel_in board id x y =
    if nat_lt x board.width && nat_lt y board.height
    then option_map (λ pixels. pixel_at board.width pixels x y) (content_of board.rows id)
    else None
