-- A tile of the canvas while its layers are composed.
use Rattle.std.specs.Prelude.{◌≡◌, ℕ, ◌*◌, ◌<◌, if◌then◌else◌, List, drop, map}
use Rattle.std.specs.List.{filter, fold}
use Rattle.dp_blend.specs.Canvas.{below}
use Rattle.dp_blend.specs.Color.{Channels, clear}
use Rattle.dp_layers.specs.declared.row.LayerRow.{LayerRow}
use Rattle.dp_layers.specs.Layers.{nesting_limit}
use Rattle.dp_layers.specs.Rows.{layers_of}
use Rattle.dp_pixels.specs.Tiles.{tile_x, tile_y}
use Rattle.dp_plain.specs.Board.{Board}
use Rattle.dp_plain.specs.Picture.{compose, is_seen_in, laid, row_pixel, seen}
use Rattle.dp_flat.specs.declared.tone.TileAt.{TileAt}
use Rattle.dp_flat.specs.declared.tone.Tone.{Tone}
use Rattle.dp_flat.specs.Tones.{tone_at}

-- the tile has a place on the board
pub record IsOnBoard (board : Board) (tile : TileAt) : Type 0 where
  pub across : tile.col * 64 < board.width
  pub down : tile.row * 64 < board.height

-- the k-th pixel of the tile is on the board
pub record IsPlace (board : Board) (tile : TileAt) (k : ℕ) : Type 0 where
  pub count : k < 4096
  pub across : tile_x tile.col k < board.width
  pub down : tile_y tile.row k < board.height

-- what a row of the list shows at a place: its pixel, or what its own rows make from clear, going
-- down into groups so deep
abbrev pub shown : Board → ℕ → LayerRow → ℕ → ℕ → Channels
shown board depth row x y =
    if row.group
    then compose depth (row_pixel board x y) (layers_of board.rows) row.id clear
    else row_pixel board x y row

-- the pixel after one more row of the list was laid on it
abbrev pub laid_on : Board → ℕ → ℕ → ℕ → Channels → LayerRow → Channels
laid_on board depth x y under row = laid row (shown board depth row x y) under

-- the pixel after those of these rows that are seen in the parent
abbrev pub composed_by : Board → ℕ → ℕ → List LayerRow → ℕ → ℕ → Channels → Channels
composed_by board depth parent rows x y start = fold (laid_on board depth x y) start
    (filter (is_seen_in parent) rows)

-- going down into groups so deep is deep enough for the picture
abbrev pub IsDeep : Board → ℕ → Type 0
IsDeep board depth =
    (x y : ℕ) (start : Channels)
    → compose depth (row_pixel board x y) (layers_of board.rows) 0 start
    ≡ compose nesting_limit (row_pixel board x y) (layers_of board.rows) 0 start

-- in the tile the rows of the parent were laid on one colour, going down into groups so deep
abbrev pub IsComposed : Board → ℕ → ℕ → TileAt → Channels → Tone → List Channels → Type 0
IsComposed board depth parent tile start tone buffer =
    (k : ℕ) → IsPlace board tile k → tone_at tone buffer k
    ≡ compose depth (row_pixel board (tile_x tile.col k) (tile_y tile.row k))
    (layers_of board.rows) parent start

-- in the tile the row hides what it is laid on
abbrev pub HidesBelow : Board → LayerRow → TileAt → Type 0
HidesBelow board row tile =
    (depth k : ℕ) (under other : Channels) → IsPlace board tile k →
    laid_on board depth (tile_x tile.col k) (tile_y tile.row k) under row
    ≡ laid_on board depth (tile_x tile.col k) (tile_y tile.row k) other row

-- in the tile the rows of the list from this place on give what all rows give
abbrev pub IsEnough : Board → ℕ → TileAt → ℕ → Type 0
IsEnough board parent tile first =
    (depth k : ℕ) (start : Channels) → IsPlace board tile k →
    composed_by board depth parent (drop first (layers_of board.rows)) (tile_x tile.col k)
    (tile_y tile.row k) start
    ≡ composed_by board depth parent (layers_of board.rows) (tile_x tile.col k)
    (tile_y tile.row k) start

-- the first pixels of the row y of the picture
abbrev pub seen_first : Board → ℕ → ℕ → List Channels
seen_first board y count = map (λ x. seen board x y) (below count)

-- the row y of the picture
abbrev pub seen_row : Board → ℕ → List Channels
seen_row board y = seen_first board y board.width
