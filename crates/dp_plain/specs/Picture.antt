-- The picture of a board, and its texts.
use Rattle.std.specs.Prelude.{ℕ, zero, suc, Bool, not, ◌&&◌, ◌==◌, if◌then◌else◌, unwrap_or}
use Rattle.std.specs.Prelude.{List, [], ◌++◌, codes, decimal}
use Rattle.std.specs.List.{filter, flat_map, fold}
use Rattle.dp_blend.specs.Color.{Channels, clear, white, from8, to8, fade, of_argb}
use Rattle.dp_blend.specs.Blending.{blend, mode_numbered}
use Rattle.dp_blend.specs.Canvas.{canvas_of, pixel_at}
use Rattle.dp_blend.specs.White.{rgb}
use Rattle.dp_blend.specs.declared.modes.Mode.{Mode}
use Rattle.dp_blend.specs.declared.modes.Mode.TheVariants.{Normal}
use Rattle.dp_layers.specs.declared.row.LayerRow.{LayerRow}
use Rattle.dp_layers.specs.Layers.{nesting_limit}
use Rattle.dp_layers.specs.Rows.{layers_of, content_of}
use Rattle.dp_plain.specs.Board.{Board}

-- the row's blend mode
abbrev pub mode_of : LayerRow → Mode
mode_of row = unwrap_or (mode_numbered row.mode) Normal

-- the row stands in the parent, and isn't hidden
abbrev pub is_seen_in : ℕ → LayerRow → Bool
is_seen_in parent row = row.parent == parent && not row.hidden

-- what the row shows is faded by its opacity, and blended by its mode on what is under it
abbrev pub laid : LayerRow → Channels → Channels → Channels
laid row shown under = blend (mode_of row) (fade shown (from8 row.opacity)) under

-- The rows of a parent that aren't hidden, the bottom one first, each laid on what stands so far,
-- from the pixel start. A paint row shows its pixel, and a group what its own rows make from clear;
-- groups are gone down into so deep.
unfoldable pub compose : ℕ → (LayerRow → Channels) → List LayerRow → ℕ → Channels → Channels
compose zero pixel_of rows parent start = start
compose (suc depth) pixel_of rows parent start =
    fold (λ under row.
    laid row (if row.group then compose depth pixel_of rows row.id clear else pixel_of row) under)
    start (filter (is_seen_in parent) rows)

-- the pixels of the paint row of the id, none of a group
abbrev pub pixels_of : Board → ℕ → List Channels
pixels_of board id = unwrap_or (content_of board.rows id) []

-- the row's pixel at a place
abbrev pub row_pixel : Board → ℕ → ℕ → LayerRow → Channels
row_pixel board x y row = pixel_at board.width (pixels_of board row.id) x y

-- what is seen at a place: the rows of the root, composed on the background, and that on white
abbrev pub seen : Board → ℕ → ℕ → Channels
seen board x y =
    let root = of_argb board.background in
    blend Normal (compose nesting_limit (row_pixel board x y) (layers_of board.rows) 0 root) white

-- the picture, row by row
abbrev pub picture : Board → List Channels
picture board = canvas_of board.width board.height (seen board)

-- the head of a picture's text: its format's name, its sides, and its greatest value
abbrev pub head : List ℕ → ℕ → ℕ → List ℕ
head format width height =
    format ++ decimal width ++ codes " " ++ decimal height ++ codes "\n255\n"

-- the text of the picture in a format, in which a pixel has this text: the head and the pixels
abbrev pub picture_text : List ℕ → (Channels → List ℕ) → Board → List ℕ
picture_text format pixel_text board =
    head format board.width board.height ++ flat_map pixel_text (picture board)

-- the line of a pixel: red, green and blue in decimal, separated by a space
abbrev pub rgb_line : Channels → List ℕ
rgb_line p =
    decimal (to8 p.r) ++ codes " " ++ decimal (to8 p.g) ++ codes " " ++ decimal (to8 p.b)
    ++ codes "\n"

-- the picture as a P6 file: three bytes a pixel
abbrev pub p6 : Board → List ℕ
p6 = picture_text (codes "P6\n") rgb

-- the picture as a P3 file: a line a pixel
abbrev pub p3 : Board → List ℕ
p3 = picture_text (codes "P3\n") rgb_line
