-- A row of tiles of the picture as bytes, and the text of these.
use Rattle.std.specs.Prelude.{◌≡◌, ℕ, ◌+◌, ◌*◌, ◌/◌, ◌<◌, List, [], ◌∷◌, ◌++◌, length, replicate}
use Rattle.std.specs.Prelude.{Bool, true, Option, Some, None, codes, decimal, slice_index}
use Rattle.std.specs.Prelude.{slice_index_or}
use Rattle.std.specs.List.{flat_map}
use Rattle.dp_blend.specs.Canvas.{canvas_of}
use Rattle.dp_blend.specs.White.{rgb}
use Rattle.dp_pixels.specs.Tiles.{tile_x, tile_y}
use Rattle.dp_plain.specs.Board.{Board}
use Rattle.dp_plain.specs.Picture.{head, seen}
use Rattle.dp_flat.specs.declared.text.Format.{Format}
use Rattle.dp_flat.specs.declared.text.Format.TheVariants.{P6, P3}
use Rattle.dp_flat.specs.Composed.{seen_row}
use Rattle.dp_flat.specs.Texts.{GrowsBefore, magic_of, pixel_text_of}

-- the text of the bytes of a pixel in the format
abbrev pub rgb_text : Format → List ℕ → List ℕ
rgb_text P6 c = c
rgb_text P3 c =
    decimal (slice_index c 0) ++ codes " " ++ decimal (slice_index c 1) ++ codes " "
    ++ decimal (slice_index c 2) ++ codes "\n"

-- black
abbrev pub black : List ℕ
black = 0 ∷ 0 ∷ 0 ∷ []

-- the bytes at a place of a list, if all are of one colour, if one is given, and else are these
abbrev pub band_rgb : Option (List ℕ) → List (List ℕ) → ℕ → List ℕ
band_rgb (Some color) bytes k = color
band_rgb None bytes k = slice_index_or bytes k black

-- the pixels of a chunk that is of one colour, if one is given, and else has these
abbrev pub chunk_pixels : Option (List ℕ) → List (List ℕ) → List (List ℕ)
chunk_pixels (Some color) pixels = replicate (length pixels) color
chunk_pixels None pixels = pixels

-- The colours of the tiles of a row of tiles are those of the picture, as far as it goes. If a tile
-- has no colour here, its bytes are those of the picture, tile after tile.
abbrev pub IsBand : Board → ℕ → List (Option (List ℕ)) → List (List ℕ) → Type 0
IsBand board row colors bytes =
    (col k : ℕ) → k < 4096 → tile_x col k < board.width → tile_y row k < board.height
    → band_rgb (slice_index_or colors col None) bytes (col * 4096 + k)
    ≡ rgb (seen board (tile_x col k) (tile_y row k))

-- if it is known, a text is that of each row of pixels of a row of tiles
abbrev pub IsLine : Format → Board → ℕ → Bool → List ℕ → Type 0
IsLine format board row known text =
    known ≡ true → (y : ℕ) → y / 64 ≡ row → y < board.height
    → text ≡ flat_map (pixel_text_of format) (seen_row board y)

-- of the text of a board's picture the head and `count` rows were written, but for the piece
abbrev pub HasRows : Format → Board → Option (List ℕ) → Option (List ℕ) → List ℕ → ℕ → Type 0
HasRows format board old new piece count =
    GrowsBefore old new piece
    (head (magic_of format) board.width board.height
    ++ flat_map (pixel_text_of format) (canvas_of board.width count (seen board)))
