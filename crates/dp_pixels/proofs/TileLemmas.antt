-- Tiles that are put on a canvas.
use Rattle.dp_msg_draw.specs.declared.lists.TilePixel.{TilePixel}

-- what stands for a tile's pixel past the end of a list
abbrev pub no_pixel : TilePixel
no_pixel = record { r = 0; g = 0; b = 0; a = 0 }
