-- What is done to tiles.
use Rattle.std.specs.Prelude.{◌≡◌, List, length, Option, ⊤}
use Rattle.dp_blend.specs.Color.{Channels}
use Rattle.dp_tile.specs.declared.painter.TileChange.{TileChange}
use Rattle.dp_tile.specs.declared.painter.TileChange.TheVariants.{Stays, Becomes, Unknown}
use Rattle.dp_tile.specs.Tiles.{IsOfColor, tile_of}

-- what is known of a change holds of each tile that may have this colour
abbrev pub KnownChange : TileChange → Option Channels → (List Channels → List Channels) → Type 0
KnownChange Stays color painted =
    (pixels : List Channels) → length pixels ≡ 4096 → IsOfColor color pixels
    → painted pixels ≡ pixels
KnownChange (Becomes p) color painted =
    (pixels : List Channels) → length pixels ≡ 4096 → IsOfColor color pixels
    → painted pixels ≡ tile_of p
KnownChange Unknown color painted = ⊤
