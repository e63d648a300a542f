use Rattle.std.proofs.Common.{◌≡◌, map, take}
use Rattle.std.specs.Prelude.{All}
use Rattle.dp_msg_draw.specs.Payloads.{IsPixel}
use Rattle.dp_snap.specs.Tiles.{tile_pixel}
use Rattle.dp_snap.proofs.tile.tile_pixels.Given as goal

-- the pixels before the place
abbrev pub invariant-loop-pixel : goal.invariant-loop-pixel
invariant-loop-pixel l = record {
  same : l.pixels.items ≡ map tile_pixel (take l.pixel-index l.tile);
  valid : All IsPixel l.pixels.items;
}
