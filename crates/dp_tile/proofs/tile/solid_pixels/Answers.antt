use Rattle.dp_tile.proofs.Tiles.{filled-tile_of}
use Rattle.dp_tile.proofs.tile.solid_pixels.Goals as goal

pub returns-clause-solid : goal.returns-clause-solid
returns-clause-solid c =
    filled-tile_of c.args.p c.in_ok-pixels.pixels.items c.resize.new.self.items _
    c.in_ok-pixels.ensures.items c.in_ok-pixels.ensures.len c.in_ok-resize.ensures.items
