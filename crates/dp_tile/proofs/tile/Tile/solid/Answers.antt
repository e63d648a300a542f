use Rattle.std.proofs.Common.{arith}
use Rattle.dp_tile.proofs.Tiles.{length-tile_of}
use Rattle.dp_tile.proofs.tile.Tile.solid.Goals as goal

pub invariant_of-result : goal.invariant_of-result
invariant_of-result g c =
    record {
      enough = omega (arith, c.in_ok-pixels.ensures.exact);
      count = length-tile_of c.args.p;
    }
