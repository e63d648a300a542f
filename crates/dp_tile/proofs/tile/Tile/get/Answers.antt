use Rattle.std.proofs.Common.{◌+◌, ◌*◌, ◌<◌, sym, arith}
use Rattle.dp_tile.proofs.Tiles.{pixel-tile_of}
use Rattle.dp_tile.proofs.tile.Tile.get.Goals as goal

pub returns-in-Some : goal.returns-in-Some
returns-in-Some c =
    let inside : c.args.y * 64 + c.args.x < 4096 = omega (arith, c.requires.x, c.requires.y) in
    rw (← c.self.view_is, c.in-Some.is) (sym (pixel-tile_of c.in-Some.p _ inside))
