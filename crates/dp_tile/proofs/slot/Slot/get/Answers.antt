use Rattle.std.proofs.Common.{◌+◌, ◌*◌, ◌<◌, sym, arith}
use Rattle.dp_blend.specs.Color.{clear}
use Rattle.dp_tile.proofs.Tiles.{pixel-tile_of}
use Rattle.dp_tile.proofs.slot.Slot.get.Goals as goal

pub returns-in-None : goal.returns-in-None
returns-in-None c =
    let inside : c.args.y * 64 + c.args.x < 4096 = omega (arith, c.requires.x, c.requires.y) in
    rw (← c.self.view_is, c.in-None.is) (sym (pixel-tile_of clear _ inside))
