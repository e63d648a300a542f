use Rattle.dp_blend.specs.Color.{clear}
use Rattle.dp_tile.proofs.Tiles.{length-tile_of}
use Rattle.dp_tile.proofs.slot.Slot.known.Goals as goal

pub returns-in-None : goal.returns-in-None
returns-in-None c = rw (← c.self.view_is, c.in-None.is) (length-tile_of clear)
