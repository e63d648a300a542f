-- Tiles that are put.
use Rattle.dp_msg_draw.specs.declared.draw.Draw.{Draw}
use Rattle.dp_msg_draw.specs.declared.draw.Draw.TheVariants.{PutTile}
use Rattle.dp_msg_draw.specs.declared.draw.TileContent.{TileContent}
use Rattle.dp_ops.specs.declared.put.TileRun.{TileRun}

-- the command that puts a content on the tiles of a run
abbrev pub put_of : TileRun → TileContent → Draw
put_of run content = PutTile run.layer run.col run.row run.repeat content
