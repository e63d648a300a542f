use Rattle.std.proofs.Common.{◌∙◌, ap, sym}
use Rattle.dp_tile.specs.Tiles.{TileGrid}
use Rattle.dp_paint.specs.Layers.{layer_pixels}
use Rattle.dp_paint.proofs.Bands.{none_waits}
use Rattle.dp_paint.proofs.workers.paint_part.Goals as goal

pub returns-clause-pixels : goal.returns-clause-pixels
returns-clause-pixels g c =
    let on = c.args.on in
    let lists = c.file_all.new.lists in
    let is_of = c.requires.grid in
    sym (none_waits on.width on.height on.commands.now c.settle_all.new.lists
    c.settle_all.new.grid is_of.wide is_of.high c.in_ok-settle_all.ensures.none)
    ∙ c.in_ok-settle_all.ensures.same
    ∙ ap (λ (grid : TileGrid). layer_pixels on.width on.height on.commands.now lists grid)
    c.in_ok-painted.ensures
    ∙ c.in_ok-file_all.ensures.pixels
