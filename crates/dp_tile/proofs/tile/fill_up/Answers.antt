use Rattle.std.proofs.Common.{◌∙◌, ap, sym}
use Rattle.dp_tile.specs.Tiles.{tile_pixels}
use Rattle.dp_tile.proofs.Tiles.{filled-tile_of}
use Rattle.dp_tile.proofs.tile.fill_up.Goals as goal

pub returns-in-Ok-clause-pixels : goal.returns-in-Ok-clause-pixels
returns-in-Ok-clause-pixels c =
    filled-tile_of c.in-Some.p c.clear.new.self.items c.resize.new.self.items _
    c.clear.ensures.items c.clear.ensures.len c.in-Ok.ensures.items
    ∙ sym (ap (λ color. tile_pixels color c.args.pixels.now.items) c.in-Some.is)
