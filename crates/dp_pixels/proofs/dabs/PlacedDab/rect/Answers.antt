use Rattle.std.proofs.Common.{arith}
use Rattle.std.specs.Prelude.{◌/◌}
use Rattle.dp_pixels.proofs.Cells.{less_small}
use Rattle.dp_pixels.proofs.dabs.PlacedDab.rect.Goals as goal

pub returns : goal.returns
returns c =
    let dab = c.args.self in
    let half = dab.size / 2 in
    let x = less_small dab.at.x half c.requires.x (omega arith) in
    let y = less_small dab.at.y half c.requires.y (omega arith) in
    rw (x, y) at c.at.ensures
