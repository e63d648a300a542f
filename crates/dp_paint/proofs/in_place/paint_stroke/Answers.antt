use Rattle.std.proofs.Common.{[], ap}
use Rattle.std.proofs.lemmas.Result.{on_ok_weaker}
use Rattle.dp_ops.specs.Lists.{Lists}
use Rattle.dp_paint.proofs.Layers.{dabs_wait, filed_alone}
use Rattle.dp_paint.proofs.in_place.paint_stroke.Goals as goal

pub returns-clause-pixels : goal.returns-clause-pixels
returns-clause-pixels g c =
    on_ok_weaker c.paint_lists.result
    (λ painted. filed_alone c.args.width c.args.height 0 [] c.args.command.now
    c.pixels_stay_outside_the_foot.ensures (dabs_wait c.args.command.now c.requires.dabs)
    c.args.area c.new-lists.result c.file.new.lists c.args.grid.now c.paint_lists.new.grid
    c.requires.grid (ap (λ (l : Lists). l.lists) c.new-lists.ensures) c.requires.all
    c.in_ok-file.ensures.filed painted)
    c.paint_lists.ensures.painted
