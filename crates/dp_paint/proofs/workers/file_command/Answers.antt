use Rattle.std.proofs.Common.{arith, refl}
use Rattle.std.proofs.lemmas.Result.{on_ok_weaker}
use Rattle.dp_ops.specs.Ops.{on_tile}
use Rattle.dp_ops.specs.Lists.{StandsOn}
use Rattle.dp_ops.proofs.Filed.{numbered_stands}
use Rattle.dp_paint.proofs.Counts.{filed_few}
use Rattle.dp_paint.proofs.Layers.{filed_layer}
use Rattle.dp_paint.proofs.Painting.{reach_painting}
use Rattle.dp_paint.proofs.workers.file_command.Goals as goal

pub returns-clause-pixels : goal.returns-clause-pixels
returns-clause-pixels c =
    let on = c.args.on in
    let op = c.args.command.now in
    let is_of = c.requires.grid in
    on_ok_weaker c.file.result
    (λ filed. filed_layer on.width on.height on.commands.now
    (StandsOn on.width on.height c.args.number op) op c.pixels_stay_outside_the_foot.ensures
    c.requires.command
    (λ col row. numbered_stands on.width on.height c.args.number op
    (on_tile on.width on.height on.commands.now col row)
    (record { width = refl; height = refl; numbered = c.requires.number }))
    c.cells_of-area.result c.args.lists.now c.file.new.lists c.args.grid.now is_of.wide is_of.high
    (λ x y in_x in_y is. c.cells_of-area.ensures.all x y
    (rw c.cols.ensures (omega (arith, is_of.cols, in_x)))
    (rw c.rows.ensures (omega (arith, is_of.rows, in_y))) is) filed)
    c.file.ensures.filed

pub returns-clause-few : goal.returns-clause-few
returns-clause-few c =
    on_ok_weaker c.file.result
    (λ filed. omega (
      arith,
      filed_few c.cells_of-area.result c.args.lists.now c.file.new.lists filed.outside,
      c.cells_of-area.ensures.few,
      reach_painting c.args.command.now c.requires.command,
    ))
    c.file.ensures.filed
