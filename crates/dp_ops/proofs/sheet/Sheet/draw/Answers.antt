use Rattle.std.proofs.Common.{◌∙◌}
use Rattle.dp_ops.proofs.Drawn.{no_number, number_drawn}
use Rattle.dp_ops.proofs.sheet.Sheet.draw.Goals as goal

pub returns-in-Some : goal.returns-in-Some
returns-in-Some c =
    let on = c.args.self.now in
    c.draw.ensures
    ∙ number_drawn on.width on.height on.commands.now c.args.number c.args.col c.args.row
    c.args.pixels.now _ c.in-Some.ensures.some c.requires.count

pub returns-in-None : goal.returns-in-None
returns-in-None c =
    let on = c.args.self.now in
    no_number on.width on.height on.commands.now c.args.number c.args.col c.args.row
    c.args.pixels.now c.in-None.ensures.none c.requires.count
