use Rattle.std.proofs.Common.{◌∙◌, sym}
use Rattle.dp_shift.proofs.FootLemmas.{move_within}
use Rattle.dp_shift.proofs.movement.move_rects.Goals as goal

pub returns-clause-from : goal.returns-clause-from
returns-clause-from c =
    let two = c.in-Two in
    (move_within c.args.command.now c.requires two.layer two.from two.to
    (sym c.foot.ensures ∙ two.is)).from

pub returns-clause-to : goal.returns-clause-to
returns-clause-to c =
    let two = c.in-Two in
    (move_within c.args.command.now c.requires two.layer two.from two.to
    (sym c.foot.ensures ∙ two.is)).to

pub returns-clause-near : goal.returns-clause-near
returns-clause-near c =
    let two = c.in-Two in
    (move_within c.args.command.now c.requires two.layer two.from two.to
    (sym c.foot.ensures ∙ two.is)).near
