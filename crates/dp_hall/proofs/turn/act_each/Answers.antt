use Rattle.dp_hall.proofs.ViewLemmas.{each_acted}
use Rattle.dp_hall.proofs.turn.act_each.Goals as goal

pub returns-clause-entries : goal.returns-clause-entries
returns-clause-entries g c =
    (each_acted g.M.Machine.may_step _ _ _ _ _ _ c.requires.sound
    (c.act_all-acted.ensures.acts _ c.begin.ensures.turn) c.give.ensures.view).1

pub returns-clause-sound : goal.returns-clause-sound
returns-clause-sound g c =
    (each_acted g.M.Machine.may_step _ _ _ _ _ _ c.requires.sound
    (c.act_all-acted.ensures.acts _ c.begin.ensures.turn) c.give.ensures.view).0
