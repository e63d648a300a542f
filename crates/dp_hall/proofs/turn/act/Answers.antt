use Rattle.std.proofs.Common.{arith}
use Rattle.dp_hall.proofs.ViewLemmas.{acts_once}
use Rattle.dp_hall.proofs.turn.act.Goals as goal

pub act_held-outcome-requires-clause-room : goal.act_held-outcome-requires-clause-room
act_held-outcome-requires-clause-room g c = omega (arith, c.begin.ensures.room)

pub returns-clause-entry : goal.returns-clause-entry
returns-clause-entry g c =
    (acts_once g.M.Machine.may_step _ _ _ _ _ _ c.requires.sound c.begin.ensures.turn
    c.act_held-outcome.ensures.acts c.give.ensures.view).1

pub returns-clause-sound : goal.returns-clause-sound
returns-clause-sound g c =
    (acts_once g.M.Machine.may_step _ _ _ _ _ _ c.requires.sound c.begin.ensures.turn
    c.act_held-outcome.ensures.acts c.give.ensures.view).0
