use Rattle.dp_schedule.proofs.Words.{third_spells}
use Rattle.dp_schedule.proofs.parser.read_three.Goals as goal

-- a third word that spells no message asks for nothing
pub returns-in_default-2-clause-none : goal.returns-in_default-2-clause-none
returns-in_default-2-clause-none c action asks =
    let (m, tells) = third_spells c.args.first.now c.args.second.now c.args.third.now action asks in
    (rw c.in_default-2.is at c.in_ok-msg.ensures.none) m tells
