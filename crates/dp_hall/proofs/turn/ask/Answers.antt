use Rattle.std.proofs.Common.{refl}
use Rattle.dp_hall.proofs.ViewLemmas.{has_turn}
use Rattle.dp_hall.proofs.turn.ask.Goals as goal

pub give_back-requires-clause-machine : goal.give_back-requires-clause-machine
give_back-requires-clause-machine g c = has_turn g.M.Machine.may_step _ _ _ _
    c.take-stored.new.token.me.0.known c.requires.idle.1 c.take-stored.ensures.view refl
