use Rattle.std.proofs.Common.{sym, subst}
use Rattle.dp_hall.specs.Holding.{HasTurn}
use Rattle.dp_hall.proofs.turn.give_back.Goals as goal

pub give-requires-clause-hand : goal.give-requires-clause-hand
give-requires-clause-hand g c = (
  c.args.stored,
  c.put.ensures.hand,
  subst (λ v. HasTurn v c.args.stored.machine.value)
      (sym c.put.ensures.view) c.requires.machine,
)
