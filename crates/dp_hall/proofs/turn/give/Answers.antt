use Rattle.std.proofs.Common.{arith}
use Rattle.dp_hall.proofs.StepLemmas.{gives_turn}
use Rattle.dp_hall.proofs.turn.give.Goals as goal

pub store-requires : goal.store-requires
store-requires g c =
    let t = c.requires.table in let h = c.requires.hand in (
      t.same,
      omega (arith, t.words),
      gives_turn g.M.Machine.may_step c.args.table.now.key.value _ _
          _ h.0 h.2.0 (omega (arith, t.slots)) h.1 h.2.1 h.2.2 h.2.3 h.2.4,
    )
