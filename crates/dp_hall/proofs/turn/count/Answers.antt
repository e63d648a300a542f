use Rattle.std.proofs.Common.{arith}
use Rattle.dp_hall.proofs.StepLemmas.{looks}
use Rattle.dp_hall.proofs.turn.count.Goals as goal

pub load-requires : goal.load-requires
load-requires g c = (
  c.requires.same,
  omega (arith, c.requires.words),
  looks g.M.Machine.may_step
      c.args.table.now.key.value _ _ _,
)
