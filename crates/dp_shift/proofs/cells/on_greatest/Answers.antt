use Rattle.std.proofs.Common.{subst, sym}
use Rattle.dp_shift.specs.Grids.{IsOnGreatest}
use Rattle.dp_shift.proofs.FootLemmas.{greatest_within}
use Rattle.dp_shift.proofs.cells.on_greatest.Goals as goal

pub returns-clause-within : goal.returns-clause-within
returns-clause-within c =
    subst IsOnGreatest (sym c.on_greatest.ensures) (greatest_within c.args.rect)
