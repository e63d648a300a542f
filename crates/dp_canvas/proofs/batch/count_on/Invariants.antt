use Rattle.std.proofs.Common.{◌-◌, ◌≤◌, length, take}
use Rattle.std.specs.Prelude.{All}
use Rattle.dp_canvas.specs.Batches.{PaintsOn}
use Rattle.dp_canvas.proofs.batch.count_on.Given as goal

-- the commands before the place paint on the layer
abbrev pub invariant-commands : goal.invariant-commands
invariant-commands l = record {
  within : l.count ≤ length l.ops;
  on : All (PaintsOn l.layer) (take l.count l.ops);
}

abbrev pub decreases-commands : goal.decreases-commands
decreases-commands l = length l.ops - l.count
