use Rattle.std.proofs.Common.{length}
use Rattle.dp_fields.specs.Sequences.{Taken}
use Rattle.dp_fields.proofs.items.collect_items.Given as goal

abbrev pub invariant-loop-item : goal.invariant-loop-item
invariant-loop-item g l = Taken g.T.Field.spelling g.T.Field.valid l.bytes l.items.items l.rest

abbrev pub decreases-loop-item : goal.decreases-loop-item
decreases-loop-item g l = length l.rest
