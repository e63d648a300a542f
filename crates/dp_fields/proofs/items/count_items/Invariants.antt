use Rattle.std.proofs.Common.{◌≡◌, ◌+◌, ◌≤◌, List, length}
use Rattle.dp_fields.specs.Sequences.{Taken}
use Rattle.dp_fields.proofs.items.count_items.Given as goal

abbrev pub invariant-loop-after : goal.invariant-loop-after
invariant-loop-after g l = record {
  taken : (xs : List g.row.T.Denot) × Taken g.T.Field.spelling g.T.Field.valid l.bytes xs l.rest
      × (length xs ≡ l.count);
  room : l.count + length l.rest ≤ length l.bytes;
}

abbrev pub decreases-loop-after : goal.decreases-loop-after
decreases-loop-after g l = length l.rest
