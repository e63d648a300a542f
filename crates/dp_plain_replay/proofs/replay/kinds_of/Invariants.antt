use Rattle.std.proofs.Common.{◌≡◌, map, take}
use Rattle.dp_replay.specs.Kinds.{kind_of_entry}
use Rattle.dp_plain_replay.proofs.replay.kinds_of.Given as goal

abbrev pub invariant-loop-entry : goal.invariant-loop-entry
invariant-loop-entry l = l.kinds.items ≡ map kind_of_entry (take l.entry-index l.entries)
