use Rattle.std.proofs.Common.{◌≡◌, map, take}
use Rattle.dp_replay.specs.Replay.{user_act_of}
use Rattle.dp_drill.proofs.painting.acts_of.Given as goal

-- the acts of the entries before the place
abbrev pub invariant-loop-entry : goal.invariant-loop-entry
invariant-loop-entry l = l.acts.items ≡ map user_act_of (take l.entry-index l.entries)
