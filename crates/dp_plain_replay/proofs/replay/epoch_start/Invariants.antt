use Rattle.std.proofs.Common.{◌≡◌, ℕ, ◌<◌, ◌≤◌, false, length, get_or}
use Rattle.dp_messages.specs.declared.message.Entry.{Entry}
use Rattle.dp_replay.specs.Replay.{is_mark}
use Rattle.dp_plain_replay.proofs.replay.epoch_start.Given as goal

-- no entry from the place on is a mark
abbrev pub invariant-loop-start : goal.invariant-loop-start
invariant-loop-start l =
    record {
      within : l.start ≤ length l.entries;
      none : (k : ℕ) (d : Entry) → l.start ≤ k → k < length l.entries
          → is_mark (get_or l.entries k d) ≡ false;
    }

abbrev pub decreases-loop-start : goal.decreases-loop-start
decreases-loop-start l = l.start
