use Rattle.std.proofs.Common.{◌≡◌, ◌-◌, List, ◌++◌, map, take, drop}
use Rattle.dp_messages.specs.declared.message.Entry.{Entry}
use Rattle.dp_frame_log.specs.Frames.{AreFramesOf, AreLogOf}
use Rattle.dp_history.specs.Items.{entry_in}
use Rattle.dp_history.specs.Made.{going_over}
use Rattle.dp_history.proofs.frames.keep_segment.Given as goal

-- the frames before a place that go over were kept
abbrev pub invariant-loop-at : goal.invariant-loop-at
invariant-loop-at l = (before mine more : List Entry) → AreLogOf l.fn.kept before
    → AreFramesOf l.segment mine → map (entry_in l.journal) l.items ≡ mine ++ more
    → AreLogOf l.kept (before ++ going_over (take (l.at - l.first) (drop l.first mine)))
