use Rattle.std.proofs.Common.{◌≤◌, ◌-◌, List, drop}
use Rattle.dp_messages.specs.declared.message.Entry.{Entry}
use Rattle.dp_frame_log.specs.Frames.{AreSealedOf}
use Rattle.dp_frame_log.proofs.log.share_of.Given as goal

-- how far the first frame stands behind the segments that were passed
abbrev pub invariant-loop-segment : goal.invariant-loop-segment
invariant-loop-segment l = record {
  place : l.place ≤ l.at;
  left : (entries : List Entry) → AreSealedOf l.sealed entries
      → AreSealedOf (drop l.segment-index l.sealed) (drop (l.at - l.place) entries);
}
