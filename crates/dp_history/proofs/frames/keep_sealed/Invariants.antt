use Rattle.std.proofs.Common.{◌≡◌, List, ◌++◌, map, drop, All}
use Rattle.dp_messages.specs.declared.message.Entry.{Entry}
use Rattle.dp_frame_log.specs.Frames.{AreSealedOf}
use Rattle.dp_history.specs.Items.{entry_in, IsIn}
use Rattle.dp_history.proofs.KeptLemmas.{Passed}
use Rattle.dp_history.proofs.frames.keep_sealed.Given as goal

-- the frames of the segments that were passed were kept, if they go over
abbrev pub invariant-loop-segment : goal.invariant-loop-segment
invariant-loop-segment l = record {
  said : All (IsIn l.journal) l.left;
  passed : (entries more : List Entry) → AreSealedOf l.sealed entries
      → map (entry_in l.journal) l.items ≡ entries ++ more
      → Passed l.journal (drop l.segment-index l.sealed) l.left l.skip l.from l.kept entries more;
}
