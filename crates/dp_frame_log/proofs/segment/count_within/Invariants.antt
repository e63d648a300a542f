use Rattle.std.proofs.Common.{◌≡◌, ◌-◌, ◌≤◌, ◌<◌, ◌⊎◌, get_or, length}
use Rattle.dp_frame_log.proofs.segment.count_within.Given as goal

-- as many frames as were counted, or one, end up to the limit
abbrev pub invariant-loop-count : goal.invariant-loop-count
invariant-loop-count l = record {
  some : 0 < l.count;
  within : l.count ≤ length l.ends;
  end : l.end ≤ length l.ends;
  limit : (l.count ≡ 1) ⊎ (get_or l.ends (l.count - 1) 0 ≤ l.limit);
}

abbrev pub decreases-loop-count : goal.decreases-loop-count
decreases-loop-count l = l.end - l.count
