use Rattle.std.proofs.Common.{◌≡◌, ◌-◌, ◌≤◌, length}
use Rattle.std.specs.List.{filter, range_with_len}
use Rattle.dp_history.specs.Users.{mark}
use Rattle.dp_history.proofs.presence.present_ids.Given as goal

abbrev pub invariant-loop-user : goal.invariant-loop-user
invariant-loop-user l = record {
  found : l.ids.items ≡ filter (mark l.present) (range_with_len 1 (l.user - 1));
  few : length l.ids.items ≤ l.user - 1;
}
