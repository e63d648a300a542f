use Rattle.std.proofs.Common.{◌≡◌}
use Rattle.std.specs.Vec.{vec_len}
use Rattle.dp_board.specs.Users.{HaveNoGroups}
use Rattle.dp_board.proofs.table.without_groups.Given as goal

-- none of the users so far has a group
abbrev pub invariant-loop : goal.invariant-loop
invariant-loop l = record {
  count : vec_len l.users ≡ l.counter;
  empty : HaveNoGroups l.users.items;
}
