use Rattle.std.proofs.Common.{◌≡◌, ℕ, ◌<◌, [], get_or}
use Rattle.std.specs.Vec.{vec_len}
use Rattle.dp_board.specs.Users.{groups_of, HaveSame}
use Rattle.dp_board.proofs.table.StrokeTable.done.Given as goal

-- each list so far has the done groups of its user
abbrev pub invariant-loop-user : goal.invariant-loop-user
invariant-loop-user l = record {
  count : vec_len l.done ≡ l.user-index;
  same : (user : ℕ) → user < l.user-index → HaveSame (get_or l.done.items user [])
      (groups_of l.user-items user).done;
}
