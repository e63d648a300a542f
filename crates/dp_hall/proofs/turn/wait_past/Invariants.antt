use Rattle.std.proofs.Common.{◌≡◌, ◌≤◌}
use Rattle.dp_hall.proofs.turn.wait_past.Given as goal

abbrev pub invariant-loop : goal.invariant-loop
invariant-loop g l =
    (l.token.table_id ≡ l.initial.token.table_id) × (l.token.me.1 ≡ l.initial.token.me.1)
    × (l.initial.token.me.0.known ≤ l.token.me.0.known)
    × (l.token.me.0 ≡ record l.initial.token.me.0 { known = l.token.me.0.known })
