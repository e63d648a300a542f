use Rattle.std.proofs.Common.{◌≡◌, ℕ, ◌<◌, ◌≤◌, ◌&&◌, false, List}
use Rattle.dp_messages.specs.declared.message.Entry.{Entry}
use Rattle.dp_acl.specs.Rights.{is_operator}
use Rattle.dp_acl.specs.Table.{StandsFor}
use Rattle.dp_history.specs.Users.{mark}
use Rattle.dp_history.proofs.presence.lowest_operator.Given as goal

abbrev pub invariant-loop-user : goal.invariant-loop-user
invariant-loop-user l = (history : List Entry) → StandsFor l.rights history
    → (k : ℕ) → 1 ≤ k → k < l.user → (mark l.present k && is_operator history k) ≡ false
