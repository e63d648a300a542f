use Rattle.std.proofs.Common.{◌-◌, ◌++◌, List}
use Rattle.std.specs.List.{filter, filter_map, range_with_len}
use Rattle.dp_messages.specs.declared.message.Entry.{Entry}
use Rattle.dp_acl.specs.Opening.{last_join}
use Rattle.dp_history.specs.Openings.{Holds}
use Rattle.dp_history.specs.Users.{mark, AreJoined}
use Rattle.dp_history.proofs.opening.Opening.add_joins.Given as goal

abbrev pub invariant-loop-user : goal.invariant-loop-user
invariant-loop-user l = (history live : List Entry)
    → AreJoined l.journal live l.present l.opens
    → Holds l.journal l.initial.self history
    → Holds l.journal l.self
    (history ++ filter_map (last_join live) (filter (mark l.present)
    (range_with_len 1 (l.user - 1))))
