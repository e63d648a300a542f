use Rattle.std.proofs.Common.{sym, arith, rules}
use Rattle.dp_history.specs.Users.{mark}
use Rattle.dp_history.proofs.Ranges.{find_user-first, find_user-none}
use Rattle.dp_history.proofs.presence.lowest_present.Goals as goal

pub returns-then-present-user : goal.returns-then-present-user
returns-then-present-user c =
    sym (find_user-first (mark c.args.present.now) c.loop-user.user (omega arith) (omega arith)
    (search rules) (λ j from to. c.loop-user.invariant j from to))

pub returns : goal.returns
returns c =
    sym (find_user-none (mark c.args.present.now) (λ j from to. c.loop-user.invariant j from
    (omega arith)))
