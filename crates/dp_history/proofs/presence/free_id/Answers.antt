use Rattle.std.proofs.Common.{not, ap, sym, arith, rules}
use Rattle.dp_history.specs.Users.{mark}
use Rattle.dp_history.proofs.Ranges.{find_user-first, find_user-none}
use Rattle.dp_history.proofs.presence.free_id.Goals as goal

pub returns-then-not-present-user : goal.returns-then-not-present-user
returns-then-not-present-user c =
    sym (find_user-first (λ user. not (mark c.args.present.now user)) c.loop-user.user (omega arith)
    (omega arith)
    (search rules) (λ j from to. ap not (c.loop-user.invariant j from to)))

pub returns : goal.returns
returns c =
    sym (find_user-none (λ user. not (mark c.args.present.now user))
    (λ j from to. ap not (c.loop-user.invariant j from (omega arith))))
