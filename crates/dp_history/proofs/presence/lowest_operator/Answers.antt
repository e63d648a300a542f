use Rattle.std.proofs.Common.{◌≡◌, ◌&&◌, true, sym, ◌∙◌, arith, rules}
use Rattle.dp_acl.specs.Rights.{is_operator}
use Rattle.dp_history.specs.Users.{mark}
use Rattle.dp_history.proofs.Ranges.{find_user-first, find_user-none, both}
use Rattle.dp_history.proofs.presence.lowest_operator.Goals as goal

pub returns-then-is_operator : goal.returns-then-is_operator
returns-then-is_operator c = λ history stands.
    let held : mark c.args.present.now c.loop-user.user ≡ true = search rules in
    let operates : is_operator history c.loop-user.user ≡ true = sym
    (c.is_operator.ensures history stands) ∙ c.if-is_operator.true in
    sym (find_user-first (λ user. mark c.args.present.now user && is_operator history user)
    c.loop-user.user
    (omega arith) (omega arith) (both held operates) (λ j from to. c.loop-user.invariant history
    stands j from to))

pub returns : goal.returns
returns c = λ history stands.
    sym (find_user-none (λ user. mark c.args.present.now user && is_operator history user)
    (λ j from to. c.loop-user.invariant history stands j from (omega arith)))
