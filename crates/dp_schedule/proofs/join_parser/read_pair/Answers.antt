use Rattle.std.proofs.Common.{◌≡◌, true}
use Rattle.dp_schedule.proofs.OneJoinAction.{pair_none}
use Rattle.dp_schedule.proofs.join_parser.read_pair.Goals as goal

-- a second word that spells no message asks for nothing after `say`
pub returns-in-None-clause-none : goal.returns-in-None-clause-none
returns-in-None-clause-none c =
    pair_none c.args.first.now c.args.second.now
    (λ take.
    let same : c.eq.result ≡ true = rw (take, c.as_slice.ensures) at c.eq.ensures in
    let no = c.if-eq.false in
    cc)
    (rw c.in-None.is at c.in_ok-msg.ensures.none)
