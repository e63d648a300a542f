use Rattle.dp_entries.proofs.Refused.{refused_for}
use Rattle.dp_entries.proofs.anywhere.AnywhereStanding.judge.Goals as goal

pub returns-in-Err-clause-refused : goal.returns-in-Err-clause-refused
returns-in-Err-clause-refused c =
    rw c.refusal_of.ensures
    (refused_for c.args.frame.now.kind c.args.frame.now.body c.in-Err.error
    c.in-Err.ensures.refused)
