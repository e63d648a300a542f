use Rattle.std.proofs.Common.{[]}
use Rattle.dp_session_laws.proofs.Resumption.{one-journal, one-bad, not-bad}
use Rattle.dp_session_laws.proofs.kept.one_resumption.Goals as goal

pub returns-clause-journal : goal.returns-clause-journal
returns-clause-journal c = one-journal c.rows_spell_events.ensures.one []

pub returns-clause-bad : goal.returns-clause-bad
returns-clause-bad c = λ rows m n r s a b.
    one-bad c.rows_spell_events.ensures.one [] rows m n r s a.before b.before
    (record { front = a.front; at = a.at; bad = a.bad })
    (record { front = b.front; at = b.at; bad = b.bad })

pub returns-clause-either : goal.returns-clause-either
returns-clause-either c = λ rows j n r are b.
    not-bad c.rows_spell_events.ensures.one [] rows j n r b.before are
    (record { front = b.front; at = b.at; bad = b.bad })
