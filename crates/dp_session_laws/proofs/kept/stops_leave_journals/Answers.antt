use Rattle.std.proofs.Common.{[]}
use Rattle.dp_session_laws.proofs.KeptLemmas.{stop-leaves}
use Rattle.dp_session_laws.proofs.kept.stops_leave_journals.Goals as goal

pub returns : goal.returns
returns c = λ past e rows is flight left.
    stop-leaves (record {
      written = c.rows_spell_events.ensures.written;
      on = c.rows_go_on.ensures [];
    })
    past e is flight past.known rows is.rows left
