use Rattle.std.proofs.Common.{ℕ}
use Rattle.dp_frame.specs.Frames.{FrameParts}
use Rattle.dp_messages.specs.declared.message.Entry.{Entry}
use Rattle.dp_messages.specs.Decoded.{Carries}
use Rattle.dp_messages.specs.Messages.{lifted_kind}
use Rattle.dp_entries.specs.Anywhere.{StandsLifted}
use Rattle.dp_entries.proofs.first_profile.FirstProfileStanding.one_standing.Goals as goal

-- the frame of today that has the lifted kind carries the entry
carried : (before : ℕ) (frame : FrameParts) (e : Entry) → StandsLifted before frame e
    → Carries (record { kind = lifted_kind frame.kind; user = frame.user; body = frame.body }) e
carried before frame e stands = record { user = stands.user; spelled = stands.lifts }

pub returns-clause-one : goal.returns-clause-one
returns-clause-one c = λ before frame e f h k.
    c.one_answer.ensures.entry
    (record { kind = lifted_kind frame.kind; user = frame.user; body = frame.body }) e f
    (carried before frame e h) (carried before frame f k)

pub returns-clause-none : goal.returns-clause-none
returns-clause-none c = λ before frame cause e refused h.
    c.one_answer.ensures.either
    (record { kind = lifted_kind frame.kind; user = frame.user; body = frame.body }) e cause
    (carried before frame e h) refused
