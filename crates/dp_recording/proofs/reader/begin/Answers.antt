use Rattle.dp_recording.proofs.reader.begin.Goals as goal

pub returns-in_ok-reader_after-in-First-clause-begun :
    goal.returns-in_ok-reader_after-in-First-clause-begun
returns-in_ok-reader_after-in-First-clause-begun c = λ bytes left h.
    rw c.in-First.is at (c.in_ok-reader_after-in-First.ensures.begun bytes left h)

pub returns-in_ok-reader_after-in-Second-clause-begun :
    goal.returns-in_ok-reader_after-in-Second-clause-begun
returns-in_ok-reader_after-in-Second-clause-begun c = λ bytes left h.
    rw c.in-Second.is at (c.in_ok-reader_after-in-Second.ensures.begun bytes left h)
