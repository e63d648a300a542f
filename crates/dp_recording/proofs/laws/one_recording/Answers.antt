use Rattle.dp_recording.proofs.Ends.{OneReading, each-profile, one-part, two-ways}
use Rattle.dp_recording.proofs.laws.one_recording.Goals as goal

pub returns-clause-entries : goal.returns-clause-entries
returns-clause-entries c = λ input entries others end other x y.
    one-part (λ list last. list) c.one_header.ensures.one
    (each-profile (OneReading (λ list last. list)) c.one_reading.ensures.entries
    c.one_reading-2.ensures.entries)
    input entries others end other (two-ways input entries end x) (two-ways input others other y)

pub returns-clause-end : goal.returns-clause-end
returns-clause-end c = λ input entries others end other x y.
    one-part (λ list last. last) c.one_header.ensures.one
    (each-profile (OneReading (λ list last. last)) c.one_reading.ensures.end
    c.one_reading-2.ensures.end)
    input entries others end other (two-ways input entries end x) (two-ways input others other y)
