-- It can't be that a recording comes to no end.
use Rattle.std.proofs.Common.{ℕ, List, [], refl}
use Rattle.dp_messages.specs.declared.message.Entry.{Entry}
use Rattle.dp_lines.specs.declared.run_end.RunEnd.{RunEnd}
use Rattle.dp_lines.specs.declared.run_end.RunEnd.TheVariants as run
use Rattle.dp_entries.specs.Input.{ComesTo}
use Rattle.dp_entries.proofs.EachInput.{asked}
use Rattle.dp_io.specs.Limits.{stream_limit}
use Rattle.dp_recording.specs.declared.header.Profile.{Profile}
use Rattle.dp_recording.specs.Headers.{IsHeader}
use Rattle.dp_recording.specs.Recordings.{RecordingComesTo, stands_in}
use Rattle.dp_recording.proofs.Ends.{ComesAfter}

-- what comes after a header comes to its end
by-header : (input : List ℕ) (entries : List Entry) (end : RunEnd) → ComesAfter input entries end
    → RecordingComesTo input entries end
by-header input entries run.BadHeader x = absurd x.3
by-header input entries _ x = x

-- by the frames of a profile no input comes to no end
abbrev pub EachEnds : Profile → Type 0
EachEnds profile = (first limit : ℕ) (input : List ℕ)
    → ¬ ((entries : List Entry) (end : RunEnd)
    → ¬ ComesTo (stands_in profile) first limit input entries end)

pub not-endless : ((profile : Profile) → EachEnds profile) → (input : List ℕ)
    → ¬ ((entries : List Entry) (end : RunEnd) → ¬ RecordingComesTo input entries end)
not-endless each input none =
    asked ((profile : Profile) × (len : ℕ) × IsHeader input profile len)
    (λ h. each h.0 h.1 stream_limit input (λ entries end comes.
    none entries end (by-header input entries end (h.0, h.1, h.2, comes))))
    (λ no. none [] run.BadHeader (refl, λ profile len header. no (profile, len, header)))
