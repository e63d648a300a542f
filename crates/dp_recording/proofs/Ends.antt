-- What a recording comes to, in two cases.
use Rattle.std.proofs.Common.{◌≡◌, ◌⊎◌, ℕ, List, [], Option, ap₂, inl, inr, refl, subst, sym, ◌∙◌}
use Rattle.dp_messages.specs.declared.message.Entry.{Entry}
use Rattle.dp_lines.specs.declared.run_end.RunEnd.{RunEnd}
use Rattle.dp_lines.specs.declared.run_end.RunEnd.TheVariants as run
use Rattle.dp_messages.specs.declared.decoder.DecodeError.{DecodeError}
use Rattle.dp_entries.specs.declared.ends.ReadEnd.{ReadEnd}
use Rattle.dp_entries.specs.declared.ends.ReadEnd.TheVariants as read
use Rattle.dp_entries.specs.Input.{ComesTo}
use Rattle.dp_entries.specs.Reading.{EndsReading}
use Rattle.dp_recording.specs.declared.header.Profile.{Profile}
use Rattle.dp_recording.specs.declared.header.Profile.TheVariants.{First, Second}
use Rattle.dp_recording.specs.Headers.{HasNoHeader, IsHeader}
use Rattle.dp_recording.specs.Recordings.{EndsRecording, RecordingComesTo, error_of}
use Rattle.dp_recording.specs.Recordings.{HasReadAfter, HasReadOf, cause_in, stands_in}
use Rattle.dp_recording.specs.declared.reader.Phase.TheVariants.{Finished}
use Rattle.dp_entries.specs.Reader.{Reader}
use Rattle.std.specs.Io.KnownBytes.{IsAtEnd}
use Rattle.dp_io.specs.Limits.{stream_limit}

abbrev pub ComesAfter : List ℕ → List Entry → RunEnd → Type 0
ComesAfter input entries end =
    (profile : Profile) × (len : ℕ) × IsHeader input profile len
    × ComesTo (stands_in profile) len stream_limit input entries end

abbrev pub HasNone : List ℕ → List Entry → RunEnd → Type 0
HasNone input entries end = (entries ≡ []) × HasNoHeader input × (end ≡ run.BadHeader)

pub two-ways : (input : List ℕ) (entries : List Entry) (end : RunEnd)
    → RecordingComesTo input entries end
    → HasNone input entries end ⊎ ComesAfter input entries end
two-ways input entries run.BadHeader x = inl (x.0, x.1, refl)
two-ways input entries _ x = inr x

-- the laws of one header and of one reading
abbrev pub OneHeader : Type 0
OneHeader = (bytes : List ℕ) (profile other : Profile) (len more : ℕ) → IsHeader bytes profile len
    → IsHeader bytes other more → (profile ≡ other) × (len ≡ more)

abbrev pub OneReading : {X : Type 0} → (List Entry → RunEnd → X) → Profile → Type 0
OneReading {X} part profile = (first limit : ℕ) (input : List ℕ) (entries others : List Entry)
    (end other : RunEnd)
    → ComesTo (stands_in profile) first limit input entries end
    → ComesTo (stands_in profile) first limit input others other
    → part entries end ≡ part others other

-- of each profile
pub each-profile : (P : Profile → Type 0) → P First → P Second → (profile : Profile) → P profile
each-profile P first second First = first
each-profile P first second Second = second

pub one-part : {X : Type 0} (part : List Entry → RunEnd → X) → OneHeader
    → ((profile : Profile) → OneReading part profile)
    → (input : List ℕ) (entries others : List Entry) (end other : RunEnd)
    → HasNone input entries end ⊎ ComesAfter input entries end
    → HasNone input others other ⊎ ComesAfter input others other
    → part entries end ≡ part others other
one-part part header reading input entries others end other (inl x) (inl y) =
    ap₂ part (x.0 ∙ sym y.0) (x.2 ∙ sym y.2)
one-part part header reading input entries others end other (inl x) (inr y) =
    absurd (x.1 y.0 y.1 y.2)
one-part part header reading input entries others end other (inr x) (inl y) =
    absurd (y.1 x.0 x.1 x.2)
one-part part header reading input entries others end other (inr x) (inr y) =
    let same = header input y.0 x.0 y.1 x.1 y.2 x.2 in
    reading x.0 x.1 stream_limit input entries others end other x.3
    (subst (λ len. ComesTo (stands_in x.0) len stream_limit input others other) same.1
    (subst (λ profile. ComesTo (stands_in profile) y.1 stream_limit input others other) same.0
    y.3))

-- ---- how reading ends

-- after a header
pub late-ends : (input : List ℕ) (left : Option (List ℕ)) (entries : List Entry)
    (profile : Profile) (len : ℕ) (end : ReadEnd DecodeError) → IsHeader input profile len
    → EndsReading (stands_in profile) (cause_in profile) len stream_limit input left entries end
    → EndsRecording input left entries (error_of end)
late-ends input left entries profile len read.ReadFault header ends =
    inr (profile, len, header, ends)
late-ends input left entries profile len (read.Truncated at) header ends =
    ((profile, len, header, ends.0), ends.1)
late-ends input left entries profile len (read.BadMessage why at) header ends = (
  (profile, len, header, ends.0),
  inr (profile, len, header, ends.1),
  (profile, len, header, ends.2),
)
late-ends input left entries profile len read.Long header ends =
    ((profile, len, header, ends.0), inr (profile, len, header, ends.1))
late-ends input left entries profile len read.Memory header ends = tt

-- ---- a reader past its header

-- it came to the input's end
pub late-done : (profile : Profile) (input : List ℕ) (now : Option (List ℕ)) (entries : List Entry)
    (reader : Reader) {left : Option (List ℕ)}
    → HasReadAfter profile (stands_in profile) input left entries reader
    → ComesTo (stands_in profile) reader.first reader.limit input entries run.Done → IsAtEnd now
    → HasReadOf input now entries Finished
late-done profile input now entries reader h came end = (
  (
    profile,
    reader.first,
    h.0,
    subst (λ limit. ComesTo (stands_in profile) reader.first limit input entries run.Done) h.1 came,
  ),
  end,
)

-- it ended with this
pub late-ended : (profile : Profile) (input : List ℕ) (now : Option (List ℕ)) (entries : List Entry)
    (reader : Reader) (end : ReadEnd DecodeError) {left : Option (List ℕ)}
    → HasReadAfter profile (stands_in profile) input left entries reader
    → EndsReading (stands_in profile) (cause_in profile) reader.first reader.limit input now entries
    end
    → EndsRecording input now entries (error_of end)
late-ended profile input now entries reader end h ends =
    late-ends input now entries profile reader.first end h.0
    (subst (λ limit. EndsReading (stands_in profile) (cause_in profile) reader.first limit input now
    entries end) h.1 ends)
