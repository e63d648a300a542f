-- A recording that was written, as frames.
use Rattle.std.proofs.Common.{◌≡◌, ℕ, ◌+◌, ◌≤◌, List, [], ◌∷◌, ◌++◌, length, map, drop}
use Rattle.std.proofs.Common.{refl, sym, ap, ◌∙◌, subst}
use Rattle.std.specs.List.{AllByRecursion, flat_map}
use Rattle.std.proofs.Math.Seq.{drop-append_seam}
use Rattle.std.proofs.lemmas.List.{append-nil}
use Rattle.dp_io.specs.Limits.{stream_limit}
use Rattle.dp_frame.specs.Frames.{IsFrame, spelling}
use Rattle.dp_messages.specs.declared.message.Entry.{Entry}
use Rattle.dp_messages.specs.Decoded.{Carries}
use Rattle.dp_messages.specs.Messages.{HasSpelling, entry_bytes, frame_of}
use Rattle.dp_lines.specs.declared.run_end.RunEnd.TheVariants.{Done}
use Rattle.dp_entries.specs.Anywhere.{StandsAnywhere}
use Rattle.dp_entries.specs.Input.{StandFor, Tells}
use Rattle.dp_entries.proofs.Frames.{none_held}
use Rattle.dp_recording.specs.declared.header.Profile.TheVariants.{Second}
use Rattle.dp_recording.specs.Headers.{IsHeader, header_bytes}
use Rattle.dp_recording.specs.Recordings.{RecordingComesTo, recording}

-- the entries whose messages have a spelling
abbrev pub AreSpelled : List Entry → Type 0
AreSpelled entries = AllByRecursion (λ e. HasSpelling e.msg) entries

-- the bytes of entries are those of their frames
spelled-frames : (entries : List Entry)
    → flat_map entry_bytes entries ≡ flat_map spelling (map frame_of entries)
spelled-frames [] = refl
spelled-frames (e ∷ entries) = ap (λ t. entry_bytes e ++ t) (spelled-frames entries)

are-frames : ((e : Entry) → HasSpelling e.msg → IsFrame (frame_of e)) → (entries : List Entry)
    → AreSpelled entries → AllByRecursion IsFrame (map frame_of entries)
are-frames frame [] spelled = tt
are-frames frame (e ∷ entries) spelled =
    (frame e spelled.0, are-frames frame entries spelled.1)

stand : ((e : Entry) → HasSpelling e.msg → Carries (frame_of e) e) → (before : ℕ)
    (entries : List Entry) → AreSpelled entries
    → StandFor StandsAnywhere before (map frame_of entries) entries
stand carries before [] spelled = tt
stand carries before (e ∷ entries) spelled =
    (carries e spelled.0, stand carries (before + 1) entries spelled.1)

-- the bytes after the header are the frames of the entries, and nothing more
pub written : ((more : List ℕ) → IsHeader (header_bytes ++ more) Second 30)
    → ((e : Entry) → HasSpelling e.msg → IsFrame (frame_of e))
    → ((e : Entry) → HasSpelling e.msg → Carries (frame_of e) e)
    → (entries : List Entry) → AreSpelled entries → length (recording entries) ≤ stream_limit
    → RecordingComesTo (recording entries) entries Done
written header frame carries entries spelled short =
    let bytes : List ℕ = flat_map entry_bytes entries in
    let after : drop 30 (recording entries) ≡ bytes = drop-append_seam header_bytes bytes in
    let tells : Tells StandsAnywhere bytes entries [] = record {
      frames = map frame_of entries;
      stand = stand carries 0 entries spelled;
      splits = record {
        whole =
            spelled-frames entries ∙ sym (append-nil (flat_map spelling (map frame_of entries)));
        each = are-frames frame entries spelled;
        partial = none_held [] refl;
      };
    } in (
      Second,
      30,
      header bytes,
      (subst (λ t. Tells StandsAnywhere t entries []) (sym after) tells, short),
    )
