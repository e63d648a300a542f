-- What the bytes of a link to a server come to.
use Rattle.std.specs.Prelude.{◌≡◌, ◌⊎◌, ℕ, ◌≤◌, false, List, ◌++◌, length, true}
use Rattle.std.specs.List.{AllByRecursion, flat_map}
use Rattle.dp_frame.specs.Frames.{FrameParts, IsFrame, spelling}
use Rattle.dp_io.specs.Limits.{stream_limit}
use Rattle.dp_messages.specs.declared.message.Entry.{Entry}
use Rattle.dp_lines.specs.declared.run_end.RunEnd.{RunEnd}
use Rattle.dp_lines.specs.declared.run_end.RunEnd.TheVariants as run
use Rattle.dp_entries.specs.Input.{ComesTo, StandFor}
use Rattle.dp_join_link.specs.declared.stops.LinkCause.{LinkCause}
use Rattle.dp_join_link.specs.declared.stops.LinkCause.TheVariants as cause
use Rattle.dp_join_link.specs.Given.{is_closed}
use Rattle.dp_join_link.specs.JoinStanding.{StandsOnLink}

-- the link's bytes begin with whole frames, within those that count, that stand for the entries
pub record BeginsWith (link : List ℕ) (entries : List Entry) : Type 0 where
  pub frames : List FrameParts
  pub more : List ℕ
  pub each : AllByRecursion IsFrame frames
  pub stand : StandFor StandsOnLink 0 frames entries
  pub whole : link ≡ flat_map spelling frames ++ more
  pub counts : length (flat_map spelling frames) ≤ stream_limit

-- the link's bytes come to these entries and this end
abbrev pub LinkComesTo : List ℕ → List Entry → RunEnd → Type 0
LinkComesTo link entries end = ComesTo StandsOnLink 0 stream_limit link entries end

-- Why a link gives no entry more after these: a Disconnect came, or the link ended, also inside a
-- frame; or a frame came that may not stand, or more bytes than count.
abbrev pub EndsLink : List ℕ → List Entry → LinkCause → Type 0
EndsLink link entries cause.Closed =
    (BeginsWith link entries × (is_closed entries ≡ true))
    ⊎ ((is_closed entries ≡ false) × LinkComesTo link entries run.Done)
    ⊎ ((is_closed entries ≡ false) × (n : ℕ) × LinkComesTo link entries (run.Truncated n))
EndsLink link entries (cause.BadMessage n) =
    (is_closed entries ≡ false) × LinkComesTo link entries (run.BadMessage n)
EndsLink link entries cause.Long =
    (is_closed entries ≡ false) × LinkComesTo link entries run.Long

-- how a run ends if its link gives no entry more
abbrev pub link_end : LinkCause → RunEnd
link_end cause.Closed = run.Closed
link_end (cause.BadMessage n) = run.BadMessage n
link_end cause.Long = run.Long
