-- What a link writes to its peer after the Welcome.
use Rattle.std.specs.Prelude.{◌≡◌, ℕ, ◌+◌, List, [], ◌∷◌, ◌++◌, length, Option, Result}
use Rattle.std.specs.Prelude.{Ok, Err, IfOk}
use Rattle.std.specs.Io.KnownBytes.{Appends}
use Rattle.dp_io.specs.Faults.{Rose}
use Rattle.dp_io.specs.Streams.{GrowsByPrefix}
use Rattle.dp_messages.specs.declared.message.Entry.{Entry}
use Rattle.dp_history.specs.Frames.{frames_of}
use Rattle.dp_hall.specs.Logs.{left_by}
use Rattle.dp_epochs.specs.declared.event.Query.TheVariants.{Pull}
use Rattle.dp_epochs.specs.Past.{Past, state_of}
use Rattle.dp_epochs.specs.Pull.{answered}
use Rattle.dp_history.specs.Pages.{IsPage}
use Rattle.dp_session_laws.specs.Feeds.{Segment, IsFeed, feed_entries, IsGone}
use Rattle.dp_link.specs.declared.ends.DownEnd.{DownEnd}
use Rattle.dp_link.specs.declared.ends.DownEnd.TheVariants as down
use Rattle.dp_link.specs.declared.pages.Asked.{Asked}
use Rattle.dp_link.specs.declared.pages.Cursor.{Cursor}
use Rattle.dp_link.specs.Acts.{SeatView}

-- the session that what a seat has seen leaves, if the hall began with this one
abbrev pub session_of : Past → SeatView → Past
session_of start view = left_by start view.seen

-- By the end, the peer took these bytes: all of them if nothing more is to come, and else the
-- first of them.
abbrev pub TookBy : DownEnd → Option (List ℕ) → Option (List ℕ) → List ℕ → Type 0
TookBy down.Gone held taken bytes = Appends held taken bytes
TookBy down.WriteFault held taken bytes = GrowsByPrefix held taken bytes
TookBy down.Memory held taken bytes = GrowsByPrefix held taken bytes
TookBy down.NotGreeted held taken bytes = ⊥

-- The peer took the frames of a feed of the connection, or the first of them. If nothing more is
-- to come the feed has ended.
pub record Sends (past : Past) (conn : ℕ) (held taken : Option (List ℕ)) (end : DownEnd)
    : Type 0 where
  pub earlier : List Segment
  pub last : Segment
  pub feed : IsFeed (state_of past) conn (earlier ++ last ∷ [])
  pub took : TookBy end held taken (frames_of (feed_entries (earlier ++ last ∷ [])))
  pub gone : end ≡ down.Gone → IsGone past conn last

-- the count of faults of the link's sink: WriteFault comes only if it rose, and else it stays
abbrev pub FaultMatchesDown : DownEnd → ℕ → ℕ → Type 0
FaultMatchesDown down.WriteFault before now = Rose before now
FaultMatchesDown down.Gone before now = now ≡ before
FaultMatchesDown down.NotGreeted before now = now ≡ before
FaultMatchesDown down.Memory before now = now ≡ before

-- ---- parts of it

-- the peer took the frames of a feed up to the cursor
pub record SentTo (past : Past) (conn : ℕ) (held taken : Option (List ℕ)) (cursor : Cursor)
    : Type 0 where
  pub earlier : List Segment
  pub last : Segment
  pub feed : IsFeed (state_of past) conn (earlier ++ last ∷ [])
  pub epoch_is : cursor.epoch ≡ last.epoch
  pub at_is : cursor.at ≡ length last.entries
  pub took : Appends held taken (frames_of (feed_entries (earlier ++ last ∷ [])))

-- by what came of a page
abbrev pub SendsPage : {T : Type 0} → Past → ℕ → Option (List ℕ) → Option (List ℕ) → Cursor
    → Result T DownEnd → Type 0
SendsPage past conn held taken cursor (Ok more) = SentTo past conn held taken cursor
SendsPage past conn held taken cursor (Err end) = Sends past conn held taken end

-- By what came of writing a page of an epoch from this place on: it was written, and the cursor
-- stands after it; or the first bytes of it were.
abbrev pub WritesPage : {T : Type 0} → Result T DownEnd → Option (List ℕ) → Option (List ℕ) → ℕ
    → ℕ → List Entry → Cursor → Type 0
WritesPage (Ok more) held taken epoch at list cursor =
    Appends held taken (frames_of list) × (cursor.epoch ≡ epoch)
    × (cursor.at ≡ at + length list)
WritesPage (Err down.WriteFault) held taken epoch at list cursor =
    GrowsByPrefix held taken (frames_of list)
WritesPage (Err down.Memory) held taken epoch at list cursor =
    GrowsByPrefix held taken (frames_of list)
WritesPage (Err down.Gone) held taken epoch at list cursor = ⊥
WritesPage (Err down.NotGreeted) held taken epoch at list cursor = ⊥

-- the count of the sink's faults after a page: it stays if one was written, and else goes by the
-- end
abbrev pub FaultMatchesPage : {T : Type 0} → Result T DownEnd → ℕ → ℕ → Type 0
FaultMatchesPage (Ok more) before now = now ≡ before
FaultMatchesPage (Err end) before now = FaultMatchesDown end before now

-- What was asked for a peer has come: a page that begins at its cursor, of some number of entries,
-- as frames. Or memory ran out.
pub record SeesPage (old : Asked) (past : Past) (new : Asked) : Type 0 where
  pub conn : new.conn ≡ old.conn
  pub cursor : new.cursor ≡ old.cursor
  pub page : IfOk new.page (λ page. IsPage
      (λ most. answered past (Pull old.conn old.cursor.epoch old.cursor.at most)) page new.frames)
