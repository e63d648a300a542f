-- What comes of resuming a session over a store.
use Rattle.std.specs.Prelude.{◌≡◌, ℕ, ◌+◌, ◌<◌, Bool, true, false, Option, None, Some, IfSome}
use Rattle.std.specs.Prelude.{Result, Ok, Err, ⊤}
use Rattle.std.specs.Prelude.{List, [], ◌++◌, length, take, slice_get}
use Rattle.dp_io.specs.Faults.{Rose}
use Rattle.dp_keeper.specs.declared.row.Row.{Row}
use Rattle.dp_epochs.specs.declared.event.Event.{Event}
use Rattle.dp_epochs.specs.Past.{Past}
use Rattle.dp_epochs.specs.Rows.{event_limit}
use Rattle.dp_epochs.specs.Resumed.{MayNotStand, StandAfter, AreRowsOf, IsFirstBad}
use Rattle.dp_tables.specs.SessionLog.{SessionLog}
use Rattle.dp_tables.specs.Replay.{Replays}
use Rattle.dp_session.specs.declared.resume.ResumeFault.{ResumeFault}
use Rattle.dp_session.specs.declared.resume.ResumeFault.TheVariants.{StoreFault, BadRow, Memory}

-- the past of a session to which these events came before it began
abbrev pub resumed : List Event → Option (List Row) → ℕ → ℕ → Past
resumed journal known count read_faults = record {
  journal = journal;
  shut = [];
  quiet = [];
  first_fault = None;
  known = known;
  count = count;
  read_faults = read_faults;
}

-- the row may not stand after the rows of some events, as many as are told
abbrev pub IsBadAfter : ℕ → Row → Type 0
IsBadAfter n row =
    (before : List Event) × (length before ≡ n) × MayNotStand before row

-- a row that is told with its place may not stand there; if the rows are known it is the first
abbrev pub IsBad : Option (List Row) → ResumeFault → Type 0
IsBad known StoreFault = ⊤
IsBad known (BadRow n row) = IsBadAfter n row × IfSome known (λ rows. IsFirstBad rows n row)
IsBad known Memory = ⊤

-- the store's count of readings that failed: it rose if the store failed, and stays else
abbrev pub CountsFault : ℕ → ResumeFault → ℕ → Type 0
CountsFault before StoreFault now = Rose before now
CountsFault before (BadRow n row) now = now ≡ before
CountsFault before Memory now = now ≡ before

-- ---- how it is read

-- the count after a part of the store was read, or not
abbrev pub CountsRead : {T : Type 0} → ℕ → Result T ResumeFault → ℕ → Type 0
CountsRead before (Ok done) now = now ≡ before
CountsRead before (Err why) now = CountsFault before why now

-- of a page of rows the first that may not stand after those of these events is this one
pub record IsBadOf (before : List Event) (page : List Row) (n : ℕ) (row : Row) : Type 0 where
  pub index : ℕ
  pub events : List Event
  pub front : StandAfter before (take index page) events
  pub at : slice_get page index ≡ Some row
  pub place : n ≡ length before + index
  pub bad : MayNotStand (before ++ events) row

-- what reading one row makes of the tables: its event joins those so far, or it may not stand, or
-- memory ran out
abbrev pub ReadsRow : SessionLog → Row → Result Unit ResumeFault → SessionLog → Type 0
ReadsRow old row (Ok done) new = Replays old row true new
ReadsRow old row (Err StoreFault) new = ⊥
ReadsRow old row (Err (BadRow n other)) new =
    (n ≡ length old.journal) × (other ≡ row) × MayNotStand old.journal row
ReadsRow old row (Err Memory) new = ⊤

-- What reading a page makes of the tables: the events of its rows join those so far, or one of the
-- rows may not stand, or memory ran out.
abbrev pub ReadsPage : SessionLog → List Row → Result Unit ResumeFault → SessionLog → Type 0
ReadsPage old page (Ok done) new =
    (events : List Event) × StandAfter old.journal page events
    × (new ≡ record old { journal = old.journal ++ events; room = new.room })
ReadsPage old page (Err StoreFault) new = ⊥
ReadsPage old page (Err (BadRow n row)) new = IsBadOf old.journal page n row
ReadsPage old page (Err Memory) new = ⊤

-- nothing was refused, and the events are those of the store's first rows, if these are known
pub record HasFirst (known : Option (List Row)) (tables : SessionLog) : Type 0 where
  pub rows : IfSome known (λ rows. AreRowsOf (take (length tables.journal) rows) tables.journal)
  pub shut : tables.shut ≡ []
  pub quiet : tables.quiet ≡ []

-- nothing was refused, and the events are those of all the store's rows, if these are known
pub record HasAll (known : Option (List Row)) (tables : SessionLog) : Type 0 where
  pub rows : IfSome known (λ rows. AreRowsOf rows tables.journal)
  pub shut : tables.shut ≡ []
  pub quiet : tables.quiet ≡ []

-- There were more rows, of which there may be at most `event_limit`, or there are no more; or one
-- may not stand.
abbrev pub ReadsNext : Option (List Row) → SessionLog → Result Bool ResumeFault → SessionLog
    → Type 0
ReadsNext known old (Ok true) new =
    HasFirst known new × (length old.journal < event_limit)
    × (length old.journal < length new.journal)
ReadsNext known old (Ok false) new = HasAll known new
ReadsNext known old (Err why) new = IsBad known why
