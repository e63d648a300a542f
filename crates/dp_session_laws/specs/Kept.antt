-- A session whose store follows its journal, and what a stop leaves of that.
use Rattle.std.specs.Prelude.{◌≡◌, ◌⊎◌, true, false, is_some, None, Some, IfSome, ⊤}
use Rattle.std.specs.Prelude.{List, [], ◌∷◌, ◌++◌}
use Rattle.dp_keeper.specs.declared.row.Row.{Row}
use Rattle.dp_keeper.specs.Store.{with_row}
use Rattle.dp_epochs.specs.declared.event.Event.{Event}
use Rattle.dp_epochs.specs.declared.event.Event.TheVariants.{Close}
use Rattle.dp_epochs.specs.Rows.{has_room}
use Rattle.dp_epochs.specs.Spelled.{HasRow}
use Rattle.dp_epochs.specs.Resumed.{AreRowsOf, NamesGiven}
use Rattle.dp_epochs.specs.Past.{Past, row_after, state_of}
use Rattle.dp_session_laws.specs.Logs.{LogEntry}

-- the store has the rows of the journal; after a put has failed it may have that of one event more
abbrev pub HoldsJournal : Past → List Row → Type 0
HoldsJournal past rows =
    AreRowsOf rows past.journal
    ⊎ ((is_some past.first_fault ≡ true) × (e : Event) × AreRowsOf rows (past.journal ++ e ∷ []))

-- there is no room for a Close any more
abbrev pub IsClosedUp : Past → Type 0
IsClosedUp past = has_room past.journal (Close 0) ≡ false

-- The store of the session, if its rows are known, follows the journal. Closings were refused
-- only after a put had failed, or if there is no room for a Close any more.
pub record IsStored (past : Past) : Type 0 where
  pub rows : IfSome past.known (HoldsJournal past)
  pub shut : (past.shut ≡ []) ⊎ (is_some past.first_fault ≡ true) ⊎ IsClosedUp past

-- the event has a row, and names a connection that was given out, if it names one
pub record IsPuttable (past : Past) (e : Event) : Type 0 where
  pub row : HasRow e
  pub given : NamesGiven (state_of past) e

-- the row of the event may be put: no put has failed, and there is room for it
pub record IsInFlight (past : Past) (e : Event) : Type 0 where
  pub unbroken : past.first_fault ≡ None
  pub room : has_room past.journal e ≡ true
  pub may : IsPuttable past e

-- what a stop leaves while the row of the event is put: the rows as they were, or with that one
abbrev pub MayLeave : Past → Event → List Row → Type 0
MayLeave past e rows =
    (past.known ≡ Some rows) ⊎ (with_row (row_after past e) past.known ≡ Some rows)

-- each event of the log has a row, and names a connection that was given out by then
abbrev pub ArePuttable : Past → List LogEntry → Type 0
ArePuttable past [] = ⊤
ArePuttable past (act ∷ log) = IsPuttable past act.event × ArePuttable act.left log
