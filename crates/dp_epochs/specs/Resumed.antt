-- What rows that are kept lead to.
use Rattle.std.specs.Prelude.{◌≡◌, ℕ, true, is_some, Some, ⊤}
use Rattle.std.specs.Prelude.{List, [], ◌∷◌, ◌++◌, length, take, slice_get}
use Rattle.dp_keeper.specs.declared.row.Row.{Row}
use Rattle.dp_epochs.specs.declared.event.Event.{Event}
use Rattle.dp_epochs.specs.declared.event.Event.TheVariants.{Open, Say, Close}
use Rattle.dp_epochs.specs.Spelled.{RowSpells}
use Rattle.dp_epochs.specs.Rows.{has_room}
use Rattle.dp_epochs.specs.State.{State, connection_of}
use Rattle.dp_epochs.specs.Past.{state_after}

-- the event names no connection, or one that was given out
abbrev pub NamesGiven : State → Event → Type 0
NamesGiven s (Open name registered) = ⊤
NamesGiven s (Say conn m) = is_some (connection_of s conn) ≡ true
NamesGiven s (Close conn) = is_some (connection_of s conn) ≡ true

-- After the rows of these events the row may stand as that of one event more: it has the next
-- number and spells the event, its connection was given out, and there is room.
pub record MayStand (before : List Event) (row : Row) (e : Event) : Type 0 where
  pub number : row.n ≡ length before
  pub spells : RowSpells row.bytes e
  pub given : NamesGiven (state_after before []) e
  pub room : has_room before e ≡ true

-- after the rows of these events the row may not stand
abbrev pub MayNotStand : List Event → Row → Type 0
MayNotStand before row = (e : Event) → MayStand before row e → ⊥

-- after the rows of some events, further rows are those of further events
abbrev pub StandAfter : List Event → List Row → List Event → Type 0
StandAfter before [] [] = ⊤
StandAfter before [] (e ∷ events) = ⊥
StandAfter before (row ∷ rows) [] = ⊥
StandAfter before (row ∷ rows) (e ∷ events) =
    MayStand before row e × StandAfter (before ++ e ∷ []) rows events

-- the rows are those of a journal
abbrev pub AreRowsOf : List Row → List Event → Type 0
AreRowsOf rows journal = StandAfter [] rows journal

-- the row at this place is the first that may not stand
pub record IsFirstBad (rows : List Row) (n : ℕ) (row : Row) : Type 0 where
  pub before : List Event
  pub front : AreRowsOf (take n rows) before
  pub at : slice_get rows n ≡ Some row
  pub bad : MayNotStand before row
