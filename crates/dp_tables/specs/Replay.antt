-- What reading one kept row back makes of the tables of a session.
use Rattle.std.specs.Prelude.{◌≡◌, Bool, true, false, [], ◌∷◌, ◌++◌}
use Rattle.dp_keeper.specs.declared.row.Row.{Row}
use Rattle.dp_epochs.specs.declared.event.Event.{Event}
use Rattle.dp_epochs.specs.Resumed.{MayStand, MayNotStand}
use Rattle.dp_tables.specs.SessionLog.{SessionLog}

-- If the row may stand after those of the events so far, its event joins them; if it may not,
-- nothing changes.
abbrev pub Replays : SessionLog → Row → Bool → SessionLog → Type 0
Replays old row true new =
    (e : Event) × MayStand old.journal row e
    × (new ≡ record old { journal = old.journal ++ e ∷ []; room = new.room })
Replays old row false new = MayNotStand old.journal row × (new ≡ old)
