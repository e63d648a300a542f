-- What the tables of a session are to the ledger that contracts see.
use Rattle.std.specs.Prelude.{◌≡◌, ◌+◌, ◌≤◌, ◌&&◌, Bool, nat_lt, nat_le, length, All, vec_len}
use Rattle.std.specs.Prelude.{vec_capacity}
use Rattle.dp_epochs.specs.Rows.{row_bytes, event_limit, byte_limit}
use Rattle.dp_history.specs.Made.{AreMadeOf}
use Rattle.dp_commit.specs.Marks.{quiet_of}
use Rattle.dp_tables.specs.declared.tables.Tables.TheInside.{Inside}
use Rattle.dp_tables.specs.SessionLog.{SessionLog, state_in}
use Rattle.dp_commit.specs.Tables.{Seen, AreOf, seen_in}

-- memory is ready for any one event
abbrev pub is_ready : Inside → Bool
is_ready t =
    nat_lt (vec_len t.journal) (vec_capacity t.journal)
    && nat_lt (vec_len t.shut) (vec_capacity t.shut)
    && nat_lt (vec_len t.roster.connections) (vec_capacity t.roster.connections)
    && nat_lt (vec_len t.roster.quiet) (vec_capacity t.roster.quiet)
    && nat_lt (vec_len t.sending.parts) (vec_capacity t.sending.parts)
    && nat_le (vec_len t.live.history + 2) (vec_capacity t.live.history)
    && nat_le 2 t.live.rights.room

-- what contracts see
abbrev pub ledger_of : Inside → SessionLog
ledger_of t = record {
  journal = t.journal.items;
  shut = t.shut.items;
  quiet = quiet_of t.roster.quiet.items;
  room = is_ready t;
}

-- the part that stands for a state
abbrev pub seen : Inside → Seen
seen t = seen_in t.journal.items t.roster t.sending t.live

-- the tables are those of the state to which the ledger leads, and lie within the limits
pub record AreTables (t : Inside) : Type 0 where
  pub of : AreOf (state_in (ledger_of t)) (seen t)
  pub before : All (λ s. s.n ≤ length t.journal.items) t.shut.items
  pub bytes : t.row_bytes ≡ row_bytes t.journal.items
  pub events : length t.journal.items ≤ event_limit
  pub within : t.row_bytes ≤ byte_limit
  pub flags : length t.roster.quiet.items ≡ length t.roster.connections.items
  pub frames : AreMadeOf t.live.frames (state_in (ledger_of t)).live
