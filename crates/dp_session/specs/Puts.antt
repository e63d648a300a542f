-- What putting a row makes of the tables, and the past that contracts see.
use Rattle.std.specs.Prelude.{◌≡◌, ℕ, Option, Result, Ok, Err, List, [], ◌∷◌, ◌++◌, length}
use Rattle.dp_keeper.specs.declared.row.Row.{Row}
use Rattle.dp_keeper.specs.declared.keeper.KeepError.{KeepError}
use Rattle.dp_keeper.specs.declared.keeper.KeepError.TheVariants.{Failed, Memory}
use Rattle.dp_epochs.specs.declared.event.Event.{Event}
use Rattle.dp_epochs.specs.declared.event.Reply.{Reply}
use Rattle.dp_epochs.specs.State.{acted}
use Rattle.dp_epochs.specs.Past.{Past, shut_with}
use Rattle.dp_tables.specs.SessionLog.{SessionLog, state_in}

-- the past of these tables, beside what else a session keeps
abbrev pub past_of : SessionLog → Option ℕ → Option (List Row) → ℕ → ℕ → Past
past_of tables first_fault known count read_faults = record {
  journal = tables.journal;
  shut = tables.shut;
  quiet = tables.quiet;
  first_fault = first_fault;
  known = known;
  count = count;
  read_faults = read_faults;
}

-- by what became of the row: the event has been kept, it was left out, or nothing was done
abbrev pub IsPut : SessionLog → Event → Result Reply KeepError → SessionLog → Type 0
IsPut old e (Ok reply) new =
    (new ≡ record old { journal = old.journal ++ e ∷ []; room = new.room })
    × (reply ≡ (acted (state_in old) e).reply)
IsPut old e (Err Failed) new =
    new ≡ record old { shut = shut_with (length old.journal) old.shut e; room = new.room }
IsPut old e (Err Memory) new = new ≡ record old { room = new.room }
