-- What has come to a session, and where it leads.
use Rattle.std.specs.Prelude.{◌≡◌, ◌⊎◌, ℕ, ◌+◌, ◌||◌, ◌==◌, if◌then◌else◌, is_some}
use Rattle.std.specs.Prelude.{Option, None, Some, MatchBool, Result, Ok, Err}
use Rattle.std.specs.Prelude.{List, [], ◌∷◌, ◌++◌, length, map}
use Rattle.std.specs.List.{filter, fold, list_any, range_with_len}
use Rattle.std.specs.declared.alloc.AllocError.{AllocError}
use Rattle.dp_io.specs.Faults.{Rose}
use Rattle.dp_keeper.specs.declared.row.Row.{Row}
use Rattle.dp_keeper.specs.Store.{with_row}
use Rattle.dp_epochs.specs.declared.event.Event.{Event}
use Rattle.dp_epochs.specs.declared.event.Event.TheVariants as event
use Rattle.dp_epochs.specs.declared.event.Reply.{Reply}
use Rattle.dp_epochs.specs.declared.event.Reply.TheVariants.{Ended, StoreFault}
use Rattle.dp_epochs.specs.declared.event.ShutAt.{ShutAt}
use Rattle.dp_epochs.specs.Rows.{row_of, has_room}
use Rattle.dp_epochs.specs.State.{State, first_state, acted, after_event, after_shut}
use Rattle.dp_epochs.specs.State.{connection_of}

-- What contracts see of a session. A closing that a store fault or the limits refused is in `shut`,
-- with the number of events before it.
pub record Past : Type 0 where
  -- the events that were kept
  pub journal : List Event
  -- the closings that were refused, each with how many events were kept before it
  pub shut : List ShutAt
  -- the connections whose Close was refused because memory ran out, by rising number
  pub quiet : List ℕ
  -- how many puts of the keeper had failed when one of this session failed first
  pub first_fault : Option ℕ
  -- the keeper's rows, if they are known
  pub known : Option (List Row)
  -- how many of its puts have failed
  pub count : ℕ
  -- how many of its readings have failed
  pub read_faults : ℕ

-- ---- where it leads

-- an event that was kept, or a connection that was closed by a Close that was refused
pub data LogItem : Type 0 where
  Journalled : Event → LogItem
  RefusedClose : ℕ → LogItem

-- the connections that were closed so while n events were kept
abbrev pub shut_at : ℕ → List ShutAt → List LogItem
shut_at n shut = map (λ s. RefusedClose s.conn) (filter (λ s. s.n == n) shut)

-- all in one list, from the moment on when n events were kept
abbrev pub interleaved : ℕ → List Event → List ShutAt → List LogItem
interleaved n [] shut = shut_at n shut
interleaved n (e ∷ journal) shut = shut_at n shut ++ (Journalled e
    ∷ interleaved (n + 1) journal shut)

-- the state after a happening
abbrev pub after_item : State → LogItem → State
after_item s (Journalled e) = after_event s e
after_item s (RefusedClose conn) = after_shut s conn

-- the state to which events and closings that were refused lead
abbrev pub state_after : List Event → List ShutAt → State
state_after journal shut = fold after_item first_state (interleaved 0 journal shut)

-- the state to which a session's past leads
abbrev pub state_of : Past → State
state_of past = state_after past.journal past.shut

-- the event's own answer
abbrev pub answer_to : Past → Event → Reply
answer_to past e = (acted (state_of past) e).reply

-- ---- one step

-- the row that is kept of an event
abbrev pub row_after : Past → Event → Row
row_after past e = record { n = length past.journal; bytes = row_of e }

-- the past after an event that was kept
abbrev pub kept : Past → Event → Past
kept past e = record past {
  journal = past.journal ++ e ∷ [];
  known = with_row (row_after past e) past.known;
}

-- the closings with one more, if the event that was refused is a Close
abbrev pub shut_with : ℕ → List ShutAt → Event → List ShutAt
shut_with n shut (event.Open name registered) = shut
shut_with n shut (event.Say conn m) = shut
shut_with n shut (event.Close conn) = shut ++ record { conn = conn; n = n } ∷ []

-- the past after an event that a store fault or the limits refused
abbrev pub refused : Past → Event → Past
refused past e = record past { shut = shut_with (length past.journal) past.shut e }

-- the quiet connections with one more, if it was given out
abbrev pub quiet_with : State → ℕ → List ℕ → List ℕ
quiet_with s conn quiet =
    if is_some (connection_of s conn)
    then filter (λ number. number == conn || list_any (λ other. other == number) quiet)
    (range_with_len 1 (length s.connections))
    else quiet

-- the past after an event that was refused because memory ran out
abbrev pub quieted : Past → Event → Past
quieted past (event.Open name registered) = past
quieted past (event.Say conn m) = past
quieted past (event.Close conn) =
    record past { quiet = quiet_with (state_of past) conn past.quiet }

-- the first failed put: the keeper counted it, with the row or without it
pub record FailsFirst (old : Past) (e : Event) (answer : Reply) (new : Past) : Type 0 where
  pub count : ℕ
  pub known : Option (List Row)
  pub rose : Rose old.count count
  pub rows : (known ≡ old.known) ⊎ (known ≡ with_row (row_after old e) old.known)
  pub reply : answer ≡ StoreFault count
  pub after : new ≡ record (refused old e) {
    first_fault = Some count;
    known = known;
    count = count;
  }

-- the event was kept, and answered by its own answer
pub record Accepts (old : Past) (e : Event) (answer : Reply) (new : Past) : Type 0 where
  pub reply : answer ≡ answer_to old e
  pub after : new ≡ kept old e

-- the event was refused with this answer
pub record Refuses (old : Past) (e : Event) (refusal answer : Reply) (new : Past) : Type 0 where
  pub reply : answer ≡ refusal
  pub after : new ≡ refused old e

-- What may be answered, by whether a put has failed before. If one has, it is that fault, for ever.
-- Else it is that the session has ended, exactly if there is no room. Else it is the event's own
-- answer, or the first fault.
abbrev pub Serves : Option ℕ → Past → Event → Reply → Past → Type 0
Serves (Some first) old e answer new = Refuses old e (StoreFault first) answer new
Serves None old e answer new =
    MatchBool (has_room old.journal e)
    (Accepts old e answer new ⊎ FailsFirst old e answer new)
    (Refuses old e Ended answer new)

-- one step of a session; out of memory keeps nothing, and makes the connection of a Close quiet
abbrev pub Step : Past → Event → Result Reply AllocError → Past → Type 0
Step old e (Ok answer) new = Serves old.first_fault old e answer new
Step old e (Err want) new = new ≡ quieted old e

-- the step over a keeper that never fails and whose rows are known
abbrev pub sure_step : Past → Event → Past
sure_step past e = if has_room past.journal e then kept past e else refused past e

-- and its answer
abbrev pub sure_answer : Past → Event → Reply
sure_answer past e = if has_room past.journal e then answer_to past e else Ended
