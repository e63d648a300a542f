-- What the steps of a turn need.
use Rattle.std.specs.Prelude.{◌≡◌, ◌≤◌, Bool, true, false, List, [], ◌∷◌, ◌++◌, length, Option, Some}
use Rattle.std.specs.declared.snapshot.Snapshot.{Snapshot}
use Rattle.atomic_table.specs.Seated.{TableId}
use Rattle.atomic_table.specs.declared.shared.Seat.{Seat}
use Rattle.dp_hall.specs.declared.view.Entry.{Entry}
use Rattle.dp_hall.specs.declared.view.View.{View}
use Rattle.dp_hall.specs.declared.slot.Stored.{Stored}
use Rattle.dp_hall.specs.declared.listener.Acted.{Acted}
use Rattle.dp_hall.specs.Logs.{IsLegal, left_by, entries_by}
use Rattle.dp_hall.specs.Rule.{with_entry}
use Rattle.dp_hall.specs.Calls.{IsActOf, ActsBy}

-- the seat is of this table, which has five words and a slot
pub record IsAt (table seat : TableId) : Type 0 where
  pub same : seat ≡ table
  pub words : table.words ≡ 5
  pub slots : table.slots ≡ 1

module _ {E O M : Type 0} where
  -- the seat is live, and has nothing in hand
  abbrev pub IsIdle : Seat (Option (Stored E O M)) (View E O M) → Type 0
  IsIdle p = (p.me.1 ≡ []) × (p.me.0.live ≡ true) × (p.me.0.holds ≡ false)

  -- the seat has the turn, and what it has seen leaves this machine
  abbrev pub HasTurn : View E O M → M → Type 0
  HasTurn v machine =
      (m : M) × (v.live ≡ true) × (v.holds ≡ true) × (v.start ≡ Some m)
      × (machine ≡ left_by m v.seen)

  -- it has that machine in hand
  abbrev pub HasMachine : Seat (Option (Stored E O M)) (View E O M) → Type 0
  HasMachine p =
      (stored : Stored E O M) × (p.me.1 ≡ (0, Some stored) ∷ [])
      × HasTurn p.me.0 stored.machine.value

-- a machine took a step, which is stored beside it
pub record HasStepped {E O M : Type 0} (may : M → E → O → M → Type 0) (old : M) (event : E)
    (stored : Stored E O M) (outcome : O) : Type 0 where
  pub ev : Snapshot E
  pub out : Snapshot O
  pub last : stored.last ≡ Some (ev, out)
  pub event_is : ev.value ≡ event
  pub outcome_is : out.value ≡ outcome
  pub step_is : may old event outcome stored.machine.value

-- The seat has the turn, and acted once more: a step of the machine that its log leaves is an entry
-- of its own.
pub record ActsOn {E O M : Type 0} (may : M → E → O → M → Type 0) (u : View E O M) (event : E)
    (outcome : O) (w : View E O M) : Type 0 where
  pub entry : Entry E O M
  pub is : IsActOf u.name event entry
  pub outcome_is : entry.outcome ≡ outcome
  pub step : (m : M) → u.start ≡ Some m
      → may (left_by m u.seen) entry.event entry.outcome entry.left
  pub grows : w ≡ with_entry u entry

-- the seat took the turn, and acted these entries since, with nothing between them
pub record InTurn {E O M : Type 0} (may : M → E → O → M → Type 0) (v u : View E O M)
    (entries : List (Entry E O M)) : Type 0 where
  pub between : List (Entry E O M)
  pub seen : u.seen ≡ (v.seen ++ between) ++ entries
  pub mine : u.mine ≡ v.mine ++ entries
  pub same : u ≡ record v { holds = true; seen = u.seen; mine = u.mine; known = length u.seen }
  pub more : v.known ≤ length (v.seen ++ between)
  pub legal : (m : M) → v.start ≡ Some m → IsLegal may m u.seen
  pub own : entries_by v.name u.seen ≡ u.mine

-- in that turn it acted events, of which that came
pub record ActsInTurn {E O M : Type 0} (may : M → E → O → M → Type 0) (follows : O → Bool)
    (v : View E O M) (events : List E) (acted : Acted O) (u : View E O M) : Type 0 where
  pub entries : List (Entry E O M)
  pub turn : InTurn may v u entries
  pub count : acted.count ≡ length entries
  pub by : ActsBy follows v.name events entries acted.stop
