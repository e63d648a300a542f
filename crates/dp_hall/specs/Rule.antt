-- The rule of the table, and what each step tells the seat that takes it. Word 0 is the number of
-- acts that have ended. Word 1 is 1 while a seat has the turn. Word 2 never changes: who sleeps on
-- it is woken by time alone. Words 3 and 4 count who sleeps until the turn is free, and until more
-- acts have ended. Slot 0 has the machine, which is at home while nobody has the turn.
use Rattle.std.specs.Prelude.{◌≡◌, ◌≢◌, ℕ, ◌+◌, ◌<◌, ◌≤◌, nat_le, max, true, false, if◌then◌else◌}
use Rattle.std.specs.Prelude.{List, [], ◌∷◌, ◌++◌, map, length, slice_index, Option, Some, None}
use mathlib.Core.Option.{some}
use mathlib.Core.List.{IsPrefix}
use lib.ListN.{get_elem?}
use Rattle.std.specs.declared.snapshot.Snapshot.{Snapshot}
use Rattle.atomic_table.specs.Table.{State, Me, Step}
use Rattle.dp_hall.specs.declared.view.Entry.{Entry}
use Rattle.dp_hall.specs.declared.view.View.{View}
use Rattle.dp_hall.specs.declared.slot.Stored.{Stored}
use Rattle.dp_hall.specs.Logs.{IsLegal, left_by, entries_by}
use Rattle.dp_hall.specs.Names.{IsIn, AreDistinct, children, names, tag, Named, Logged}

module _ {E O M : Type 0} where
  -- the seat of the start: the empty name, 0 known and only empty lists
  abbrev pub first_view : M → View E O M
  first_view m = record {
    live = true;
    holds = false;
    start = Some m;
    name = [];
    seen = [];
    mine = [];
    known = 0;
    olds = [];
    made = [];
    splits = 0;
    other = [];
  }

  -- what is left of a seat that was joined into another
  abbrev pub spent_view : View E O M
  spent_view = record {
    live = false;
    holds = false;
    start = None;
    name = [];
    seen = [];
    mine = [];
    known = 0;
    olds = [];
    made = [];
    splits = 0;
    other = [];
  }

-- what ties a view to the log
pub record FitsLog {E O M : Type 0} (start : M) (log : List (Entry E O M)) (v : View E O M)
    : Type 0 where
  pub begins : v.live ≡ true → v.start ≡ Some start
  pub seen_prefix : IsPrefix v.seen log
  pub other_prefix : IsPrefix v.other log
  pub known_log : v.known ≤ length log
  pub seen_known : length v.seen ≤ v.known
  pub mine : v.live ≡ true → entries_by v.name log ≡ v.mine
  pub mine_seen : v.live ≡ true → entries_by v.name v.seen ≡ v.mine
  pub held : v.holds ≡ true → v.seen ≡ log
  pub idle : v.live ≡ false → v.holds ≡ false

-- the count, and whose turn it is
pub record Turn {E O M : Type 0} (start : M) (log : List (Entry E O M))
    (s : State (Option (Stored E O M)) (View E O M)) : Type 0 where
  pub wide : length s.words ≡ 5
  pub count : slice_index s.words 0 ≡ length log
  -- while the turn is free, the machine that the log leaves is at home
  pub home : slice_index s.words 1 ≡ 0
      → (stored : Stored E O M) × (get_elem? s.homes 0 ≡ some (some (Some stored)))
      × (stored.machine.value ≡ left_by start log)
  pub nobody : slice_index s.words 1 ≡ 0
      → (i : ℕ) (v : View E O M) → get_elem? s.views i ≡ some v → v.holds ≡ false
  pub somebody : slice_index s.words 1 ≢ 0
      → (i : ℕ) × (v : View E O M) × (get_elem? s.views i ≡ some v) × (v.holds ≡ true)
  pub one : (i j : ℕ) (v w : View E O M) → get_elem? s.views i ≡ some v
      → get_elem? s.views j ≡ some w → v.holds ≡ true → w.holds ≡ true → i ≡ j

-- the rule: there is a legal log that everything fits
pub record IsKept {E O M : Type 0} (may : M → E → O → M → Type 0) (start : M)
    (s : State (Option (Stored E O M)) (View E O M)) : Type 0 where
  pub log : List (Entry E O M)
  pub legal : IsLegal may start log
  pub turn : Turn start log s
  pub each : (i : ℕ) (v : View E O M) → get_elem? s.views i ≡ some v → FitsLog start log v
  pub named : Named (map tag s.views)
  pub logged : Logged (map tag s.views) log

-- a seat with what it has in hand
abbrev pub SeatState : Type 0 → Type 0 → Type 0 → Type 0
SeatState E O M = Me (Option (Stored E O M)) (View E O M)

-- the seat has the turn now, and with it this machine; it has seen the whole log
pub record HasTaken {E O M : Type 0} (may : M → E → O → M → Type 0) (v w : View E O M) (machine : M)
    : Type 0 where
  pub view : w ≡ record v { holds = true; seen = w.seen; known = length w.seen }
  pub longer : IsPrefix v.seen w.seen
  pub more : v.known ≤ length w.seen
  pub legal : (m : M) × (v.start ≡ Some m) × IsLegal may m w.seen × (machine ≡ left_by m w.seen)
  pub mine : entries_by v.name w.seen ≡ v.mine

-- what the whole table shows of a seat
pub record IsConfirmed {E O M : Type 0} (may : M → E → O → M → Type 0) (v : View E O M)
    : Type 0 where
  pub legal : (m : M) → v.start ≡ Some m → IsLegal may m v.seen
  pub seen_known : length v.seen ≤ v.known
  pub mine : entries_by v.name v.seen ≡ v.mine
  pub prefix : length v.other ≤ length v.seen → IsPrefix v.other v.seen
  pub distinct : AreDistinct (names v)
  pub fresh : (k : ℕ) (more : List ℕ) → IsIn (v.name ++ k ∷ more) (names v ++ v.made) → k < v.splits
  pub counted : v.splits ≡ children v.name v.made

module _ {E O M : Type 0} where
  -- a try: the turn was free and is the seat's; or it was not, and nothing changed
  abbrev pub took : (M → E → O → M → Type 0)
      → Step (Option (Stored E O M)) → SeatState E O M → ℕ → SeatState E O M → Type 0
  took may st m r n =
      (r ≡ 0 → (stored : Stored E O M) × (n.1 ≡ (0, Some stored) ∷ [])
      × HasTaken may m.0 n.0 stored.machine.value)
      × (r ≢ 0 → (n.0 ≡ m.0) × (n.1 ≡ m.1))

  -- the view with one entry more of its own
  abbrev pub with_entry : View E O M → Entry E O M → View E O M
  with_entry v e = record v {
    seen = v.seen ++ e ∷ [];
    mine = v.mine ++ e ∷ [];
    known = length v.seen + 1;
  }

  -- the entry of a seat that is stored with this event and outcome
  abbrev pub stored_entry : View E O M → M → Snapshot E → Snapshot O → Entry E O M
  stored_entry v machine event outcome =
      record { by = v.name; event = event.value; outcome = outcome.value; left = machine }

  -- what is in hand is an entry now
  abbrev pub counted : Step (Option (Stored E O M)) → SeatState E O M → ℕ → SeatState E O M → Type 0
  counted st m r n =
      (stored : Stored E O M) (event : Snapshot E) (outcome : Snapshot O)
      → m.1 ≡ (0, Some stored) ∷ [] → stored.last ≡ Some (event, outcome)
      → (n.0 ≡ with_entry m.0 (stored_entry m.0 stored.machine.value event outcome)) × (n.1 ≡ m.1)

  -- the turn is given back
  abbrev pub given_back : Step (Option (Stored E O M)) → SeatState E O M → ℕ → SeatState E O M
      → Type 0
  given_back st m r n = (n.0 ≡ record m.0 { holds = false }) × (n.1 ≡ [])

  -- the count was read
  abbrev pub looked : Step (Option (Stored E O M)) → SeatState E O M → ℕ → SeatState E O M → Type 0
  looked st m r n =
      (n.0 ≡ record m.0 { known = r }) × (n.1 ≡ m.1) × (m.0.known ≤ r)
      × (m.0.holds ≡ true → r ≡ length m.0.seen)

  -- a word that the rule does not read changed
  abbrev pub stayed : Step (Option (Stored E O M)) → SeatState E O M → ℕ → SeatState E O M → Type 0
  stayed st m r n = (n.0 ≡ m.0) × (n.1 ≡ m.1)

  -- what a split or a join left is sound
  abbrev pub confirmed : (M → E → O → M → Type 0)
      → Step (Option (Stored E O M)) → SeatState E O M → ℕ → SeatState E O M → Type 0
  confirmed may st m r n = (n.0 ≡ record m.0 { other = [] }) × (n.1 ≡ m.1) × IsConfirmed may m.0

  -- the name of a seat's next split
  abbrev pub child_name : View E O M → List ℕ
  child_name v = v.name ++ v.splits ∷ []

  -- the seat that stays at a split, and the new one
  abbrev pub split_left : View E O M → View E O M
  split_left v = record v { made = v.made ++ child_name v ∷ []; splits = v.splits + 1 }

  abbrev pub split_right : View E O M → View E O M
  split_right v = record {
    live = true;
    holds = false;
    start = v.start;
    name = child_name v;
    seen = v.seen;
    mine = [];
    known = v.known;
    olds = [];
    made = [];
    splits = 0;
    other = [];
  }

  -- the longer of two lists, and the other
  abbrev pub longer : List (Entry E O M) → List (Entry E O M) → List (Entry E O M)
  longer xs ys = if nat_le (length ys) (length xs) then xs else ys

  abbrev pub shorter : List (Entry E O M) → List (Entry E O M) → List (Entry E O M)
  shorter xs ys = if nat_le (length ys) (length xs) then ys else xs

  -- two seats as one
  abbrev pub joined : View E O M → View E O M → View E O M
  joined v w = record v {
    seen = longer v.seen w.seen;
    known = max v.known w.known;
    olds = v.olds ++ (w.name, w.mine) ∷ w.olds;
    made = v.made ++ w.made;
    other = shorter v.seen w.seen;
  }
