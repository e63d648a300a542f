-- What callers see of a hall and of a seat.
use Rattle.std.specs.Prelude.{◌≡◌, ◌⊎◌, ℕ, ◌+◌, ◌<◌, ◌≤◌, Bool, true, false, ⊤}
use Rattle.std.specs.Prelude.{List, [], ◌∷◌, ◌++◌, length, max, Option, Some, None}
use mathlib.Core.List.{IsPrefix}
use Rattle.atomic_table.specs.Seated.{TableId}
use Rattle.dp_hall.specs.declared.view.Entry.{Entry}
use Rattle.dp_hall.specs.declared.view.View.{View}
use Rattle.dp_hall.specs.declared.listener.Acted.{Acted}
use Rattle.dp_hall.specs.Logs.{IsLegal, left_by, entries_by}
use Rattle.dp_hall.specs.Names.{IsIn, AreDistinct, children, old_names, names}

-- a hall: which it is, and the machine at the start
pub record HallValue (M : Type 0) : Type 0 where
  pub table : TableId
  pub start : M

-- a seat: which hall's it is, and what it knows
pub record SeatValue (E O M : Type 0) : Type 0 where
  pub table : TableId
  pub view : View E O M

-- the seat is of the hall
pub record IsOf {E O M : Type 0} (hall : HallValue M) (seat : SeatValue E O M) : Type 0 where
  pub table : seat.table ≡ hall.table
  pub start : seat.view.start ≡ Some hall.start

-- what is true of each seat between calls
pub record IsSound {E O M : Type 0} (may : M → E → O → M → Type 0) (v : View E O M) : Type 0 where
  pub live : v.live ≡ true
  pub rests : v.holds ≡ false
  pub alone : v.other ≡ []
  -- what it has seen is legal from the machine at the start
  pub legal : (m : M) × (v.start ≡ Some m) × IsLegal may m v.seen
  pub seen_known : length v.seen ≤ v.known
  -- its own entries are exactly those that it has seen with its name
  pub mine : entries_by v.name v.seen ≡ v.mine
  -- the names that it knows of: its own, those joined into it, and those that these made
  pub distinct : AreDistinct (names v)
  pub fresh : (k : ℕ) (more : List ℕ) → IsIn (v.name ++ k ∷ more) (names v ++ v.made) → k < v.splits
  -- it made `splits` of them itself
  pub counted : v.splits ≡ children v.name v.made

-- an act: what was seen grows, by others' entries and then by this one
pub record Acts {E O M : Type 0} (v : View E O M) (event : E) (outcome : O) (w : View E O M)
    : Type 0 where
  pub entry : Entry E O M
  pub between : List (Entry E O M)
  pub event_is : entry.event ≡ event
  pub outcome_is : entry.outcome ≡ outcome
  pub by_is : entry.by ≡ v.name
  pub seen : w.seen ≡ (v.seen ++ between) ++ entry ∷ []
  pub more : v.known < length w.seen
  pub mine : w.mine ≡ v.mine ++ entry ∷ []
  pub same : w ≡ record v { seen = w.seen; mine = w.mine; known = length w.seen }

-- the entry is an act of this event under the name
pub record IsActOf {E O M : Type 0} (name : List ℕ) (event : E) (entry : Entry E O M) : Type 0 where
  pub by_is : entry.by ≡ name
  pub event_is : entry.event ≡ event

module _ {E O M : Type 0} where
  -- the entries are acts of these events under the name, in order, and after each the next follows
  abbrev pub AreActs : (O → Bool) → List ℕ → List E → List (Entry E O M) → Type 0
  AreActs follows name [] [] = ⊤
  AreActs follows name [] (entry ∷ entries) = ⊥
  AreActs follows name (event ∷ events) [] = ⊥
  AreActs follows name (event ∷ events) (entry ∷ entries) =
      IsActOf name event entry × (follows entry.outcome ≡ true)
      × AreActs follows name events entries

-- the entries are such acts up to one with this outcome, after which none follows
pub record AreActsTo {E O M : Type 0} (follows : O → Bool) (name : List ℕ) (events : List E)
    (entries : List (Entry E O M)) (outcome : O) : Type 0 where
  pub earlier : List E
  pub event : E
  pub later : List E
  pub before : List (Entry E O M)
  pub last : Entry E O M
  pub events_are : events ≡ earlier ++ event ∷ later
  pub entries_are : entries ≡ before ++ last ∷ []
  pub acts : AreActs follows name earlier before
  pub is : IsActOf name event last
  pub outcome_is : last.outcome ≡ outcome
  pub stops : follows outcome ≡ false

module _ {E O M : Type 0} where
  -- by the outcome at which it stopped, if it did: acts of all these events, or of the first
  abbrev pub ActsBy : (O → Bool) → List ℕ → List E → List (Entry E O M) → Option O → Type 0
  ActsBy follows name events entries None = AreActs follows name events entries
  ActsBy follows name events entries (Some outcome) =
      AreActsTo follows name events entries outcome

-- what was seen grew, by others' entries and then by these of its own
pub record Grows {E O M : Type 0} (v : View E O M) (entries : List (Entry E O M)) (w : View E O M)
    : Type 0 where
  pub between : List (Entry E O M)
  pub seen : w.seen ≡ (v.seen ++ between) ++ entries
  pub more : v.known + length entries ≤ length w.seen
  pub mine : w.mine ≡ v.mine ++ entries
  pub same : w ≡ record v { seen = w.seen; mine = w.mine; known = length w.seen }

-- acts of several events in one turn: nobody's entry stands between them
pub record ActsEach {E O M : Type 0} (follows : O → Bool) (v : View E O M) (events : List E)
    (acted : Acted O) (w : View E O M) : Type 0 where
  pub entries : List (Entry E O M)
  pub grows : Grows v entries w
  pub count : acted.count ≡ length entries
  pub by : ActsBy follows v.name events entries acted.stop

-- a query: the log so far was seen
pub record Asks {E O M : Type 0} (v w : View E O M) : Type 0 where
  pub longer : IsPrefix v.seen w.seen
  pub more : v.known ≤ length w.seen
  pub same : w ≡ record v { seen = w.seen; known = length w.seen }

-- A split: the seat that stays made a name, which no seat that it knows of has had. The new one has
-- that name, and has seen as much.
pub record SplitsInto {E O M : Type 0} (v stays given : View E O M) : Type 0 where
  pub stays_is : stays ≡ record v { made = v.made ++ given.name ∷ []; splits = v.splits + 1 }
  pub name : given.name ≡ v.name ++ v.splits ∷ []
  pub new : ¬ IsIn given.name (names v ++ v.made)
  pub seen : given.seen ≡ v.seen
  pub known : given.known ≡ v.known
  pub mine : given.mine ≡ []
  pub olds : given.olds ≡ []
  pub made : given.made ≡ []
  pub splits : given.splits ≡ 0

-- a join: the second seat and those joined into it stand in the first one's olds; no name of the
-- one was a name of the other
pub record JoinsInto {E O M : Type 0} (v w both : View E O M) : Type 0 where
  pub apart : (n : List ℕ) → IsIn n (names v) → ¬ IsIn n (names w)
  pub name : both.name ≡ v.name
  pub mine : both.mine ≡ v.mine
  pub known : both.known ≡ max v.known w.known
  pub first : IsPrefix v.seen both.seen
  pub second : IsPrefix w.seen both.seen
  pub one : (both.seen ≡ v.seen) ⊎ (both.seen ≡ w.seen)
  pub olds : both.olds ≡ v.olds ++ (w.name, w.mine) ∷ w.olds
  pub made : both.made ≡ v.made ++ w.made
  pub splits : both.splits ≡ v.splits

-- the seat of the start, if each seat that was split off was joined into it, directly or with
-- another
pub record IsAlone {E O M : Type 0} (v : View E O M) : Type 0 where
  pub name : v.name ≡ []
  pub back : (n : List ℕ) → IsIn n v.made → IsIn n (old_names v.olds)

-- the whole log: the entries of each seat, in its order, and no others
pub record Closes {E O M : Type 0} (may : M → E → O → M → Type 0) (start : M) (v : View E O M)
    (machine : M) : Type 0 where
  pub log : List (Entry E O M)
  pub legal : IsLegal may start log
  pub left : machine ≡ left_by start log
  pub begins : IsPrefix v.seen log
  pub mine : entries_by [] log ≡ v.mine
  pub olds : (o : List ℕ × List (Entry E O M)) → IsIn o v.olds → entries_by o.0 log ≡ o.1
  pub distinct : AreDistinct ([] ∷ old_names v.olds)
  pub all : (e : Entry E O M) → IsIn e log → IsIn e.by ([] ∷ old_names v.olds)
