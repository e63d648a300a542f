-- How a client reads its link.
use Rattle.std.specs.Prelude.{◌≡◌, ℕ, ◌+◌, ◌≤◌, false, true, List, [], ◌∷◌, ◌++◌, length, Option, ⊤}
use Rattle.dp_entries.specs.Reader.{HasRead, Reader}
use Rattle.dp_io.specs.Faults.{Rose}
use Rattle.dp_io.specs.Limits.{stream_limit}
use Rattle.dp_messages.specs.declared.message.Entry.{Entry}
use Rattle.dp_join_link.specs.declared.stops.JoinStop.{JoinStop}
use Rattle.dp_join_link.specs.declared.stops.JoinStop.TheVariants.{WriteFault, LinkFault, Memory}
use Rattle.dp_join_link.specs.declared.stops.JoinStop.TheVariants.{NoEntry}
use Rattle.dp_join_link.specs.Given.{is_closed, takeable}
use Rattle.dp_join_link.specs.JoinStanding.{StandsOnLink}
use Rattle.dp_join_link.specs.Links.{BeginsWith, EndsLink}

-- what clauses see of the source of a link: its bytes that are left, if they are known, its
-- count of faults, and the reader of its entries
pub record Source : Type 0 where
  pub left : Option (List ℕ)
  pub faults : ℕ
  pub reader : Reader

abbrev pub source_at : {R : Type 0} → (R → Option (List ℕ)) → (R → ℕ) → Reader → R → Source
source_at left faults reader rx = record { left = left rx; faults = faults rx; reader = reader }

-- the link's bytes gave these entries
abbrev pub HasGiven : Source → List ℕ → List Entry → Type 0
HasGiven s bytes entries = HasRead StandsOnLink bytes s.left entries s.reader

-- a further entry can be read: of the link's bytes from the first on the limit counts
pub record IsReadable (s : Source) : Type 0 where
  pub within : s.reader.stream.at ≤ stream_limit
  pub first : s.reader.first ≡ 0
  pub limit : s.reader.limit ≡ stream_limit
  pub going : ¬ (s.reader.ended ≡ true)

-- what the link gave goes on by these entries, none of which closes it
pub record ReadsOn (old now : Source) (given : List Entry) : Type 0 where
  pub more : (bytes : List ℕ) (before : List Entry)
      → HasGiven old bytes before → HasGiven now bytes (before ++ given)
  pub still : is_closed given ≡ false
  pub further : old.reader.stream.at + length given ≤ now.reader.stream.at
  pub kept : now.faults ≡ old.faults
  pub readable : IsReadable now

-- the link's bytes begin with these entries, and after them it gives none if the client stops
-- for that
abbrev pub Shows : List ℕ → List Entry → JoinStop → Type 0
Shows bytes entries WriteFault = BeginsWith bytes entries
Shows bytes entries LinkFault = BeginsWith bytes entries
Shows bytes entries Memory = BeginsWith bytes entries
Shows bytes entries (NoEntry why) = EndsLink bytes entries why

-- what the link gave goes on by these entries, and then the client stops with this
abbrev pub ReadsUpTo : Source → List Entry → JoinStop → Type 0
ReadsUpTo old given stop =
    (bytes : List ℕ) (before : List Entry) → HasGiven old bytes before → is_closed before ≡ false
    → Shows bytes (before ++ given) stop

-- the count of the source's faults if reading stops with this
abbrev pub FaultMatchesReading : ℕ → ℕ → JoinStop → Type 0
FaultMatchesReading before now WriteFault = ⊥
FaultMatchesReading before now LinkFault = Rose before now × (before ≤ now)
FaultMatchesReading before now Memory = now ≡ before
FaultMatchesReading before now (NoEntry why) = now ≡ before

-- the link gives no entry more
abbrev pub IsNoEntry : JoinStop → Type 0
IsNoEntry WriteFault = ⊥
IsNoEntry LinkFault = ⊥
IsNoEntry Memory = ⊥
IsNoEntry (NoEntry why) = ⊤

-- the link gives an entry that is taken, after Pings
pub record GivesEntry (old now : Source) (entry : Entry) : Type 0 where
  pub given : List Entry
  pub reads : ReadsOn old now given
  pub only : takeable given ≡ entry ∷ []

-- the link gives none, after Pings
pub record GivesNone (old now : Source) (stop : JoinStop) : Type 0 where
  pub given : List Entry
  pub none : takeable given ≡ []
  pub reads : ReadsUpTo old given stop
  pub fault : FaultMatchesReading old.faults now.faults stop
