-- What becomes of the program's streams, wires and store, and what a server keeps.
use Rattle.std.specs.Prelude.{◌≡◌, ℕ, List, [], Option}
use Rattle.std.specs.Io.KnownBytes.{Keeps}
use Rattle.dp_keeper.specs.declared.row.Row.{Row}
use Rattle.dp_epochs.specs.declared.event.Event.{Event}
use Rattle.dp_epochs.specs.declared.event.ShutAt.{ShutAt}
use Rattle.dp_line_machine.specs.Counters.{Counters, NothingIsDrawn}
use Rattle.dp_serve.specs.Serving.{Seen}
use Rattle.dp_wire.specs.Links.{Links}
use Rattle.dp_serve.specs.declared.report.LinkReport.{LinkReport}
use Rattle.dp_link_run.specs.Links.{link_seen}

-- What the streams were before, and are now: the bytes that are left of the input, those that the
-- output holds, and how often each has failed. Then the counters of draws and of tiles.
pub record Streams : Type 0 where
  pub input : Option (List ℕ)
  pub left : Option (List ℕ)
  pub old : Option (List ℕ)
  pub new : Option (List ℕ)
  pub read : ℕ
  pub read_now : ℕ
  pub written : ℕ
  pub written_now : ℕ
  pub counters : Counters

-- the streams of an input and an output, by what is seen of them
abbrev pub streams : {I O : Type 0} → (I → Option (List ℕ)) → (I → ℕ) → (O → Option (List ℕ))
    → (O → ℕ) → I → I → O → O → Counters → Streams
streams left read held written input input_now output output_now counters = record {
  input = left input;
  left = left input_now;
  old = held output;
  new = held output_now;
  read = read input;
  read_now = read input_now;
  written = written output;
  written_now = written output_now;
  counters = counters;
}

-- nothing was read, written or drawn
abbrev pub Untouched : Streams → Type 0
Untouched s =
    Keeps s.input s.left × Keeps s.old s.new × (s.read_now ≡ s.read)
    × (s.written_now ≡ s.written) × NothingIsDrawn s.counters

-- what a server leaves beside its wires: the events that were kept, the closings that were refused,
-- and a report of each link
pub record Kept : Type 0 where
  pub journal : List Event
  pub shut : List ShutAt
  pub reports : List LinkReport

-- what a server leaves beside its wires, of its parts
abbrev pub kept : List Event → List ShutAt → List LinkReport → Kept
kept journal shut reports = record { journal = journal; shut = shut; reports = reports }

-- there was no server
abbrev pub KeepsNothing : Kept → Type 0
KeepsNothing kept = (kept.journal ≡ []) × (kept.shut ≡ []) × (kept.reports ≡ [])

-- the store before and now: its rows, if they are known, and how often a put of it has failed,
-- and a reading
pub record Stores : Type 0 where
  pub held : Option (List Row)
  pub held_now : Option (List Row)
  pub puts : ℕ
  pub puts_now : ℕ
  pub reads : ℕ
  pub reads_now : ℕ

-- what was seen of a store before and after
abbrev pub stores : {K : Type 0} → (K → Option (List Row)) → (K → ℕ) → (K → ℕ) → K → K → Stores
stores held puts reads keeper now = record {
  held = held keeper;
  held_now = held now;
  puts = puts keeper;
  puts_now = puts now;
  reads = reads keeper;
  reads_now = reads now;
}

-- what became of the streams, of the wires and of the store, and what a server kept
pub record Effects (W : Type 0) : Type 0 where
  pub streams : Streams
  pub old : List W
  pub new : List W
  pub store : Stores
  pub kept : Kept

-- what became of all of these, of its parts
abbrev pub effects : {W : Type 0} → Streams → List W → List W → Stores → Kept → Effects W
effects streams old new store kept =
    record { streams = streams; old = old; new = new; store = store; kept = kept }

-- nothing was done to the wires, and nothing was kept
pub record StaysLocal {W : Type 0} (e : Effects W) : Type 0 where
  pub wires : e.new ≡ e.old
  pub nothing : KeepsNothing e.kept

-- the store's rows and counts are as they were
pub record StoreStays (s : Stores) : Type 0 where
  pub held : s.held_now ≡ s.held
  pub puts : s.puts_now ≡ s.puts
  pub reads : s.reads_now ≡ s.reads

-- nothing at all was done
pub record NothingIsDone {W : Type 0} (e : Effects W) : Type 0 where
  pub streams : Untouched e.streams
  pub store : StoreStays e.store
  pub stays : StaysLocal e

-- what contracts see of a wire and of its links
pub record Wires (W R T : Type 0) : Type 0 where
  pub links : W → Option (Links R T)
  pub faults : W → ℕ
  pub left : R → Option (List ℕ)
  pub read_faults : R → ℕ
  pub held : T → Option (List ℕ)
  pub write_faults : T → ℕ

-- what contracts see of a wire, of its parts
abbrev pub wire_seen : {W R T : Type 0} → (W → Option (Links R T)) → (W → ℕ)
    → (R → Option (List ℕ)) → (R → ℕ) → (T → Option (List ℕ)) → (T → ℕ) → Wires W R T
wire_seen links faults left read_faults held write_faults = record {
  links = links;
  faults = faults;
  left = left;
  read_faults = read_faults;
  held = held;
  write_faults = write_faults;
}

-- a wire and its links as a server sees them
abbrev pub served_wires : {W R T : Type 0} → Wires W R T → Seen W R T
served_wires see = record {
  links = see.links;
  faults = see.faults;
  link = link_seen see.left see.read_faults see.held see.write_faults;
}
