-- What is left if the program serves a session.
use Rattle.std.specs.Prelude.{◌≡◌, ◌≢◌, ℕ, ◌⊎◌, Bool, true, false, List, length, Option, IfSome}
use Rattle.dp_keeper.specs.declared.row.Row.{Row}
use Rattle.dp_lines.specs.declared.run_end.RunEnd.TheVariants.{Done, LinkFault, Memory}
use Rattle.dp_epochs.specs.Resumed.{AreRowsOf}
use Rattle.dp_epochs.specs.Past.{Past}
use Rattle.dp_session.specs.declared.resume.ResumeFault.{ResumeFault}
use Rattle.dp_session.specs.declared.resume.ResumeFault.TheVariants as fault
use Rattle.dp_session.specs.Resuming.{resumed, IsBad, CountsFault}
use Rattle.dp_crew.specs.Runs.{most_links}
use Rattle.dp_serve.specs.Closings.{ServesOn}
use Rattle.dp_endings.specs.declared.ending.Ending.{Ending}
use Rattle.dp_endings.specs.declared.ending.Ending.TheVariants.{NoLink, NoWords, Run}
use Rattle.dp_endings.specs.declared.ending.Ending.TheVariants.{StoreFault, BadRow}
use Rattle.dp_endings.specs.Answer.{SaysLine}
use Rattle.dp_commands.specs.Effects.{Effects, NothingIsDone, StaysLocal, Untouched, Wires}
use Rattle.dp_commands.specs.Effects.{served_wires}
use Rattle.dp_endings.specs.Endings.{code_of, ending_line}

-- how a server ends: if memory ran out, else if the store failed, else if a wire failed
abbrev pub server_end : Bool → Bool → Bool → Ending
server_end true store wire = Run Memory
server_end false true wire = StoreFault
server_end false false true = Run LinkFault
server_end false false false = Run Done

-- A session was served over these wires, to which the events of the store's rows had come, and so
-- it ended. What the store is left with is what serving it leaves.
pub record ServedOn {W R T : Type 0} (see : Wires W R T) (conns : Option ℕ) (e : Effects W)
    (ending : Ending) : Type 0 where
  pub start : Past
  pub resumes : start ≡ resumed start.journal e.store.held e.store.puts e.store.reads
  pub rows : IfSome e.store.held (λ rows. AreRowsOf rows start.journal)
  pub memory : Bool
  pub store : Bool
  pub wire : Bool
  pub serves : ServesOn (served_wires see) start (most_links conns) e.old e.new (record {
    journal = e.kept.journal;
    shut = e.kept.shut;
    known = e.store.held_now;
    count = e.store.puts_now;
    read_faults = e.store.reads_now;
    reports = e.kept.reports;
    memory = memory;
    store = store;
    wire = wire;
  })
  pub end_is : ending ≡ server_end memory store wire

-- how the program ends if a session can't be resumed for that
abbrev pub end_of_fault : ResumeFault → Ending
end_of_fault fault.StoreFault = StoreFault
end_of_fault (fault.BadRow n row) = BadRow n row
end_of_fault fault.Memory = Run Memory

-- No session could be resumed over the store, for that. Its rows stay.
pub record NotResumed {W : Type 0} (e : Effects W) (ending : Ending) : Type 0 where
  pub why : ResumeFault
  pub bad : IsBad e.store.held why
  pub held : e.store.held_now ≡ e.store.held
  pub reads : CountsFault e.store.reads why e.store.reads_now
  pub puts : e.store.puts_now ≡ e.store.puts
  pub end_is : ending ≡ end_of_fault why
  pub stays : StaysLocal e

-- a server ran over these wires, or no session could be resumed, and the streams stay
pub record RunsServer {W R T : Type 0} (see : Wires W R T) (conns : Option ℕ) (e : Effects W)
    (ending : Ending) : Type 0 where
  pub untouched : Untouched e.streams
  pub served : ServedOn see conns e ending ⊎ NotResumed e ending

-- what a server of so many workers with this end leaves: without a wire for each nothing is done
abbrev pub EndsServer : {W R T : Type 0} → Wires W R T → ℕ → Option ℕ → Effects W → Ending → Type 0
EndsServer see workers conns e ending =
    ((ending ≡ NoLink) × (length e.old ≢ workers) × NothingIsDone e)
    ⊎ ((length e.old ≡ workers) × RunsServer see conns e ending)

-- What is left if the words ask for a server and there is a wire for each worker: the session
-- was served, or couldn't be resumed, and the end is said; or memory ran out before the words were
-- read.
pub record HasServed {W R T : Type 0} (see : Wires W R T) (conns : Option ℕ) (e : Effects W)
    (diag said : Option (List ℕ)) (before now status : ℕ) : Type 0 where
  pub ending : Ending
  pub serves : RunsServer see conns e ending ⊎ ((ending ≡ NoWords) × NothingIsDone e)
  pub says : SaysLine (code_of ending) (ending_line ending) diag said before now status

-- one of the store's rows may not stand; if they are known it is the first that may not
abbrev pub HasBadRow : Option (List Row) → Type 0
HasBadRow held = (n : ℕ) × (row : Row) × IsBad held (fault.BadRow n row)
