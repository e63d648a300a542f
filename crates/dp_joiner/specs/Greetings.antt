-- How a client greets its server.
use Rattle.std.specs.Prelude.{◌≡◌, ◌⊎◌, ℕ, ◌≤◌, false, List, [], ◌∷◌, Option, Some, IfSome}
use Rattle.std.specs.Io.KnownBytes.{Appends}
use Rattle.dp_client.specs.Client.{State}
use Rattle.dp_io.specs.Faults.{Rose}
use Rattle.dp_io.specs.Streams.{GrowsByPrefix}
use Rattle.dp_messages.specs.declared.message.Entry.{Entry}
use Rattle.dp_schedule.specs.declared.join_action.JoinAction.{JoinAction}
use Rattle.dp_join_link.specs.declared.stops.JoinStop.{JoinStop}
use Rattle.dp_join_link.specs.declared.stops.JoinStop.TheVariants.{WriteFault, LinkFault, Memory}
use Rattle.dp_join_link.specs.declared.stops.JoinStop.TheVariants.{NoEntry}
use Rattle.dp_joiner.specs.Joining.{Waits, caller, greeted, joined, newcomer}
use Rattle.dp_join_link.specs.Sent.{hello_bytes}
use Rattle.dp_join_link.specs.Given.{is_closed}
use Rattle.dp_join_link.specs.Reading.{FaultMatchesReading, HasGiven, IsReadable, Shows, Source}

-- the link's first entry welcomes this client
pub record Welcomes (left : Option (List ℕ)) (faults : ℕ) (now : Source) (client : State) : Type 0
  where
    pub first : Entry
    pub welcome : (name : List ℕ) → greeted name first.msg ≡ Some (newcomer client name)
    pub fresh : client.taken ≡ []
    pub has_given : IfSome left (λ bytes. HasGiven now bytes (first ∷ []))
    pub still : is_closed (first ∷ []) ≡ false
    pub readable : IsReadable now
    pub kept : now.faults ≡ faults

-- the link gives no Welcome, and the client stops with this
pub record NoWelcome (left : Option (List ℕ)) (before now : ℕ) (stop : JoinStop) : Type 0 where
  pub given : List Entry
  pub waits : (name : List ℕ) (actions : List JoinAction)
      → joined name actions given ≡ Waits (caller name)
  pub reads : IfSome left (λ bytes. Shows bytes given stop)
  pub fault : FaultMatchesReading before now stop

-- what was written of the Hello if the client stops with this: a prefix, or all
abbrev pub WroteHello : Option (List ℕ) → Option (List ℕ) → List ℕ → JoinStop → Type 0
WroteHello old now hello WriteFault = GrowsByPrefix old now hello
WroteHello old now hello LinkFault = GrowsByPrefix old now hello
WroteHello old now hello Memory = GrowsByPrefix old now hello
WroteHello old now hello (NoEntry why) = Appends old now hello

-- the counts of faults of the link's source and its sink if the client stops with this
abbrev pub FaultMatchesGreeting : ℕ → ℕ → ℕ → ℕ → JoinStop → Type 0
FaultMatchesGreeting source source_now sink sink_now WriteFault = ⊥
FaultMatchesGreeting source source_now sink sink_now LinkFault =
    (source ≤ source_now) × (sink ≤ sink_now) × (Rose sink sink_now ⊎ Rose source source_now)
FaultMatchesGreeting source source_now sink sink_now Memory =
    (source_now ≡ source) × (sink_now ≡ sink)
FaultMatchesGreeting source source_now sink sink_now (NoEntry why) =
    (source_now ≡ source) × (sink_now ≡ sink)

-- the client stops with this before it is welcomed
pub record GreetingFails (name : List ℕ) (left old now : Option (List ℕ))
    (source source_now sink sink_now : ℕ) (stop : JoinStop) : Type 0 where
  pub given : List Entry
  pub waits : (actions : List JoinAction)
      → joined name actions given ≡ Waits (caller name)
  pub reads : IfSome left (λ bytes. Shows bytes given stop)
  pub wrote : WroteHello old now (hello_bytes name) stop
  pub fault : FaultMatchesGreeting source source_now sink sink_now stop
