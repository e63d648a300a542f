-- How a client greets its server.
use Rattle.std.proofs.Common.{◌≡◌, inl, ℕ, true, false, Bool, ◌||◌, List, [], ◌∷◌, ◌++◌, length}
use Rattle.std.proofs.Common.{refl, sym, ap, subst, arith, Ok, Err}
use Rattle.std.specs.Prelude.{Option, Some, None, IfSome, IfOk, IfErr, IsTrue}
use Rattle.std.specs.declared.result.Result.{Result}
use Rattle.std.specs.Option.{option_map_or}
use Rattle.dp_client.specs.Client.{State, welcomed}
use Rattle.dp_entries.specs.Input.{StandFor}
use Rattle.dp_entries.specs.Reader.{HasRead, Reader}
use Rattle.dp_frame.specs.Frames.{FrameParts}
use Rattle.dp_io.specs.Streams.{GrowsByPrefix}
use Rattle.dp_messages.specs.declared.message.Entry.{Entry}
use Rattle.dp_messages.specs.Properties.{is_disconnect}
use Rattle.dp_join_link.specs.declared.stops.LinkCause.TheVariants as cause
use Rattle.dp_join_link.specs.declared.stops.JoinStop.{JoinStop}
use Rattle.dp_join_link.specs.declared.stops.JoinStop.TheVariants.{WriteFault, LinkFault, Memory}
use Rattle.dp_join_link.specs.declared.stops.JoinStop.TheVariants.{NoEntry}
use Rattle.dp_joiner.specs.Greetings.{GreetingFails, NoWelcome, Welcomes}
use Rattle.dp_joiner.specs.Joining.{Joining, Waits, along, caller, greeted, newcomer}
use Rattle.dp_join_link.specs.Sent.{hello_bytes, FaultMatchesWriting}
use Rattle.dp_join_link.specs.Given.{takeable}
use Rattle.dp_join_link.specs.JoinStanding.{StandsOnLink, is_welcome}
use Rattle.dp_join_link.specs.Links.{BeginsWith}
use Rattle.dp_join_link.specs.Reading.{HasGiven, ReadsOn, Shows, Source}
use Rattle.dp_join_link.proofs.Given.{either_false}
use Rattle.dp_join_link.proofs.Reading.{given_begins}

-- what was read of a link that is known
known_given : (left : Option (List ℕ)) (old now : Source) (es : List Entry)
    → IfSome left (λ bytes. HasGiven old bytes []) → ReadsOn old now es
    → IfSome left (λ bytes. HasGiven now bytes es)
known_given None old now es begun reads = tt
known_given (Some bytes) old now es begun reads = reads.more bytes [] begun

-- the link welcomes the client
pub welcomes : (left : Option (List ℕ)) (old now : Source) (first : Entry) (user epoch at : ℕ)
    → IfSome left (λ bytes. HasGiven old bytes []) → ReadsOn old now (first ∷ [])
    → ((name : List ℕ) → greeted name first.msg ≡ Some (newcomer (welcomed user epoch at) name))
    → Welcomes left old.faults now (welcomed user epoch at)
welcomes left old now first user epoch at begun reads welcome = record {
  first = first;
  welcome = welcome;
  fresh = refl;
  has_given = known_given left old now (first ∷ []) begun reads;
  still = reads.still;
  readable = reads.readable;
  kept = reads.kept;
}

-- the first entry is a Welcome or a Disconnect
first_stands : (frames : List FrameParts) (first : Entry)
    → StandFor StandsOnLink 0 frames (first ∷ [])
    → IsTrue (is_welcome first.msg || is_disconnect first.msg)
first_stands [] first stand = absurd stand
first_stands (frame ∷ frames) first stand = stand.0.1

neither : (a b : Bool) → IsTrue (a || b) → a ≡ false → b ≡ false → ⊥
neither true b either first second = cc (first)
neither false true either first second = cc (second)
neither false false either first second = cc (either)

no_other : (left : Option (List ℕ)) (old now : Source) (first : Entry) (stop : JoinStop)
    → IfSome left (λ bytes. HasGiven old bytes []) → ReadsOn old now (first ∷ [])
    → is_welcome first.msg ≡ false
    → IfSome left (λ bytes. Shows bytes (first ∷ []) stop)
no_other None old now first stop begun reads other = tt
no_other (Some bytes) old now first stop begun reads other =
    let begins = given_begins now bytes (first ∷ []) reads.readable (reads.more bytes [] begun) in
    absurd (neither (is_welcome first.msg) (is_disconnect first.msg)
    (first_stands begins.frames first begins.stand) other
    (either_false (is_disconnect first.msg) false reads.still).0)

-- another first entry, which never comes
pub no_welcome : (left : Option (List ℕ)) (old now : Source) (first : Entry)
    → IfSome left (λ bytes. HasGiven old bytes []) → ReadsOn old now (first ∷ [])
    → ((name : List ℕ) → greeted name first.msg ≡ None) → is_welcome first.msg ≡ false
    → NoWelcome left old.faults now.faults (NoEntry cause.Closed)
no_welcome left old now first begun reads none other = record {
  given = first ∷ [];
  waits = λ name actions.
      ap (λ (o : Option Joining). option_map_or (λ j. along actions (takeable []) j) o
      (Waits (caller name))) (none name);
  reads = no_other left old now first (NoEntry cause.Closed) begun reads other;
  fault = reads.kept;
}

-- the client is welcomed if there is memory for it
pub welcomes_where : {E : Type 0} (r : Result State E) (left : Option (List ℕ)) (old now : Source)
    (first : Entry) (user epoch at : ℕ) → IfSome left (λ bytes. HasGiven old bytes [])
    → ReadsOn old now (first ∷ [])
    → ((name : List ℕ) → greeted name first.msg ≡ Some (newcomer (welcomed user epoch at) name))
    → IfOk r (λ client. client ≡ welcomed user epoch at) → IfOk r (Welcomes left old.faults now)
welcomes_where (Err e) left old now first user epoch at begun reads welcome is = tt
welcomes_where (Ok client) left old now first user epoch at begun reads welcome is =
    subst (Welcomes left old.faults now) (sym is)
    (welcomes left old now first user epoch at begun reads welcome)

begins_with_nothing : (left : Option (List ℕ)) → IfSome left (λ bytes. BeginsWith bytes [])
begins_with_nothing None = tt
begins_with_nothing (Some bytes) = record {
  frames = [];
  more = bytes;
  each = tt;
  stand = tt;
  whole = refl;
  counts = omega arith;
}

-- memory ran out after the Welcome
pub memory_stops : {C : Type 0} (r : Result C JoinStop) (left : Option (List ℕ))
    (old now : Source) (es : List Entry) → ReadsOn old now es → IfErr r (λ stop. stop ≡ Memory)
    → IfErr r (NoWelcome left old.faults now.faults)
memory_stops (Ok client) left old now es reads is = tt
memory_stops (Err stop) left old now es reads is =
    subst (NoWelcome left old.faults now.faults) (sym is) (record {
      given = [];
      waits = λ name actions. refl;
      reads = begins_with_nothing left;
      fault = reads.kept;
    })

-- ---- the Hello

-- a part of the Hello was written
pub hello_cut : (name : List ℕ) (left old now : Option (List ℕ)) (source sink sink_now : ℕ)
    (stop : JoinStop) → GrowsByPrefix old now (hello_bytes name)
    → FaultMatchesWriting sink sink_now stop
    → GreetingFails name left old now source source sink sink_now stop
hello_cut name left old now source sink sink_now WriteFault wrote fault = absurd fault
hello_cut name left old now source sink sink_now LinkFault wrote fault = record {
  given = [];
  waits = λ actions. refl;
  reads = begins_with_nothing left;
  wrote = wrote;
  fault = (omega arith, fault.1, inl fault.0);
}
hello_cut name left old now source sink sink_now Memory wrote fault = record {
  given = [];
  waits = λ actions. refl;
  reads = begins_with_nothing left;
  wrote = wrote;
  fault = (refl, fault);
}
hello_cut name left old now source sink sink_now (NoEntry why) wrote fault = absurd fault

-- nothing was read of the link yet
pub begun_first : (left : Option (List ℕ)) (faults : ℕ) (reader : Reader)
    → ((bytes head untaken : List ℕ) → bytes ≡ head ++ untaken → length head ≡ 0
    → HasRead StandsOnLink bytes (Some untaken) [] reader)
    → IfSome left (λ bytes. HasRead StandsOnLink bytes left [] reader)
begun_first None faults reader begun = tt
begun_first (Some bytes) faults reader begun = begun bytes [] bytes refl refl
