-- What words leave, by what they ask for.
use Rattle.std.proofs.Common.{◌≡◌, ◌≢◌, ℕ, ◌⊎◌, List, [], refl, subst, inl, inr, arith}
use Rattle.std.proofs.Common.{length, ⊎_elim}
use Rattle.std.specs.Prelude.{Option, Some, None, IfSome, map, string_bytes}
use Rattle.std.specs.declared.string.String.{String}
use Rattle.std.specs.Io.KnownBytes.{IsAtEnd}
use Rattle.dp_hall.specs.Names.{AreDistinct}
use Rattle.dp_lines.specs.declared.run_end.RunEnd.{RunEnd}
use Rattle.dp_lines.specs.declared.run_end.RunEnd.TheVariants.{Done, Memory, Truncated}
use Rattle.dp_line_machine.specs.Counters.{Counters}
use Rattle.dp_serve_laws.specs.Reported.{reported}
use Rattle.dp_words.specs.CommandLines.{AsksFor}
use Rattle.dp_words.specs.declared.command_line.CommandLine.{CommandLine}
use Rattle.dp_words.specs.declared.command_line.CommandLine.TheVariants.{Local, Join, Listen}
use Rattle.dp_words.specs.declared.command_line.LocalCommand.{LocalCommand}
use Rattle.dp_words.specs.declared.command_line.LocalCommand.TheVariants.{World}
use Rattle.dp_words.specs.declared.command_line.Service.{Service}
use Rattle.dp_world.specs.RunEnds.{WorldLeaves}
use Rattle.dp_endings.specs.Answer.{Says, SaysNoLink, SaysUsage, status_of}
use Rattle.dp_commands.specs.Commands.{AskForLocal, Asks, HasLink, HasLinks, HasWires, IsCommand}
use Rattle.dp_commands.specs.Commands.{LacksWires}
use Rattle.dp_endings.specs.declared.ending.Ending.{Ending}
use Rattle.dp_endings.specs.declared.ending.Ending.TheVariants.{Usage, NoLink, NoWords}
use Rattle.dp_commands.specs.Effects.{Effects, KeepsNothing, NothingIsDone, Untouched, Wires}
use Rattle.dp_commands.specs.Effects.{StaysLocal}
use Rattle.dp_endings.specs.Endings.{code_of}
use Rattle.dp_commands.specs.Joins.{HasJoined}
use Rattle.dp_app.specs.Kinds.{NothingRuns, EndsWords, KindLeaves, Reads}
use Rattle.dp_local.specs.Runs.{IsReadWhole}
use Rattle.dp_commands.specs.Servers.{HasServed, RunsServer}
use Rattle.dp_app.proofs.ByKind.{AreRuns, DistinctLaw, Leaves, Matches, has-wire, has-wires}
use Rattle.dp_app.proofs.ByKind.{join-tells, none-reported, server-distinct}
use Rattle.dp_app.proofs.Telling.{Said}

-- words ask for one thing
abbrev pub OneCommand : Type 0
OneCommand = (words : List (List ℕ)) (line other : CommandLine) → AsksFor words line
    → AsksFor words other → line ≡ other

-- what follows of what a run of `world` leaves, of an input whose bytes are known
due-of : {P : List ℕ → Type 0} (left old now : Option (List ℕ)) (c : Counters) (end : RunEnd)
    → ((bytes : List ℕ) → WorldLeaves (Some bytes) left old now c end → P bytes)
    → (told : Option (List ℕ)) → WorldLeaves told left old now c end → IfSome told P
due-of left old now c end law None leaves = tt
due-of left old now c end law (Some bytes) leaves = law bytes leaves

-- of an input whose bytes may be known
pub for-known : {P : List ℕ → Type 0} (o : Option (List ℕ))
    → ((bytes : List ℕ) → o ≡ Some bytes → P bytes) → IfSome o P
for-known None each = tt
for-known (Some bytes) each = each bytes refl

-- an end that says that its input was read to the end
abbrev pub SaysWhole : ℕ → Type 0
SaysWhole code = (code ≡ 0) ⊎ (code ≡ 9)

is-whole : (end : RunEnd) (left : Option (List ℕ)) → IsReadWhole end left
    → SaysWhole (status_of end) → IsAtEnd left
is-whole Done left whole is = whole
is-whole (Truncated n) left whole is = whole
is-whole _ left whole is = absurd (grind (arith, is))

module _ {A W R T : Type 0} (see : Wires W R T) (words : List (String A)) (e : Effects W) where
  -- what holds if nothing was done, and after a run of each kind, holds
  module _ {P : Type 0} (nothing : NothingIsDone e → P)
      (local : AskForLocal words → StaysLocal e → P)
      (joins : HasLink words e.old → KeepsNothing e.kept → P)
      (serves : HasWires words e.old → (conns : Option ℕ) (ending : Ending)
      → RunsServer see conns e ending → P) where
    pub of-each : (ending : Ending) → EndsWords see words e ending → P
    of-each ending (inl h) = nothing h.1
    of-each ending (inr (Local command, asks, h)) = local (command, asks) h.2.stays
    of-each ending (inr (Join addr name, asks, h)) =
        joins ((addr, name, asks), has-wire see name e h.0 h.2) h.2.nothing
    of-each ending (inr (Listen addr workers conns service, asks, h)) = serves
        (has-wires words e.old addr workers conns service asks h.0) conns ending h.1

  pub untouched : (ending : Ending) → EndsWords see words e ending → ¬ AskForLocal words
      → ¬ HasLink words e.old → Untouched e.streams
  untouched ending h none never = of-each (λ all. all.streams) (λ asks stays. absurd (none asks))
      (λ has kept. absurd (never has)) (λ has conns end runs. runs.untouched) ending h

  pub nothing-kept : (ending : Ending) → EndsWords see words e ending → ¬ HasWires words e.old
      → KeepsNothing e.kept
  nothing-kept ending h never = of-each (λ all. all.stays.nothing) (λ asks stays. stays.nothing)
      (λ has kept. kept) (λ has conns end runs. absurd (never has)) ending h

  pub wires-stay : (ending : Ending) → EndsWords see words e ending → ¬ HasLinks words e.old
      → e.new ≡ e.old
  wires-stay ending h never = of-each (λ all. all.stays.wires) (λ asks stays. stays.wires)
      (λ has kept. absurd (never (inl has)))
      (λ has conns end runs. absurd (never (inr has))) ending h

  pub distinct : DistinctLaw see → (ending : Ending) → EndsWords see words e ending
      → AreDistinct (reported e.kept.reports)
  distinct law ending h = of-each (λ all. none-reported e.kept all.stays.nothing)
      (λ asks stays. none-reported e.kept stays.nothing)
      (λ has kept. none-reported e.kept kept)
      (λ has conns end runs. server-distinct see conns e end law runs.served) ending h

  lacks-none : (command : CommandLine) (ending : Ending) → KindLeaves see command e ending
      → ¬ LacksWires command e.old
  lacks-none (Local command) ending h none = none
  lacks-none (Join addr name) ending h none = has-wire see name e h.0 h.2 none
  lacks-none (Listen addr workers conns service) ending h none = none h.0

  whole : AreRuns → (command : CommandLine) (ending : Ending) → KindLeaves see command e ending
      → Reads command → SaysWhole (code_of ending) → IsAtEnd e.streams.left
  whole runs (Local command) ending h reads is =
      is-whole h.0 e.streams.left ((runs command).whole e.streams.input e.streams.left
      e.streams.old e.streams.new e.streams.counters h.0 h.2.leaves reads)
      (subst (λ (x : Ending). SaysWhole (code_of x)) h.1 is)
  whole runs (Join addr name) ending h reads is =
      is-whole h.0 e.streams.left (join-tells see name e h.0 h.2).1
      (subst (λ (x : Ending). SaysWhole (code_of x)) h.1 is)
  whole runs (Listen addr workers conns service) ending h reads is = absurd reads

  -- words that were refused don't say that an input was read
  refused-unread : (ending : Ending) → NothingRuns words e.old ending → SaysWhole (code_of ending)
      → ⊥
  refused-unread Usage h is = grind (arith, is)
  refused-unread NoLink h is = grind (arith, is)
  refused-unread NoWords h is = grind (arith, is)
  refused-unread _ h is = h

  -- ---- by what is said

  module _ (dold dnew : Option (List ℕ)) (before now status : ℕ) where
    abbrev pub Tells : Ending → Type 0
    Tells ending = Said dold dnew before now status ending

    pub other-words : (ending : Ending) → EndsWords see words e ending → Tells ending
        → ¬ IsCommand words
        → SaysUsage dold dnew before now status ⊎ Says dold dnew before now status Memory
    other-words ending (inr h) says none = absurd (none (h.0, h.1))
    other-words Usage (inl h) says none = inl says
    other-words NoLink (inl h) says none = absurd (none (h.0.0, h.0.1))
    other-words NoWords (inl h) says none = inr says
    other-words _ (inl h) says none = absurd h.0

    module _ (law : OneCommand) where
      -- the command that was run is the one for which the words ask
      the-one : (P : CommandLine → Type 0) (command other : CommandLine) → Asks words command
          → Asks words other → P other → P command
      the-one P command other asks again h =
          subst P (law (map string_bytes words) other command again asks) h

      pub no-link : (ending : Ending) → EndsWords see words e ending → Tells ending
          → (command : CommandLine) → Asks words command → LacksWires command e.old
          → SaysNoLink dold dnew before now status ⊎ Says dold dnew before now status Memory
      no-link ending (inr h) says command asks none = absurd (lacks-none command ending
          (the-one (λ c. KindLeaves see c e ending) command h.0 asks h.1 h.2) none)
      no-link Usage (inl h) says command asks none = absurd (h.0 (command, asks))
      no-link NoLink (inl h) says command asks none = inl says
      no-link NoWords (inl h) says command asks none = inr says
      no-link _ (inl h) says command asks none = absurd h.0

      -- if the wires for it are there, it was run, or memory ran out before that
      asked : (command : CommandLine) → Asks words command → (ending : Ending)
          → EndsWords see words e ending → ¬ LacksWires command e.old
          → KindLeaves see command e ending ⊎ ((ending ≡ NoWords) × NothingIsDone e)
      asked command asks ending (inr h) has =
          inl (the-one (λ c. KindLeaves see c e ending) command h.0 asks h.1 h.2)
      asked command asks Usage (inl h) has = absurd (h.0 (command, asks))
      asked command asks NoLink (inl h) has =
          absurd (has (the-one (λ c. LacksWires c e.old) command h.0.0 asks h.0.1 h.0.2))
      asked command asks NoWords (inl h) has = inr (refl, h.1)
      asked command asks _ (inl h) has = absurd h.0

      pub to-end : AreRuns → (ending : Ending) → EndsWords see words e ending → Tells ending
          → (command : CommandLine) → Asks words command → Reads command → SaysWhole status
          → IsAtEnd e.streams.left
      to-end runs ending h (inr failed) command asks reads is =
          absurd (grind (arith, failed.0, is))
      to-end runs ending (inl h) (inl says) command asks reads is =
          absurd (refused-unread ending h.0 (subst SaysWhole says.0 is))
      to-end runs ending (inr h) (inl says) command asks reads is = whole runs command ending
          (the-one (λ c. KindLeaves see c e ending) command h.0 asks h.1 h.2) reads
          (subst SaysWhole says.0 is)

      pub ends-of : AreRuns → (ending : Ending) → EndsWords see words e ending → Tells ending
          → (command : LocalCommand) → Asks words (Local command)
          → (end : RunEnd)
          × Leaves command e.streams end × Matches e.streams end
          × Says dold dnew before now status end
      ends-of runs ending h says command asks =
          by (asked (Local command) asks ending h (λ lacks. lacks))
        where
          by : KindLeaves see (Local command) e ending ⊎ ((ending ≡ NoWords) × NothingIsDone e)
              → (end : RunEnd)
              × Leaves command e.streams end × Matches e.streams end
              × Says dold dnew before now status end
          by (inl run) = (run.0, run.2.leaves, run.2.fault, subst Tells run.1 says)
          by (inr none) = (
            Memory,
            (runs command).begun e.streams.input e.streams.left e.streams.old e.streams.new
                e.streams.counters none.1.streams.0 none.1.streams.1 none.1.streams.4,
            (none.1.streams.2, none.1.streams.3),
            subst Tells none.0 says,
          )

      -- what follows of what `world` left, of an input whose bytes may be known
      pub due-of-world : {P : List ℕ → Type 0} → AreRuns → (ending : Ending)
          → EndsWords see words e ending → Tells ending
          → ((bytes : List ℕ) (end : RunEnd)
          → WorldLeaves (Some bytes) e.streams.left e.streams.old e.streams.new
          e.streams.counters end → P bytes)
          → Asks words (Local World) → IfSome e.streams.input P
      due-of-world runs ending h says due asks =
          let run = ends-of runs ending h says World asks in
          due-of e.streams.left e.streams.old e.streams.new e.streams.counters run.0
          (λ bytes. due bytes run.0) e.streams.input run.1

      pub joins-of : (ending : Ending) → EndsWords see words e ending → Tells ending
          → (addr name : List ℕ) → Asks words (Join addr name) → e.old ≢ []
          → HasJoined see name e dold dnew before now status
      joins-of ending h says addr name asks some = record {
        ending = ending;
        joins = asked (Join addr name) asks ending h some;
        says = says;
      }

      pub serves-of : (ending : Ending) → EndsWords see words e ending → Tells ending
          → (addr : List ℕ) (conns : Option ℕ) (service : Service)
          → Asks words (Listen addr (length e.old) conns service)
          → HasServed see conns e dold dnew before now status
      serves-of ending h says addr conns service asks = record {
        ending = ending;
        serves = ⊎_elim
            (λ (run : KindLeaves see (Listen addr (length e.old) conns service) e ending).
            inl run.1) (λ (none : (ending ≡ NoWords) × NothingIsDone e). inr none)
            (asked (Listen addr (length e.old) conns service) asks ending h
            (λ lacks. lacks refl));
        says = says;
      }
