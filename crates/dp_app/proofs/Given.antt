-- What the words, an input and a link are due is one answer, and it is given if nothing failed.
use Rattle.std.proofs.Common.{◌≡◌, ◌≢◌, ℕ, List, [], ◌∷◌, refl, sym, ap, ◌∙◌, subst, inl, inr}
use Rattle.std.specs.Prelude.{Option, Some, None, IfSome, map, string_bytes}
use Rattle.std.specs.declared.string.String.{String}
use Rattle.std.specs.Io.KnownBytes.{Appends}
use Rattle.dp_io.specs.Faults.{Rose}
use Rattle.dp_joining.specs.Outcomes.{JoinComesTo, JoinOutcome}
use Rattle.dp_lines.specs.declared.run_end.RunEnd.{RunEnd}
use Rattle.dp_lines.specs.declared.run_end.RunEnd.TheVariants.{LinkFault, Memory, ReadFault}
use Rattle.dp_lines.specs.declared.run_end.RunEnd.TheVariants.{WriteFault}
use Rattle.dp_viewer.proofs.Given.{appends_nothing}
use Rattle.dp_words.specs.declared.command_line.CommandLine.{CommandLine}
use Rattle.dp_words.specs.declared.command_line.CommandLine.TheVariants.{Local, Join, Listen}
use Rattle.dp_words.specs.declared.command_line.LocalCommand.{LocalCommand}
use Rattle.dp_endings.specs.Answer.{Answer, IsGiven, answer_for, line_of, no_link_answer}
use Rattle.dp_endings.specs.Answer.{status_of, usage_answer}
use Rattle.dp_commands.specs.Commands.{Asks, HasLink, HasWires, IsCommand, LacksWires}
use Rattle.dp_app.specs.Due.{DueOf, GetsLink, IsDue}
use Rattle.dp_endings.specs.declared.ending.Ending.{Ending}
use Rattle.dp_endings.specs.declared.ending.Ending.TheVariants.{Usage, NoLink, NoWords}
use Rattle.dp_commands.specs.Effects.{Effects, NothingIsDone, Streams, Wires}
use Rattle.dp_endings.specs.Endings.{code_of, ending_line}
use Rattle.dp_commands.specs.Joins.{JoinsOn}
use Rattle.dp_app.specs.Kinds.{NothingRuns, EndsWords, RunsLocally}
use Rattle.dp_local.specs.Runs.{IsUnfailed, run_of}
use Rattle.dp_app.proofs.ByKind.{AreRuns, Leaves, Matches, has-wire, has-wires, join-tells}
use Rattle.dp_app.proofs.ByKind.{joins-given}
use Rattle.dp_app.proofs.Ends.{OneCommand, for-known}
use Rattle.dp_app.proofs.Telling.{Said}

-- a script and a link come to one outcome
abbrev pub OneOutcome : Type 0
OneOutcome = (name input link : List ℕ) (outcome other : JoinOutcome)
    → JoinComesTo name input link outcome → JoinComesTo name input link other
    → outcome ≡ other

-- a script and a link come to some outcome
abbrev pub SomeOutcome : Type 0
SomeOutcome = (name input link : List ℕ)
    → ¬ ((outcome : JoinOutcome) → ¬ JoinComesTo name input link outcome)

-- ---- what is due is one answer

-- a command is due one answer
one-of : AreRuns → OneOutcome → (command : CommandLine) (bytes : List ℕ)
    (link : Option (List ℕ)) (a b : Answer)
    → DueOf command bytes link a → DueOf command bytes link b → a ≡ b
one-of runs joins (Local command) bytes link a b x y = (runs command).one bytes a b x y
one-of runs joins (Join addr name) bytes None a b x y = x ∙ sym y
one-of runs joins (Join addr name) bytes (Some link) a b x y =
    x.2 ∙ ap (λ (o : JoinOutcome). answer_for o.end o.text)
    (joins name bytes link x.0 y.0 x.1 y.1) ∙ sym y.2
one-of runs joins (Listen addr workers conns service) bytes link a b x y = x ∙ sym y

one-due : OneCommand → AreRuns → OneOutcome → {A : Type 0} (words : List (String A))
    (bytes : List ℕ) (link : Option (List ℕ)) (a b : Answer)
    → IsDue words bytes link a → IsDue words bytes link b → a ≡ b
one-due law runs joins words bytes link a b (inl x) (inl y) =
    one-of runs joins x.0 bytes link a b x.2
    (subst (λ (c : CommandLine). DueOf c bytes link b)
    (law (map string_bytes words) y.0 x.0 y.1 x.1) y.2)
one-due law runs joins words bytes link a b (inl x) (inr y) = absurd (y.0 (x.0, x.1))
one-due law runs joins words bytes link a b (inr x) (inl y) = absurd (x.0 (y.0, y.1))
one-due law runs joins words bytes link a b (inr x) (inr y) = x.1 ∙ sym y.1

-- ---- some answer is due

-- a command is due some answer
some-of : AreRuns → SomeOutcome → (command : CommandLine) (bytes : List ℕ)
    (link : Option (List ℕ)) → ¬ ((answer : Answer) → ¬ DueOf command bytes link answer)
some-of runs joins (Local command) bytes link none = (runs command).some bytes none
some-of runs joins (Join addr name) bytes None none = none no_link_answer refl
some-of runs joins (Join addr name) bytes (Some link) none =
    joins name bytes link (λ outcome comes.
    none (answer_for outcome.end outcome.text) (outcome, comes, refl))
some-of runs joins (Listen addr workers conns service) bytes link none = none no_link_answer refl

pub some-due : AreRuns → SomeOutcome → {A : Type 0} (words : List (String A)) (bytes : List ℕ)
    (link : Option (List ℕ)) → ¬ ((answer : Answer) → ¬ IsDue words bytes link answer)
some-due runs joins words bytes link none =
    let no : ¬ IsCommand words = λ h.
    some-of runs joins h.0 bytes link (λ answer due. none answer (inl (h.0, h.1, due))) in
    none usage_answer (inr (no, refl))

-- ---- what is due is given

is-unfailed : (s : Streams) (end : RunEnd) → Matches s end → ¬ Rose s.read s.read_now
    → ¬ Rose s.written s.written_now → status_of end ≢ 7 → end ≢ LinkFault → IsUnfailed end
is-unfailed s ReadFault counts read write memory link = absurd (read counts.0)
is-unfailed s WriteFault counts read write memory link = absurd (write counts.1)
is-unfailed s Memory counts read write memory link = absurd (memory refl)
is-unfailed s LinkFault counts read write memory link = absurd (link refl)
is-unfailed s _ counts read write memory link = tt

module _ {A W R T : Type 0} (see : Wires W R T) (words : List (String A)) (e : Effects W)
    (dold dnew : Option (List ℕ)) (before now status : ℕ) where
  -- an answer is due and given
  abbrev pub Given : List ℕ → Option (List ℕ) → Type 0
  Given bytes link =
      (answer : Answer) × IsDue words bytes link answer
      × IsGiven answer status e.streams.old e.streams.new dold dnew

  due-link : (command : CommandLine) (bytes : List ℕ) (link : Option (List ℕ))
      → LacksWires command e.old → GetsLink see words e.old link
      → DueOf command bytes link no_link_answer
  due-link (Local command) bytes link none gets = absurd none
  due-link (Join addr name) bytes None none gets = refl
  due-link (Join addr name) bytes (Some link) none gets =
      let x : [] ≡ gets.wire ∷ gets.others = sym none ∙ gets.first in absurd cc
  due-link (Listen addr workers conns service) bytes link none gets = refl

  -- if nothing failed, and memory sufficed
  module _ (runs : AreRuns) (served : ¬ HasWires words e.old)
      (read : ¬ Rose e.streams.read e.streams.read_now)
      (written : ¬ Rose e.streams.written e.streams.written_now) (memory : status ≢ 7)
      (joined : HasLink words e.old → status ≢ 5) (bytes : List ℕ)
      (known : e.streams.input ≡ Some bytes) (link : Option (List ℕ))
      (gets : GetsLink see words e.old link) where
    nothing-given : (answer : Answer) → IsDue words bytes link answer → answer.text ≡ []
        → NothingIsDone e → status ≡ answer.status → Appends dold dnew answer.line
        → Given bytes link
    nothing-given answer due empty same code line =
        let text = subst (λ (text : List ℕ). Appends e.streams.old e.streams.new text) (sym empty)
        (appends_nothing e.streams.old e.streams.new same.streams.1) in
        (answer, due, record { status = code; text = text; line = line })

    refused-given : (ending : Ending) → NothingRuns words e.old ending → NothingIsDone e
        → status ≡ code_of ending → Appends dold dnew (ending_line ending) → Given bytes link
    refused-given Usage h same code line =
        nothing-given usage_answer (inr (h, refl)) refl same code line
    refused-given NoLink h same code line = nothing-given no_link_answer
        (inl (h.0, h.1, due-link h.0 bytes link h.2 gets)) refl same code line
    refused-given NoWords h same code line = absurd (memory code)
    refused-given _ h same code line = absurd h

    -- a run with this end has a status, and a line is said
    module _ (end : RunEnd) (code : status ≡ status_of end)
        (line : Appends dold dnew (line_of end)) where
      fair-end : Matches e.streams end → end ≢ LinkFault → IsUnfailed end
      fair-end counts linked =
          is-unfailed e.streams end counts read written (λ x. memory (code ∙ x)) linked

      local-given : (command : LocalCommand) → Asks words (Local command)
          → RunsLocally (run_of command) e end → Given bytes link
      local-given command asks h =
          let law = runs command in
          let alone : end ≢ LinkFault = λ is.
          law.alone e.streams.input e.streams.left e.streams.old e.streams.new e.streams.counters
          (subst (Leaves command e.streams) is h.leaves) in
          let given = law.given bytes e.streams.left e.streams.old e.streams.new e.streams.counters
          end
          (subst (λ (o : Option (List ℕ)). (run_of command).leaves o e.streams.left
          e.streams.old e.streams.new e.streams.counters end) known h.leaves)
          (fair-end h.fault alone) in (
            answer_for end given.0,
            inl (Local command, asks, given.1),
            record { status = code; text = given.2; line = line },
          )

      joined-given : (addr name : List ℕ) → Asks words (Join addr name) → JoinsOn see name e end
          → (bytes-of : Option (List ℕ)) → GetsLink see words e.old bytes-of
          → Given bytes bytes-of
      joined-given addr name asks h None gets-none =
          absurd (gets-none ((addr, name, asks), has-wire see name e end h))
      joined-given addr name asks h (Some linked) gets-some =
          let has : HasLink words e.old = ((addr, name, asks), has-wire see name e end h) in
          let given = joins-given see name e end h bytes linked gets-some known
          (fair-end (join-tells see name e end h).0
          (λ is. joined has (code ∙ ap status_of is))) in (
            answer_for given.0.end given.0.text,
            inl (Join addr name, asks, (given.0, given.1, refl)),
            record {
              status = code ∙ ap status_of (sym given.2);
              text = given.3;
              line = subst (λ (x : RunEnd). Appends dold dnew (line_of x)) (sym given.2) line;
            },
          )

    ending-given : (ending : Ending) → EndsWords see words e ending
        → status ≡ code_of ending → Appends dold dnew (ending_line ending) → Given bytes link
    ending-given ending (inl h) code line = refused-given ending h.0 h.1 code line
    ending-given ending (inr (Local command, asks, h)) code line =
        local-given h.0 (code ∙ ap code_of h.1)
        (subst (λ (x : Ending). Appends dold dnew (ending_line x)) h.1 line) command asks h.2
    ending-given ending (inr (Join addr name, asks, h)) code line =
        joined-given h.0 (code ∙ ap code_of h.1)
        (subst (λ (x : Ending). Appends dold dnew (ending_line x)) h.1 line) addr name asks h.2
        link gets
    ending-given ending (inr (Listen addr workers conns service, asks, h)) code line =
        absurd (served (has-wires words e.old addr workers conns service asks h.0))

  -- if nothing failed and memory sufficed, and the bytes are known
  abbrev pub Fair : (List ℕ → Option (List ℕ) → Type 0) → Type 0
  Fair P =
      ¬ HasWires words e.old → ¬ Rose e.streams.read e.streams.read_now
      → ¬ Rose e.streams.written e.streams.written_now → ¬ Rose before now → status ≢ 7
      → (HasLink words e.old → status ≢ 5)
      → IfSome e.streams.input (λ bytes. (link : Option (List ℕ))
      → GetsLink see words e.old link → P bytes link)

  -- what follows of an answer that is due and given
  fair : {P : List ℕ → Option (List ℕ) → Type 0}
      → ((bytes : List ℕ) (link : Option (List ℕ)) → Given bytes link → P bytes link)
      → AreRuns → (ending : Ending) → EndsWords see words e ending
      → Said dold dnew before now status ending → Fair P
  fair each runs ending h (inr failed) = λ never read written diag memory joined.
      absurd (diag failed.1)
  fair each runs ending h (inl says) = λ never read written diag memory joined.
      for-known e.streams.input (λ bytes known link gets. each bytes link (ending-given runs never
      read written memory joined bytes known link gets ending h says.0 says.1))

  pub complete : AreRuns → (ending : Ending) → EndsWords see words e ending
      → Said dold dnew before now status ending → Fair Given
  complete = fair (λ bytes link given. given)

  pub exact : OneCommand → OneOutcome → AreRuns → (ending : Ending)
      → EndsWords see words e ending → Said dold dnew before now status ending
      → Fair (λ bytes link. (answer : Answer) → IsDue words bytes link answer
      → IsGiven answer status e.streams.old e.streams.new dold dnew)
  exact law joins runs = fair (λ bytes link given answer due.
      subst (λ (a : Answer). IsGiven a status e.streams.old e.streams.new dold dnew)
      (one-due law runs joins words bytes link given.0 answer given.1 due) given.2) runs
