-- The words ask for the command that was run.
use Rattle.std.proofs.Common.{List, inl, inr, subst, sym}
use Rattle.std.specs.declared.string.String.{String}
use Rattle.dp_words.specs.declared.command_line.CommandLine.{CommandLine}
use Rattle.dp_endings.specs.declared.ending.Ending.{Ending}
use Rattle.dp_commands.specs.Commands.{Asks}
use Rattle.dp_commands.specs.Effects.{Effects, Wires}
use Rattle.dp_app.specs.Kinds.{EndsCommand, EndsWords, NothingRuns}
use Rattle.dp_app.proofs.running.run_words.Goals as goal

-- what the command that the words ask for leaves
module _ {A W R T : Type 0} (see : Wires W R T) (words : List (String A)) (e : Effects W) where
  words-end : (command : CommandLine) (ending : Ending) → Asks words command
      → EndsCommand see command e ending → EndsWords see words e ending
  words-end command ending asks (inl h) =
      inl (subst (NothingRuns words e.old) (sym h.0) (command, asks, h.1), h.2)
  words-end command ending asks (inr h) = inr (command, asks, h)

pub returns-in-Ok-Some-clause-ends : goal.returns-in-Ok-Some-clause-ends
returns-in-Ok-Some-clause-ends g c =
    let asks = rw c.in-Ok-Some.field-0-is at c.in-Ok-Some.ensures.some in
    words-end _ c.args.words.now _ c.in-Ok-Some.command c.run_command.result.ending asks
    c.run_command.ensures.ends

pub returns-in-Ok-Some-clause-keeper : goal.returns-in-Ok-Some-clause-keeper
returns-in-Ok-Some-clause-keeper g c =
    let asks = rw c.in-Ok-Some.field-0-is at c.in-Ok-Some.ensures.some in
    λ never. c.run_command.ensures.keeper (λ addr conns service is.
    never (addr, conns, service, subst (Asks c.args.words.now) is asks))
