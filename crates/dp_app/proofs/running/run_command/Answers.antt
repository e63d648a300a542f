-- The command is the one that was matched.
use Rattle.std.proofs.Common.{◌∙◌, ap, refl, sym}
use Rattle.std.proofs.KnownBytes.{Keeps-refl}
use Rattle.dp_words.specs.declared.command_line.CommandLine.TheVariants.{Listen}
use Rattle.dp_app.proofs.running.run_command.Goals as goal

pub returns-in-Join-clause-ends : goal.returns-in-Join-clause-ends
returns-in-Join-clause-ends g c = rw c.in-Join.is c.run_link.ensures.ends

pub returns-in-Listen-clause-ends : goal.returns-in-Listen-clause-ends
returns-in-Listen-clause-ends g c = rw c.in-Listen.is
    (c.run_server.ensures.ends _
    (Keeps-refl _, Keeps-refl _, refl, refl, (refl, refl)))

pub returns-in-Listen-clause-keeper : goal.returns-in-Listen-clause-keeper
returns-in-Listen-clause-keeper g c = λ other.
    c.run_server.ensures.keeper (λ same. other c.in-Listen.addr c.in-Listen.conns
    c.in-Listen.service (c.in-Listen.is ∙ ap (λ n. Listen c.in-Listen.addr n c.in-Listen.conns
    c.in-Listen.service) (sym same)))
