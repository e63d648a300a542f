use Rattle.std.proofs.Common.{◌++◌, map, refl, subst}
use Rattle.std.proofs.lemmas.List.{take_all}
use Rattle.dp_acl.specs.Opening.{command_entry}
use Rattle.dp_history.specs.Openings.{Holds}
use Rattle.dp_history.specs.Items.{commands_in}
use Rattle.dp_history.proofs.ItemLemmas.{holds-command}
use Rattle.dp_history.proofs.opening.Opening.add_commands.Goals as goal

pub loop-part-preserved : goal.loop-part-preserved
loop-part-preserved c = λ journal history said h.
    holds-command c.commands_change_no_right.ensures journal c.loop-part.self
    (record { live = c.push.new.self; rights = c.loop-part.self.rights }) history c.args.parts.now
    c.loop-part.part-index c.loop-part-test.true said refl c.in_ok-push.ensures.items
    (c.loop-part.invariant journal history said h)

pub returns : goal.returns
returns c = λ journal history said h.
    subst (λ parts. Holds journal c.loop-part.self
    (history ++ map command_entry (commands_in journal parts)))
    (take_all c.loop-part.part-index c.args.parts.now c.loop-part-test.false)
    (c.loop-part.invariant journal history said h)
