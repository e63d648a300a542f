use Rattle.dp_snap.specs.Spelled.{IsSpelled}
use Rattle.dp_snap.proofs.Sizes.{pushed}
use Rattle.dp_snap.proofs.commands.Commands.push.Goals as goal

pub invariant_of-self : goal.invariant_of-self
invariant_of-self c =
    pushed IsSpelled c.self.inside.list c.push.new.self c.args.command c.push.result
    c.push.ensures.ok c.push.ensures.err c.self.invariant c.requires
