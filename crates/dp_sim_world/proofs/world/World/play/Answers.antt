use Rattle.std.proofs.Common.{ap, subst}
use Rattle.dp_board.specs.Counts.{CountsFew}
use Rattle.dp_pixels.specs.Feet.{reach}
use Rattle.dp_sim_world.specs.Calls.{exchange}
use Rattle.dp_sim.specs.Due.{exchange_due}
use Rattle.dp_sim.specs.World.{World, participant_of}
use Rattle.dp_sim_world.proofs.CallLemmas.{counts-of, numbered-is}
use Rattle.dp_sim_world.proofs.world.World.play.Goals as goal

pub returns-clause-counts : goal.returns-clause-counts
returns-clause-counts g c =
    let w = c.args.self.now in
    let participant = c.index_mut-participant.result.now in
    counts-of (participant_of w c.args.client) w.past participant c.args.instruction.now _ _ _ _
    c.requires.client
    (numbered-is c.self.inside.participants.items w.participants c.args.client participant _
    c.index_mut-participant.ensures.value (ap (λ (x : World). x.participants) c.self.view_is)
    c.requires.client)
    (subst (λ (x : World). CountsFew reach (exchange_due (exchange x.past participant)
    c.args.instruction.now) c.args.draws.now c.act.new.draws c.args.tiles.now c.act.new.tiles)
    c.self.view_is c.act.ensures.counts)
