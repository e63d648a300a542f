use Rattle.std.proofs.Common.{subst}
use Rattle.dp_board.specs.Counts.{CountsFew}
use Rattle.dp_client.specs.Due.{canvas_due}
use Rattle.dp_pixels.specs.Feet.{reach}
use Rattle.dp_sim.specs.Exchanges.{Participant}
use Rattle.dp_sim_world.proofs.participant.Participant.take_entry.Goals as goal

pub returns-in_err-taken-clause-counts : goal.returns-in_err-taken-clause-counts
returns-in_err-taken-clause-counts g c =
    subst (λ (p : Participant). CountsFew reach (canvas_due p.state c.args.entry.now)
    c.args.draws.now c.take.new.draws c.args.tiles.now c.take.new.tiles) c.self.view_is
    (c.clients_show.ensures.takes c.self.inside.client c.args.entry.now _ _ _ _
    c.take.ensures.counts)

pub returns-in_default-clause-counts : goal.returns-in_default-clause-counts
returns-in_default-clause-counts g c =
    subst (λ (p : Participant). CountsFew reach (canvas_due p.state c.args.entry.now)
    c.args.draws.now c.take.new.draws c.args.tiles.now c.take.new.tiles) c.self.view_is
    (c.clients_show.ensures.takes c.self.inside.client c.args.entry.now _ _ _ _
    c.take.ensures.counts)
