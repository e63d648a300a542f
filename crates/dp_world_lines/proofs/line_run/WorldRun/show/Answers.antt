use Rattle.std.proofs.Common.{ℕ, List, subst, OnOk}
use Rattle.std.specs.Io.KnownBytes.{Appends}
use Rattle.dp_io.specs.Streams.{GrowsByPrefix}
use Rattle.dp_sim.specs.World.{participant_of}
use Rattle.dp_world_lines.proofs.Shown.{text_shown}
use Rattle.dp_world_lines.proofs.line_run.WorldRun.show.Goals as goal

pub returns-clause-written : goal.returns-clause-written
returns-clause-written g c =
    let world = g.W.ScheduleWorld.seen c.args.self.now.world in
    let text = text_shown (participant_of world c.args.client) c.args.kind c.shown_of.result
    c.client-client.result.now c.requires c.shown_of.ensures c.client-client.ensures in
    subst (λ (xs : List ℕ). OnOk c.show.result (Appends (g.O.Sink.held c.args.output.now)
    (g.O.Sink.held c.show.new.output) xs)) text c.show.ensures.written

pub returns-clause-prefix : goal.returns-clause-prefix
returns-clause-prefix g c =
    let world = g.W.ScheduleWorld.seen c.args.self.now.world in
    let text = text_shown (participant_of world c.args.client) c.args.kind c.shown_of.result
    c.client-client.result.now c.requires c.shown_of.ensures c.client-client.ensures in
    subst (GrowsByPrefix (g.O.Sink.held c.args.output.now) (g.O.Sink.held c.show.new.output)) text
    c.show.ensures.prefix
