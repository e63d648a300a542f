use Rattle.std.proofs.Common.{ap, refl, arith}
use Rattle.dp_client.specs.Client.{State}
use Rattle.dp_schedule.specs.declared.join_action.JoinAction.TheVariants.{Say, View, Confirmed}
use Rattle.dp_schedule.specs.declared.join_action.JoinAction.TheVariants.{Snapshot, Reset, Chat}
use Rattle.dp_joiner.specs.Steps.{seen}
use Rattle.dp_joining.proofs.Alone.{does_alone}
use Rattle.dp_joiner.proofs.Moving.{anyhow}
use Rattle.dp_joining.proofs.acting.act.Goals as goal

pub returns-in-Say : goal.returns-in-Say
returns-in-Say g c =
    let see = seen g.O.Sink.held g.O.Sink.faults in
    rw c.in-Say.is (does_alone c.say-said.result
    (see c.args.joiner.now c.args.output.now c.args.draws.now c.args.tiles.now)
    (see c.say-said.new.self c.say-said.new.output c.say-said.new.draws c.say-said.new.tiles)
    (Say c.in-Say.msg) refl c.requires.ready
    c.say-said.ensures.source c.say-said.ensures.taken c.say-said.ensures.changes)

pub returns-in-View : goal.returns-in-View
returns-in-View g c =
    let see = seen g.O.Sink.held g.O.Sink.faults in
    rw c.in-View.is (does_alone c.show_client.result
    (see c.args.joiner.now c.args.output.now c.args.draws.now c.args.tiles.now)
    (see c.args.joiner.now c.show_client.new.output c.args.draws.now c.args.tiles.now) View
    refl c.requires.ready refl (anyhow c.show_client.result refl)
    (c.show_client.ensures c.args.draws.now c.args.tiles.now))

pub returns-in-Confirmed : goal.returns-in-Confirmed
returns-in-Confirmed g c =
    let see = seen g.O.Sink.held g.O.Sink.faults in
    rw c.in-Confirmed.is (does_alone c.show_client-in-Confirmed.result
    (see c.args.joiner.now c.args.output.now c.args.draws.now c.args.tiles.now)
    (see c.args.joiner.now c.show_client-in-Confirmed.new.output c.args.draws.now
    c.args.tiles.now) Confirmed refl c.requires.ready refl
    (anyhow c.show_client-in-Confirmed.result refl)
    (c.show_client-in-Confirmed.ensures c.args.draws.now c.args.tiles.now))

pub returns-in-Snapshot : goal.returns-in-Snapshot
returns-in-Snapshot g c =
    let see = seen g.O.Sink.held g.O.Sink.faults in
    rw c.in-Snapshot.is (does_alone c.show_client-in-Snapshot.result
    (see c.args.joiner.now c.args.output.now c.args.draws.now c.args.tiles.now)
    (see c.args.joiner.now c.show_client-in-Snapshot.new.output c.args.draws.now
    c.args.tiles.now) Snapshot refl c.requires.ready refl
    (anyhow c.show_client-in-Snapshot.result refl)
    (c.show_client-in-Snapshot.ensures c.args.draws.now c.args.tiles.now))

pub reset-requires : goal.reset-requires
reset-requires g c =
    let few = c.requires.ready.few in
    let within = c.requires.ready.readable.within in
    omega arith

pub returns-in-Reset : goal.returns-in-Reset
returns-in-Reset g c =
    let see = seen g.O.Sink.held g.O.Sink.faults in
    rw c.in-Reset.is (does_alone c.reset.result
    (see c.args.joiner.now c.args.output.now c.args.draws.now c.args.tiles.now)
    (see c.reset.new.self c.reset.new.output c.args.draws.now c.args.tiles.now)
    (Reset c.in-Reset.keeps) refl c.requires.ready
    c.reset.ensures.source
    (anyhow c.reset.result (ap (λ (s : State). s.taken) c.reset.ensures.client))
    (c.reset.ensures.changes c.args.draws.now c.args.tiles.now))

pub returns-in-Chat : goal.returns-in-Chat
returns-in-Chat g c =
    let see = seen g.O.Sink.held g.O.Sink.faults in
    rw c.in-Chat.is (does_alone c.print_chats.result
    (see c.args.joiner.now c.args.output.now c.args.draws.now c.args.tiles.now)
    (see c.args.joiner.now c.print_chats.new.output c.args.draws.now c.args.tiles.now) Chat refl
    c.requires.ready
    refl (anyhow c.print_chats.result refl)
    (c.print_chats.ensures c.args.draws.now c.args.tiles.now))
