use Rattle.std.proofs.Common.{[], ◌∷◌, subst}
use Rattle.dp_hall.specs.Calls.{SeatValue}
use Rattle.dp_epochs.specs.declared.event.Event.{Event}
use Rattle.dp_epochs.specs.declared.event.Event.TheVariants.{Close}
use Rattle.dp_epochs.specs.Past.{Past}
use Rattle.dp_link.specs.Acts.{ActsOnce}
use Rattle.dp_session_laws.specs.Logs.{ReplyOrMemory}
use Rattle.dp_link.proofs.SendLemmas.{seen-legal, opened-later}
use Rattle.dp_link_run.specs.Links.{link_seen}
use Rattle.dp_link_run.proofs.LinkLemmas.{FeedLaws, talks-left, talks-pumped}
use Rattle.dp_link_run.proofs.link.talk.Goals as goal

pub returns-in_default-clause-talks : goal.returns-in_default-clause-talks
returns-in_default-clause-talks g c =
    let start = c.args.worker.now.hall.now.start in
    let v = c.args.seat.now.view in
    let w = c.leave-close.new.seat.view in
    let greeting = c.args.greeting.now in
    let acts =
    subst (λ (s : SeatValue Event ReplyOrMemory Past). ActsOnce s.view (Close greeting.conn)
    c.leave-close.result w) c.in_default.ensures.err c.leave-close.ensures.acts in
    let opened =
    opened-later v.seen w.seen greeting.conn greeting.user greeting.epoch greeting.at
    acts.goes.seen c.requires.opened in
    talks-left start v w greeting c.args.split
    (link_seen g.R.Source.left g.R.Source.faults g.S.Sink.held g.S.Sink.faults
    (c.args.rx, c.args.tx))
    c.leave-close.result c.served-end.result
    (λ out back. c.seats_come_back.ensures.calls v w (acts.act ∷ []) out back acts.goes)
    (c.feeds_begin.ensures start w.seen greeting.conn greeting.user greeting.epoch greeting.at
    c.requires.start
    (seen-legal start w c.leave-close.ensures.of.start c.seats_are_sound.ensures) opened)
    acts c.served-end.ensures.conn c.served-end.ensures.ends.0 c.served-end.ensures.ends.1
    c.served-end.ensures.memory c.served-end.ensures.store

pub returns-clause-talks : goal.returns-clause-talks
returns-clause-talks g c =
    let start = c.args.worker.now.hall.now.start in
    let v = c.args.seat.now.view in
    let w = c.run_pumps-rx.new.seat.view in
    let pumps = c.run_pumps-rx.ensures.pumps in
    let laws : FeedLaws = record {
      grows = c.sessions_go_on.ensures.grows;
      feeds = c.feeds_go_on.ensures;
      gone = c.gone_goes_on.ensures;
    } in
    talks-pumped laws start v c.split.new.seat.view c.in-Ok.other.view w c.args.greeting.now
    c.args.split
    (link_seen g.R.Source.left g.R.Source.faults g.S.Sink.held g.S.Sink.faults
    (c.args.rx, c.args.tx))
    (link_seen g.R.Source.left g.R.Source.faults g.S.Sink.held g.S.Sink.faults
    (c.run_pumps-rx.result.rx, c.run_pumps-rx.result.tx))
    c.run_pumps-rx.result.down c.run_pumps-rx.result.run c.served-end-2.result c.requires.start
    (λ out back. c.seats_come_back.ensures.pair v w pumps.says.acts [] out back
    (c.seats_rejoin.ensures v c.split.new.seat.view c.in-Ok.other.view pumps.one pumps.two w
    pumps.says.acts [] c.in-Ok.ensures.given.1 pumps.says.goes pumps.waits pumps.joins))
    (c.seats_rejoin.ensures v) c.in-Ok.ensures.given.1 pumps c.served-end-2.ensures.conn
    c.served-end-2.ensures.ends.0 c.served-end-2.ensures.ends.1 c.served-end-2.ensures.memory
    c.served-end-2.ensures.store
