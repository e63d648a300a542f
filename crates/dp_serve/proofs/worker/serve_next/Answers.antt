use Rattle.std.proofs.Common.{◌∙◌, ◌++◌, ◌∷◌, [], List, ap, refl}
use Rattle.dp_epochs.specs.Past.{Step}
use Rattle.dp_crew.proofs.SeatLemmas.{seen-legal}
use Rattle.dp_crew.proofs.WorkLemmas.{served-last, served-more}
use Rattle.dp_serve.specs.declared.report.LinkReport.{LinkReport}
use Rattle.dp_link_run.specs.Links.{link_seen}
use Rattle.dp_serve.specs.Works.{session_rules}
use Rattle.dp_serve.proofs.LinkLemmas.{session-goes-on}
use Rattle.dp_serve.proofs.worker.serve_next.Goals as goal

pub returns-in-Ok-Some-clause-serves : goal.returns-in-Ok-Some-clause-serves
returns-in-Ok-Some-clause-serves g c = λ v links count far.
    let see = link_seen g.W.Rx.Source.left g.W.Rx.Source.faults g.W.Tx.Sink.held
    g.W.Tx.Sink.faults in
    let later = session-goes-on see (record {
      grows = c.sessions_go_on.ensures.grows;
      feeds = c.feeds_go_on.ensures;
      gone = c.gone_goes_on.ensures;
    }) in
    let start = c.args.worker.now.hall.now.start in
    let served = c.serve_numbered-rx in
    let w = served.new.seat.view in
    let out = rw c.in-Ok-Some.field-0-is at c.in-Ok-Some.ensures.links in
    served-more (session_rules see) Step start c.args.worker.now.who later c.args.link v
    c.args.seat.now.view w links (g.W.Wire.links c.args.wire.now)
    (g.W.Wire.links c.accept.new.self) (g.W.Wire.links c.done.new.self) count
    (g.W.Wire.faults c.args.wire.now) (g.W.Wire.faults c.done.new.self) c.args.worked.now
    c.note.new.self (c.in-Ok-Some.rx, c.in-Ok-Some.tx) served.result c.requires.start
    (seen-legal Step start w served.ensures.of.start c.seats_are_sound.ensures)
    far out c.done.ensures.links (c.done.ensures.count ∙ c.in-Ok-Some.ensures.cause.kept)
    served.ensures.serves
    (c.note.ensures.reports ∙ ap (λ (l : List LinkReport). l ++ served.result.report ∷ [])
    c.reserve.ensures.items)
    c.note.ensures.memory c.note.ensures.fault c.note.ensures.wire

pub returns-in-Ok-None-clause-serves : goal.returns-in-Ok-None-clause-serves
returns-in-Ok-None-clause-serves g c = λ v links count far.
    let see = link_seen g.W.Rx.Source.left g.W.Rx.Source.faults g.W.Tx.Sink.held
    g.W.Tx.Sink.faults in
    let none = rw c.in-Ok-None.field-0-is at c.in-Ok-None.ensures.links in
    served-last (session_rules see) Step c.args.worker.now.hall.now.start
    c.args.worker.now.who c.args.link v c.args.seat.now.view links
    (g.W.Wire.links c.args.wire.now) (g.W.Wire.links c.accept.new.self) count
    (g.W.Wire.faults c.args.wire.now) (g.W.Wire.faults c.accept.new.self) c.args.worked.now _
    far none c.in-Ok-None.ensures.cause.kept c.reserve.ensures.items refl refl refl
