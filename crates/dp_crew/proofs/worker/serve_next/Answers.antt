use Rattle.std.proofs.Common.{◌∙◌, ◌++◌, ◌∷◌, [], ap, refl}
use Rattle.dp_crew.proofs.SeatLemmas.{seen-legal}
use Rattle.dp_crew.proofs.WorkLemmas.{served-last, served-more}
use Rattle.dp_crew.proofs.worker.serve_next.Goals as goal

pub returns-in-Ok-Some-clause-serves : goal.returns-in-Ok-Some-clause-serves
returns-in-Ok-Some-clause-serves g c = λ v links count far.
    let start = (g.S.Service.hall c.args.service.now).start in
    let w = c.serve-rx.new.seat.view in
    let out = rw c.in-Ok-Some.field-0-is at c.in-Ok-Some.ensures.links in
    served-more g.S.Reporting.rules g.M.Machine.may_step start c.args.who
    c.reports_go_on.ensures c.args.link v c.args.seat.now.view w links
    (g.W.Wire.links c.args.wire.now) (g.W.Wire.links c.accept.new.self)
    (g.W.Wire.links c.done.new.self) count (g.W.Wire.faults c.args.wire.now)
    (g.W.Wire.faults c.done.new.self) c.args.worked.now c.note.new.self
    (c.in-Ok-Some.rx, c.in-Ok-Some.tx) c.serve-rx.result c.requires.begins
    (seen-legal g.M.Machine.may_step start w c.serve-rx.ensures.of.start
    c.seats_are_sound.ensures)
    far out c.done.ensures.links (c.done.ensures.count ∙ c.in-Ok-Some.ensures.cause.kept)
    c.serve-rx.ensures.serves
    (c.note.ensures.reports ∙ ap (λ l. l ++ c.serve-rx.result.report ∷ [])
    c.reserve.ensures.items)
    c.note.ensures.memory c.note.ensures.fault c.note.ensures.wire

pub returns-in-Ok-None-clause-serves : goal.returns-in-Ok-None-clause-serves
returns-in-Ok-None-clause-serves g c = λ v links count far.
    let none = rw c.in-Ok-None.field-0-is at c.in-Ok-None.ensures.links in
    served-last g.S.Reporting.rules g.M.Machine.may_step
    (g.S.Service.hall c.args.service.now).start c.args.who
    c.args.link v c.args.seat.now.view links (g.W.Wire.links c.args.wire.now)
    (g.W.Wire.links c.accept.new.self) count (g.W.Wire.faults c.args.wire.now)
    (g.W.Wire.faults c.accept.new.self) c.args.worked.now _ far none
    c.in-Ok-None.ensures.cause.kept c.reserve.ensures.items refl refl refl
