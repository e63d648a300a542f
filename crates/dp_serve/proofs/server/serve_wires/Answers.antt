use Rattle.std.proofs.Common.{◌∙◌, ap, refl, subst, sym}
use Rattle.dp_epochs.specs.Laws.{ShutBefore}
use Rattle.dp_epochs.specs.Past.{Past}
use Rattle.dp_serve.proofs.ServeLemmas.{serves-of}
use Rattle.dp_serve.proofs.server.serve_wires.Goals as goal

pub run_workers-ran-requires-clause-start : goal.run_workers-ran-requires-clause-start
run_workers-ran-requires-clause-start g c κs within =
    subst ShutBefore (sym c.in-Ok.ensures.start) c.requires.sound

pub finish-requires-clause-alone : goal.finish-requires-clause-alone
finish-requires-clause-alone g c κs within =
    c.crews_add_up.ensures.alone _ c.in-Ok.hall.start _ c.run_workers-ran.new.seat.view
    c.args.wires.items c.run_workers-ran.result.wires.items c.run_workers-ran.result.reports
    c.run_workers-ran.result.flags c.run_workers-ran.ensures.gathers

pub returns-in-Ok : goal.returns-in-Ok
returns-in-Ok g c =
    let start = c.in-Ok.hall.start in
    let ran = c.run_workers-ran in
    let done = c.finish.ensures in
    let closed = done.closes in
    let all = c.crews_add_up.ensures.closed _ start closed.last _ ran.new.seat.view
    c.args.wires.items ran.result.wires.items ran.result.reports ran.result.flags
    (subst ShutBefore (sym c.in-Ok.ensures.start) c.requires.sound) ran.ensures.gathers
    closed.closes in
    serves-of _ start _ c.journals_are_logs.ensures c.args.session closed.last c.args.wires.items
    ran.result.wires.items c.finish.result.wires.items ran.result.reports ran.result.flags _
    c.in-Ok.ensures.start done.wires all closed.journal closed.shut closed.known closed.count
    closed.read_faults done.reports done.flags.0 done.flags.1 done.flags.2

pub returns-in-Err : goal.returns-in-Err
returns-in-Err g c =
    let n = c.serve_nothing.ensures in
    let is = c.in-Err.ensures.err in
    let none = c.crews_add_up.ensures.nothing _ c.args.session _ c.args.wires.items
    (record {
      memory = c.serve_nothing.result.memory;
      fault = c.serve_nothing.result.store;
      wire = c.serve_nothing.result.wire;
    }) n.flags.0 n.flags.1 n.flags.2 in
    serves-of _ c.args.session _ c.journals_are_logs.ensures c.args.session c.args.session
    c.args.wires.items c.args.wires.items c.serve_nothing.result.wires.items _ _ _
    refl n.wires none
    (n.parts.3 ∙ ap (λ (p : Past). p.journal) is)
    (n.parts.4 ∙ ap (λ (p : Past). p.shut) is) (n.parts.0 ∙ ap (λ (p : Past). p.known) is)
    (n.parts.1 ∙ ap (λ (p : Past). p.count) is)
    (n.parts.2 ∙ ap (λ (p : Past). p.read_faults) is) n.reports refl refl refl
