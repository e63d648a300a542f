use Rattle.std.proofs.Common.{[], inr, arith}
use Rattle.dp_epochs.specs.Past.{Step}
use Rattle.dp_crew.proofs.SeatLemmas.{works-calls}
use Rattle.dp_crew.proofs.WorkLemmas.{served-none}
use Rattle.dp_link_run.specs.Links.{link_seen}
use Rattle.dp_serve.specs.Works.{session_rules}
use Rattle.dp_serve.proofs.worker.run_worker.Goals as goal

pub links-init : goal.links-init
links-init g c =
    let v = c.args.seat.now.view in
    let same = c.calls_add_up.ensures.none v in
    record {
      of = c.requires.of;
      far =
          served-none (session_rules (link_seen g.W.Rx.Source.left g.W.Rx.Source.faults
          g.W.Tx.Sink.held g.W.Tx.Sink.faults)) Step c.args.worker.now.hall.now.start
          c.args.worker.now.who v (g.W.Wire.links c.args.wire.now)
          (g.W.Wire.faults c.args.wire.now) c.new-worked.result
          (works-calls v v [] (λ out h. h) same) c.new-worked.ensures.reports
          c.new-worked.ensures.flags.0 c.new-worked.ensures.flags.1 c.new-worked.ensures.flags.2;
    }

pub returns-then-not-serve_next-clause-works : goal.returns-then-not-serve_next-clause-works
returns-then-not-serve_next-clause-works g c =
    let h = c.if-not-serve_next.ensures.serves c.args.seat.now.view
    (g.W.Wire.links c.args.wire.now) (g.W.Wire.faults c.args.wire.now)
    c.links.invariant.far in
    record {
      runs = h.0;
      served = h.1;
      few = omega (arith, h.2, c.links-test.true, c.unwrap_or-most.ensures);
      all = λ wire memory. inr (h.3 wire memory);
    }
