use Rattle.std.proofs.Common.{refl}
use Rattle.dp_crew.proofs.SeatLemmas.{works-calls}
use Rattle.dp_link_tests.proofs.CountLemmas.{no-fault}
use Rattle.dp_link_tests.proofs.counter.AdderServiceCounter.serve.Goals as goal

pub returns-clause-serves : goal.returns-clause-serves
returns-clause-serves g c =
    let h = c.add_all-count.ensures.adds in
    let v = c.args.seat.now.view in
    let w = c.add_all-count.new.seat.view in
    record {
      acts = h.acts;
      goes =
          works-calls v w h.acts
          (λ out back. c.seats_come_back.ensures.calls v w h.acts out back h.goes) h.goes;
      run = record { worker = refl; count = h.count_is };
      number = refl;
      memory = h.memory_is;
      fault = no-fault h.acts;
    }
