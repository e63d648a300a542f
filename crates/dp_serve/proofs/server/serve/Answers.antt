use Rattle.std.proofs.Common.{◌≡◌, ◌∙◌, ◌||◌}
use Rattle.dp_link_run.specs.Talking.{is_last_failed, is_last_store_fault}
use Rattle.dp_serve.specs.Serving.{Left}
use Rattle.dp_serve.proofs.ClosingLemmas.{as-other, raised, with-flags}
use Rattle.dp_serve.proofs.server.serve.Goals as goal
use Rattle.dp_serve.proofs.server.serve.Goals.{else-memory, else-store, then-memory, then-store}

pub returns : goal.returns
returns g c =
    let served = c.serve_wires-wires.result in
    let refusal = c.close_open-refusal.result in
    let memory_is : c.if-memory.result ≡ served.memory || is_last_failed refusal =
    elim c.if-memory.branch [
      | then-memory w ↦ raised _ _ _ w.if-memory.true w.result-is
      | else-memory w ↦ as-other _ _ _ w.if-memory.false
          (w.result-is ∙ c.ran_out-ran_out.ensures)
    ] in
    let store_is : c.if-store.result ≡ served.store || is_last_store_fault refusal =
    elim c.if-store.branch [
      | then-store w ↦ raised _ _ _ w.if-store.true w.result-is
      | else-store w ↦ as-other _ _ _ w.if-store.false (w.result-is ∙ c.broke-broke.ensures)
    ] in
    let rest : Left = record {
      journal = served.journal;
      shut = served.shut;
      known = g.C.Store.Keeper.held served.keeper;
      count = g.C.Store.Keeper.put_faults served.keeper;
      read_faults = g.C.Store.Keeper.read_faults served.keeper;
      reports = served.reports;
      memory = served.memory;
      store = served.store;
      wire = served.wire;
    } in
    record {
      refusal = refusal;
      closed = c.close_open-refusal.new.session;
      closes = c.close_open-refusal.ensures.closes;
      rest = rest;
      serves = c.serve_wires-wires.ensures;
      left_is = with-flags rest _ _ _ _ memory_is store_is;
    }
