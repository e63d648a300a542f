use Rattle.std.proofs.Common.{inr, ◌∙◌}
use Rattle.dp_joining.proofs.Starting.{returned}
use Rattle.dp_joining.proofs.run.run_join.Goals as goal

pub returns-in-Ok-clause-leaves : goal.returns-in-Ok-clause-leaves
returns-in-Ok-clause-leaves g c =
    let joined = c.join_link-end.result in
    inr (inr (
      c.done.ensures.count ∙ c.in-Ok.ensures.cause.kept,
      record {
        rx = c.in-Ok.link.0;
        tx = c.in-Ok.link.1;
        rx_now = joined.rx;
        tx_now = joined.tx;
        returned =
            returned (c.in-Ok.link.0, c.in-Ok.link.1) (joined.rx, joined.tx) _ _ _
            c.in-Ok.ensures.links c.done.ensures.links;
        leaves = c.join_link-end.ensures.leaves;
        due = c.begun_is_due.ensures c.args.name.now _ _ c.join_link-end.ensures.leaves;
        took = c.join_link-end.ensures.took;
        unread = c.join_link-end.ensures.unread;
        fault = c.join_link-end.ensures.fault;
      },
    ))
