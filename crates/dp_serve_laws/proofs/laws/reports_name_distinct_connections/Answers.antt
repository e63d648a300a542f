use Rattle.std.proofs.Common.{ap, subst, sym}
use Rattle.dp_hall.specs.Names.{AreDistinct}
use Rattle.dp_serve.specs.Closings.{open_numbers}
use Rattle.dp_serve.specs.Serving.{Left}
use Rattle.dp_serve_laws.specs.Reported.{reported}
use Rattle.dp_serve_laws.proofs.ServingLemmas.{reports-distinct}
use Rattle.dp_serve_laws.proofs.laws.reports_name_distinct_connections.Goals as goal

pub returns-clause-served : goal.returns-clause-served
returns-clause-served g c see start most old new left shut served =
    reports-distinct see start most old new left served
    (c.one_connection_each.ensures.distinct start served.log shut served.legal)

pub returns-clause-on : goal.returns-clause-on
returns-clause-on g c see start most old new left shut on =
    let sound = c.closings_go_on.ensures.sound start on.closed (open_numbers start) on.refusal shut
    on.closes in
    let served = on.serves in
    subst (λ l. AreDistinct (reported l)) (sym (ap (λ (l : Left). l.reports) on.left_is))
    (reports-distinct see on.closed most old new on.rest served
    (c.one_connection_each.ensures.distinct on.closed served.log sound served.legal))
