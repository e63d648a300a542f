use denote.Param.Send.{param_sync, sendable}
use Rattle.std.proofs.Common.{get_or}
use Rattle.std.proofs.Crossing.{sync}
use Rattle.dp_crew.specs.Runs.{most_links}
use Rattle.dp_crew.proofs.Sending.{job_send, number_sync}
use Rattle.dp_crew.proofs.Making.{ran-at, ran-each}
use Rattle.dp_crew.proofs.jobs.run_jobs.Lts.{arg-0-2}
use Rattle.dp_crew.proofs.jobs.run_jobs.Goals as goal

pub for_each_mut-requires-send-T : goal.for_each_mut-requires-send-T
for_each_mut-requires-send-T g c κs within =
    let wire = c.type_bounds.send-W in
    let machine = c.type_bounds.send-M in
    search (sendable, job_send) depth 20

pub for_each_mut-requires-sync-F : goal.for_each_mut-requires-sync-F
for_each_mut-requires-sync-F g c κs within =
    let service = c.type_bounds.sync-S in
    param_sync 2 (arg-0-2 g.row.W g.row.M g.row.S g.row.R g.row.W-Rx g.row.W-Tx g.row.M-Event
    g.row.M-Reply g.row.M-Query g.row.M-Answer g.row.S-Report g.W.laws g.M.laws g.S.laws g.R.laws
    g.W.Rx.laws g.W.Tx.laws g.M.Event.laws g.M.Reply.laws g.M.Query.laws g.M.Answer.laws
    g.S.Report.laws g.W.Wire g.W.Wire-dict g.W.Rx.Source g.W.Rx.Source-dict g.W.Tx.Sink
    g.W.Tx.Sink-dict g.M.Machine g.M.Machine-dict g.S.Service g.S.Service-dict g.S.Reporting
    g.S.Reporting-dict g.R.Threads g.R.Threads-dict g.W.Rx.Destruct-dict g.W.Tx.Destruct-dict
    g.M.Reply.Destruct-dict g.M.Answer.Destruct-dict g.S.Report.Destruct-dict κs)
    (search (sendable, sync, number_sync) depth 20 fits 5000 parts 0)

pub returns : goal.returns
returns g c =
    let olds = c.args.jobs.now in
    let news = c.for_each_mut.new.s in
    let most = most_links c.args.conns in
    ran-each g.S.Reporting.rules _ (g.S.Service.hall c.args.service.now) most olds news
    c.for_each_mut.auto.s
    (λ i d inside.
    let job = (c.for_each_mut.ensures i d inside).1 in
    ran-at g.S.Reporting.rules _ (g.S.Service.hall c.args.service.now) most job.argument.now
    job.after_call.now (get_or olds i d) (get_or news i d) job.argument_is job.left job.call)
