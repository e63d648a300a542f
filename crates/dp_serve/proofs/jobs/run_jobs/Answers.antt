use denote.Param.{param}
use denote.Param.Send.{param_sync, sendable}
use Rattle.std.proofs.Common.{get_or}
use Rattle.std.proofs.Crossing.{sync}
use Rattle.dp_crew.specs.Runs.{most_links}
use Rattle.dp_crew.proofs.Sending.{number_sync}
use Rattle.dp_crew.proofs.Making.{ran-at, ran-each}
use Rattle.dp_link_run.specs.Links.{link_seen}
use Rattle.dp_serve.specs.Works.{session_rules}
use Rattle.dp_link_run.proofs.Sending.{session_hall_sync}
use Rattle.dp_serve.proofs.Sending.{session_job_send}
use Rattle.dp_serve.proofs.jobs.run_jobs.Lts.{arg-0-2}
use Rattle.dp_serve.proofs.jobs.run_jobs.Goals as goal

pub for_each_mut-requires-send-T : goal.for_each_mut-requires-send-T
for_each_mut-requires-send-T g c κs within = search (sendable, session_job_send) depth 20

pub for_each_mut-requires-sync-F : goal.for_each_mut-requires-sync-F
for_each_mut-requires-sync-F g c κs within =
    let hall = session_hall_sync (param 1 g.row.C) (param 6 g.row.C-Store) g.C.SessionCore
    g.C.Store.Keeper c.type_bounds.send-C in
    let rt = c.type_bounds.sync-R in
    let gate = c.type_bounds.sync-G in
    param_sync 2 (arg-0-2 g.row.W g.row.C g.row.G g.row.R g.row.W-Rx g.row.W-Tx g.row.C-Store
    g.W.laws g.C.laws g.G.laws g.R.laws g.W.Rx.laws g.W.Tx.laws g.C.Store.laws g.W.Wire
    g.W.Wire-dict g.W.Rx.Source g.W.Rx.Source-dict g.W.Tx.Sink g.W.Tx.Sink-dict g.C.SessionCore
    g.C.SessionCore-dict g.C.Store.Keeper g.C.Store.Keeper-dict g.G.Gate g.G.Gate-dict g.R.Threads
    g.R.Threads-dict g.R.Wait g.R.Wait-dict g.W.Rx.Destruct-dict g.W.Tx.Destruct-dict κs)
    (search (sendable, sync, number_sync) depth 20 fits 5000 parts 0)

pub returns : goal.returns
returns g c =
    let olds = c.args.jobs.now in
    let news = c.for_each_mut.new.s in
    let most = most_links c.args.conns in
    let rules = session_rules (link_seen g.W.Rx.Source.left g.W.Rx.Source.faults g.W.Tx.Sink.held
    g.W.Tx.Sink.faults) in
    ran-each rules _ c.args.hall.now most olds news c.for_each_mut.auto.s
    (λ i d inside.
    let job = (c.for_each_mut.ensures i d inside).1 in
    ran-at rules _ c.args.hall.now most job.argument.now job.after_call.now (get_or olds i d)
    (get_or news i d) job.argument_is job.left job.call)
