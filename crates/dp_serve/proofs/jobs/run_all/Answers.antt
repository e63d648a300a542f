use Rattle.std.proofs.Common.{All, IfSome, ◌≡◌, ◌++◌, ◌∙◌, List, arith, drop, length, subst, sym}
use Rattle.std.proofs.Common.{take, ℕ}
use Rattle.std.proofs.lemmas.List.{take_at}
use Rattle.dp_hall.specs.Calls.{IsOf}
use Rattle.dp_crew.specs.Runs.{most_links}
use Rattle.dp_crew.proofs.Making.{made-of, made-length, ran-of, ran-same}
use Rattle.dp_crew.proofs.CrewLemmas.{most-small}
use Rattle.dp_link_run.specs.Links.{link_seen}
use Rattle.dp_serve.specs.Works.{session_rules}
use Rattle.dp_serve.proofs.jobs.run_all.Goals as goal

-- a list that was lent is this one when it is back
given_back : {A : Type 0} (olds news : List A) (n : ℕ) → length news ≡ n
    → take n (news ++ drop (length news) olds) ≡ news
given_back olds news n same = take_at news (drop (length news) olds) n same

pub run_jobs-requires-clause-of : goal.run_jobs-requires-clause-of
run_jobs-requires-clause-of g c κs within =
    subst (All (λ job. IfSome job.seat (IsOf c.args.crew.now.hall.now)))
    (sym c.deref_mut.ensures.value) (made-of c.args.crew.now.hall.now c.args.seat.now.view
    c.make_jobs.new.seat.view c.args.wires.now.items c.make_jobs.new.jobs.items
    c.make_jobs.ensures.made)

pub gather_jobs-flags-requires-clause-seats : goal.gather_jobs-flags-requires-clause-seats
gather_jobs-flags-requires-clause-seats g c κs within =
    subst (All (λ job. IfSome job.seat (IsOf c.args.crew.now.hall.now)))
    (sym (given_back c.make_jobs.new.jobs.items c.run_jobs.new.jobs c.make_jobs.new.jobs.len
    (c.run_jobs.auto.jobs ∙ c.deref_mut.ensures.len)))
    (ran-of (session_rules (link_seen g.W.Rx.Source.left g.W.Rx.Source.faults g.W.Tx.Sink.held
    g.W.Tx.Sink.faults)) (record { links = g.W.Wire.links; faults = g.W.Wire.faults })
    c.args.crew.now.hall.now (most_links c.args.conns) c.deref_mut.result.now
    c.run_jobs.new.jobs c.run_jobs.ensures)

pub gather_jobs-flags-requires-clause-room : goal.gather_jobs-flags-requires-clause-room
gather_jobs-flags-requires-clause-room g c κs within =
    let count = made-length c.args.crew.now.hall.now c.args.seat.now.view c.make_jobs.new.seat.view
    c.args.wires.now.items c.make_jobs.new.jobs.items c.make_jobs.ensures.made in (
      omega (arith, count, c.make_jobs.new.jobs.ok, c.args.wires.now.ok, c.make_jobs.ensures.room),
      omega (arith, count, c.make_jobs.new.jobs.ok, c.args.wires.now.ok, c.requires.room),
    )

pub returns-clause-gathers : goal.returns-clause-gathers
returns-clause-gathers g c =
    let back = given_back c.make_jobs.new.jobs.items c.run_jobs.new.jobs c.make_jobs.new.jobs.len
    (c.run_jobs.auto.jobs ∙ c.deref_mut.ensures.len) in
    c.gather_jobs-flags.ensures.gathers c.args.seat.now.view c.args.wires.now.items
    c.make_jobs.new.jobs.items _ c.requires.first
    (most-small c.args.conns c.unwrap_or-most.result c.unwrap_or-most.type_inv
    c.unwrap_or-most.ensures) c.make_jobs.ensures.made
    (ran-same (session_rules (link_seen g.W.Rx.Source.left g.W.Rx.Source.faults g.W.Tx.Sink.held
    g.W.Tx.Sink.faults)) (record { links = g.W.Wire.links; faults = g.W.Wire.faults })
    c.args.crew.now.hall.now (most_links c.args.conns) c.deref_mut.result.now
    c.run_jobs.new.jobs c.make_jobs.new.jobs.items
    (take c.make_jobs.new.jobs.len (c.run_jobs.new.jobs ++ drop (length c.run_jobs.new.jobs)
    c.make_jobs.new.jobs.items)) c.deref_mut.ensures.value (sym back) c.run_jobs.ensures)
