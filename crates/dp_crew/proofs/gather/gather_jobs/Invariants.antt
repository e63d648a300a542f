use Rattle.std.proofs.Common.{ℕ, ◌+◌, ◌-◌, ◌^◌, ◌≤◌, All, IfSome, List, reverse, vec_len, Result}
use Rattle.std.proofs.Common.{vec_capacity}
use Rattle.std.specs.declared.alloc.AllocError.{AllocError}
use Rattle.dp_hall.specs.declared.view.View.{View}
use Rattle.dp_hall.specs.Calls.{IsOf}
use Rattle.dp_crew.specs.Parts.{Sight}
use Rattle.dp_crew.specs.Jobs.{JobValue, MadeJobs, RanJobs}
use Rattle.dp_crew.specs.Gathering.{IsFirst, all_reports}
use Rattle.dp_crew.proofs.GatherLemmas.{GatheredSoFar}
use Rattle.dp_crew.proofs.gather.gather_jobs.Given as goal

abbrev pub invariant-jobs : goal.invariant-jobs
invariant-jobs g l =
    let rules = g.S.Reporting.rules in
    let see : Sight g.row.W.Denot g.row.W-Rx.Denot g.row.W-Tx.Denot = record {
      links = g.W.Wire.links;
      faults = g.W.Wire.faults;
    } in
    record {
      of : IsOf l.hall l.seat;
      jobs : All (λ job. IfSome job.seat (IsOf l.hall)) l.jobs.items;
      wires_room : vec_len l.jobs + vec_len l.wires ≤ vec_capacity l.wires;
      lists_room : vec_len l.jobs + vec_len l.lists ≤ vec_capacity l.lists;
      gathered : (v : View g.row.M-Event.Denot
          (Result g.row.M-Reply.Denot AllocError) g.row.M.Denot)
          (olds : List g.row.W.Denot)
          (made : List (JobValue g.row.W.Denot g.row.S-Report.Denot g.row.M-Event.Denot
          (Result g.row.M-Reply.Denot AllocError) g.row.M.Denot))
          (most : ℕ) → IsFirst v → most ≤ 2 ^ 32 - 1
          → MadeJobs l.hall v l.fn.seat.view 0 olds (reverse made)
          → RanJobs rules see l.hall most made l.fn.jobs.items
          → GatheredSoFar rules see l.hall most v l.seat.view olds l.jobs.items
          l.wires.items (all_reports l.lists.items) l.flags;
    }

abbrev pub decreases-jobs : goal.decreases-jobs
decreases-jobs g l = vec_len l.jobs
