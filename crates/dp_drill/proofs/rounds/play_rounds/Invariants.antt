use Rattle.std.proofs.Common.{◌≡◌, ◌-◌, None}
use Rattle.std.specs.List.{fold}
use Rattle.dp_drill.specs.Flow.{flow_after}
use Rattle.dp_drill.specs.Schedule.{rounds}
use Rattle.dp_drill.proofs.rounds.play_rounds.Given as goal

-- the rounds that are left lead to where all of them lead
abbrev pub invariant-loop : goal.invariant-loop
invariant-loop g l = record {
  flow : fold flow_after l.flow (rounds l.x (l.count - l.counter))
      ≡ fold flow_after l.initial.flow (rounds l.seed l.count);
  sure : l.flow.past.first_fault ≡ None;
}
