use Rattle.std.proofs.Common.{◌≡◌, None, replicate}
use Rattle.std.specs.List.{fold}
use Rattle.dp_schedule.specs.declared.action.Action.TheVariants.{Act}
use Rattle.dp_schedule.specs.declared.action.Instruction.TheVariants.{Up}
use Rattle.dp_drill.specs.Flow.{flow_after}
use Rattle.dp_drill.proofs.flow.Flow.send_times.Given as goal

-- it has sent as often as was counted
abbrev pub invariant-loop : goal.invariant-loop
invariant-loop g l = record {
  flow : l.self ≡ fold flow_after l.initial.self (replicate l.counter (Act l.client Up));
  sure : l.self.past.first_fault ≡ None;
}
