-- The round that comes next, and those that are left after it.
use Rattle.std.proofs.Common.{◌≡◌, ◌+◌, ◌-◌, ap, ap₂, ◌∙◌}
use Rattle.std.specs.List.{fold}
use Rattle.dp_drill.specs.Flow.{flow_after}
use Rattle.dp_drill.specs.Schedule.{drill_number, next, round, rounds}
use Rattle.dp_drill.proofs.RoundKinds.{round-more}
use Rattle.dp_drill.proofs.rounds.play_rounds.Goals as goal

pub loop-preserved : goal.loop-preserved
loop-preserved g c =
    let x = c.loop.x in
    let flow = c.loop.flow in
    let left = c.args.count - (c.loop.counter + 1) in
    let first : c.next-first.result ≡ next x = c.next-first.ensures in
    let second : c.next-second.result ≡ next (next x) = c.next-second.ensures ∙ ap next first in
    let made = c.in_ok-play_round.ensures.ok
    ∙ ap₂ (λ r v. fold flow_after flow (round r v))
    (c.drill_number-r.ensures.value ∙ ap drill_number first)
    (c.drill_number-v.ensures.value ∙ ap drill_number second) in record {
      flow = ap (λ y. fold flow_after c.play_round.new.flow (rounds y left)) second
          ∙ round-more flow c.play_round.new.flow x c.args.count c.loop.counter c.loop-test.true
          made ∙ c.loop.invariant.flow;
      sure = c.in_ok-play_round.ensures.sure;
    }
