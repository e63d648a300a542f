use Rattle.std.proofs.Common.{◌≡◌, ℕ, ◌≤◌, List, drop, length}
use Rattle.std.specs.Prelude.{IfSome, None, Option, Some}
use Rattle.dp_schedule.specs.declared.action.Action.{Action}
use Rattle.dp_sim.specs.Exchanges.{Participant}
use Rattle.dp_sim.specs.World.{participant_of, world_after}
use Rattle.dp_sim_laws.specs.Tally.{IsUnended, Tally}
use Rattle.dp_world_laws.specs.Unended.{IsForkPlain, sends_of}
use Rattle.dp_world_laws.proofs.forks_of_lines_are_plain.Goals as goal

both : (tally : Participant → Tally) (o : Option Participant)
    → IfSome o (λ p. (tally p).answers ≤ length (tally p).sends)
    → IfSome o (λ p. p.state.fork ≡ drop (tally p).answers (tally p).sends)
    → IfSome o (λ p. IsForkPlain (tally p) p)
both tally None few fork = tt
both tally (Some p) few fork = (few, fork)

pub returns : goal.returns
returns c = λ lines actions number h.
    let unended : IsUnended actions = record {
      said = c.lines_say_no_control.ensures lines actions h.asked;
      replies = h.replies;
    } in
    both (sends_of actions number) (participant_of (world_after actions) number)
    (c.forks_are_plain.ensures.few actions number unended)
    (c.forks_are_plain.ensures.fork actions number unended)
