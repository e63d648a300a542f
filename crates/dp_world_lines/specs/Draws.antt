-- How much the actions of a schedule may draw.
use Rattle.std.specs.Prelude.{List}
use Rattle.dp_board.specs.Counts.{CountsFew}
use Rattle.dp_line_machine.specs.Counters.{Counters}
use Rattle.dp_pixels.specs.Feet.{reach}
use Rattle.dp_schedule.specs.declared.action.Action.{Action}
use Rattle.dp_sim.specs.Due.{schedule_due}

-- at most the commands were drawn that these actions may draw, and no more tiles were made than
-- those reach
abbrev pub DrawsFor : List Action → Counters → Type 0
DrawsFor actions c = CountsFew reach (schedule_due actions) c.draws c.draws_now c.tiles c.tiles_now
