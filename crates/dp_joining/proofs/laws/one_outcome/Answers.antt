use Rattle.dp_line_machine.specs.Limits.{lines_limit}
use Rattle.dp_io.specs.Limits.{stream_limit}
use Rattle.dp_joining.proofs.OneOutcome.{one_outcome}
use Rattle.dp_joining.proofs.laws.one_outcome.Goals as goal

pub returns : goal.returns
returns c = one_outcome (record {
  link = record {
    frames = record { first = c.one_first_frame.ensures; entry = c.one_standing.ensures.one };
    entries = c.one_reading.ensures.entries 0 stream_limit;
    end = c.one_reading.ensures.end 0 stream_limit;
  };
  action = c.one_join_action.ensures;
  lines = c.one_end.ensures.lines lines_limit;
  last = c.one_end.ensures.end lines_limit;
})
