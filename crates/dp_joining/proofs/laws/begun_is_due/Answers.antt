use Rattle.std.proofs.Common.{[]}
use Rattle.std.proofs.lemmas.List.Elements.{All-nil}
use Rattle.dp_lines.specs.Lines.{Lacks, newline}
use Rattle.dp_line_machine.specs.Limits.{lines_limit}
use Rattle.dp_io.specs.Limits.{stream_limit}
use Rattle.dp_joining.proofs.Begun.{begun_due}
use Rattle.dp_joining.proofs.laws.begun_is_due.Goals as goal

pub returns : goal.returns
returns c name t end leaves =
    begun_due (record {
      link = record {
        frames = record { first = c.one_first_frame.ensures; entry = c.one_standing.ensures.one };
        entries = c.one_reading.ensures.entries 0 stream_limit;
        end = c.one_reading.ensures.end 0 stream_limit;
      };
      action = c.one_join_action.ensures;
      lines = c.one_end.ensures.lines lines_limit;
      last = c.one_end.ensures.end lines_limit;
    }) (record {
      lacks = c.whole_lines.ensures.rest;
      only = λ rest lacks. c.whole_lines.ensures.only [] rest (All-nil (Lacks newline)) lacks;
    }) name t end leaves
