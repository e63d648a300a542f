use Rattle.dp_lines.proofs.OneWay.{ended_and_rest, ended_lack, rest_lacks, lines_only}
use Rattle.dp_lines.proofs.laws.whole_lines.Goals as goal

pub returns : goal.returns
returns c = record {
  whole = ended_and_rest;
  each = ended_lack;
  rest = rest_lacks;
  only = lines_only;
}
