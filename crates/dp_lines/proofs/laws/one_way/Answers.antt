use Rattle.dp_lines.proofs.OneWay.{join-pieces, pieces_some, pieces_lack, pieces-join}
use Rattle.dp_lines.proofs.laws.one_way.Goals as goal

pub returns : goal.returns
returns c = record {
  joined = join-pieces;
  some = pieces_some;
  lacking = pieces_lack;
  only =
      pieces-join;
}
