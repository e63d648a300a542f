use Rattle.dp_client.proofs.Few.{apart_due, echo_due, move_due}
use Rattle.dp_client.proofs.laws.few_are_due.Goals as goal

pub returns : goal.returns
returns c = record {
  echo = λ apart s entry own still. echo_due c.few_are_due.ensures.echo apart s entry own still;
  apart = λ apart s user op own far. apart_due c.few_are_due.ensures.apart apart s user op own far;
  moved = λ apart s entry group is. move_due c.few_are_due.ensures.moved apart s entry group is;
}
