use Rattle.dp_plain.proofs.Runs.{run_absent, run_present}
use Rattle.dp_plain.proofs.laws.runs_change_one_layer.Goals as goal

pub returns : goal.returns
returns c = record {
  present = λ board id run pixels whole on found.
      run_present board id run whole on pixels found;
  absent = λ board id run whole on none. run_absent board id run whole on none;
}
