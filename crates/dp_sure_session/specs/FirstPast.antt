-- Where sessions over a store that never fails begin.
use Rattle.std.specs.Prelude.{None, Some, []}
use Rattle.dp_epochs.specs.Past.{Past}

-- the past of a session to which nothing has come, over a store that never fails
abbrev pub first_past : Past
first_past = record {
  journal = [];
  shut = [];
  quiet = [];
  first_fault = None;
  known = Some [];
  count = 0;
  read_faults = 0;
}
