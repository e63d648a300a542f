use Rattle.std.proofs.Common.{◌↔◌, drop}
use Rattle.dp_msg_meta.specs.Fields.{RiseFrom}
use Rattle.dp_msg_meta.proofs.tails.do_rise.Given as goal

abbrev pub invariant-loop-id : goal.invariant-loop-id
invariant-loop-id l = RiseFrom l.least (drop l.id-index l.ids) ↔ RiseFrom l.low l.ids
