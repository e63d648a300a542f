-- Which errors of a wire are faults.
use Rattle.std.specs.Prelude.{Bool, true, false}
use Rattle.dp_wire.specs.declared.wire.WireError.{WireError}
use Rattle.dp_wire.specs.declared.wire.WireError.TheVariants.{Failed, Memory}

-- Out of memory is no fault.
abbrev pub is_wire_fault : WireError → Bool
is_wire_fault Failed = true
is_wire_fault Memory = false
