-- Which counts of faults rise in a run.
use Rattle.std.specs.Prelude.{◌≡◌, ℕ}
use Rattle.dp_io.specs.Faults.{Rose}
use Rattle.dp_lines.specs.declared.run_end.RunEnd.{RunEnd}
use Rattle.dp_lines.specs.declared.run_end.RunEnd.TheVariants.{Done, BadLine, ReadFault, WriteFault}
use Rattle.dp_lines.specs.declared.run_end.RunEnd.TheVariants.{LinkFault, Memory, Long, Truncated}
use Rattle.dp_lines.specs.declared.run_end.RunEnd.TheVariants.{BadMessage, Closed, BadHeader}

-- What the counts of faults of the input and the output do in a run with this end: that of the
-- fault rises, and each other stays what it was.
abbrev pub FaultMatchesEnd : ℕ → ℕ → ℕ → ℕ → RunEnd → Type 0
FaultMatchesEnd input input_now output output_now ReadFault =
    Rose input input_now × (output_now ≡ output)
FaultMatchesEnd input input_now output output_now WriteFault =
    (input_now ≡ input) × Rose output output_now
FaultMatchesEnd input input_now output output_now Done = (input_now ≡ input) × (output_now ≡ output)
FaultMatchesEnd input input_now output output_now (BadLine n) =
    (input_now ≡ input) × (output_now ≡ output)
FaultMatchesEnd input input_now output output_now LinkFault =
    (input_now ≡ input) × (output_now ≡ output)
FaultMatchesEnd input input_now output output_now Memory =
    (input_now ≡ input) × (output_now ≡ output)
FaultMatchesEnd input input_now output output_now Long = (input_now ≡ input) × (output_now ≡ output)
FaultMatchesEnd input input_now output output_now (Truncated n) =
    (input_now ≡ input) × (output_now ≡ output)
FaultMatchesEnd input input_now output output_now (BadMessage n) =
    (input_now ≡ input) × (output_now ≡ output)
FaultMatchesEnd input input_now output output_now Closed =
    (input_now ≡ input) × (output_now ≡ output)
FaultMatchesEnd input input_now output output_now BadHeader =
    (input_now ≡ input) × (output_now ≡ output)
