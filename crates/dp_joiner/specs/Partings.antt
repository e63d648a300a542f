-- How a client says that it leaves.
use Rattle.std.specs.Prelude.{◌≡◌, ◌⊎◌, ℕ, ◌≤◌, List, Option}
use Rattle.std.specs.Io.KnownBytes.{Appends}
use Rattle.dp_io.specs.Faults.{Rose}
use Rattle.dp_io.specs.Streams.{GrowsByPrefix}
use Rattle.dp_lines.specs.declared.run_end.RunEnd.{RunEnd}
use Rattle.dp_lines.specs.declared.run_end.RunEnd.TheVariants as run
use Rattle.dp_join_link.specs.Sent.{farewell_bytes}

-- the Disconnect was written, or a prefix of it, if the link failed or memory ran out
abbrev pub SaysFarewell : Option (List ℕ) → Option (List ℕ) → ℕ → ℕ → ℕ → RunEnd → Type 0
SaysFarewell old now before after user end =
    ((end ≡ run.Done) × Appends old now (farewell_bytes user) × (after ≡ before))
    ⊎ ((end ≡ run.LinkFault) × GrowsByPrefix old now (farewell_bytes user)
    × Rose before after × (before ≤ after))
    ⊎ ((end ≡ run.Memory) × GrowsByPrefix old now (farewell_bytes user) × (after ≡ before))
