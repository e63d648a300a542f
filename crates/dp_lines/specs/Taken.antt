-- What a search for a newline has seen, and what taking lines off leaves.
use Rattle.std.specs.Prelude.{◌≡◌, ℕ, ◌+◌, ◌<◌, ◌≤◌, List, length, take, drop, slice_index}
use Rattle.dp_lines.specs.declared.line.Line.{Line}
use Rattle.dp_lines.specs.Held.{Held, ended_from}
use Rattle.dp_lines.specs.Lines.{newline, Lacks, ended, open_rest}

-- none of the first `len` bytes is a newline
pub record IsScanned (bytes : List ℕ) (count : ℕ) : Type 0 where
  pub within : count ≤ length bytes
  pub none : Lacks newline (take count bytes)

-- the first newline stands after `len` bytes
pub record IsEnd (bytes : List ℕ) (len : ℕ) : Type 0 where
  pub within : len < length bytes
  pub before : Lacks newline (take len bytes)
  pub at : slice_index bytes len ≡ newline

-- the first `len` bytes as the next line
abbrev pub first_line : Held → ℕ → Line
first_line held len = record { number = held.count + 1; bytes = take len held.bytes }

-- what is left if `len` bytes are taken as a line
abbrev pub after_first : Held → ℕ → Held
after_first held taken =
    record { count = held.count + 1; bytes = drop taken held.bytes; fed = held.fed }

-- from the old to the new only lines were taken that are passed over
pub record Keeps (old new : Held) : Type 0 where
  pub lines : ended_from new ≡ ended_from old
  pub count : new.count + length (ended new.bytes) ≡ old.count + length (ended old.bytes)
  pub rest : open_rest new.bytes ≡ open_rest old.bytes
  pub fed : new.fed ≡ old.fed
