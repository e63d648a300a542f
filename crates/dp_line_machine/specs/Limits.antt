-- Limits of what is read.
use Rattle.std.specs.Prelude.{ℕ, ◌^◌}

-- how many bytes of an input of lines count: 64 MiB
abbrev pub lines_limit : ℕ
lines_limit = 2 ^ 26
