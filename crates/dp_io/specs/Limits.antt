-- Limits of what is read.
use Rattle.std.specs.Prelude.{ℕ, ◌^◌}

-- how many bytes of a stream of frames count, of a file, a recording or a link: 1 GiB
abbrev pub stream_limit : ℕ
stream_limit = 2 ^ 30
