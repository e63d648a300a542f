-- The devices after the adapters, and their counts of errors.
use Rattle.std.specs.Prelude.{ℕ}
use Rattle.dp_io.specs.declared.adapters.StdSource.{StdSource}
use Rattle.dp_io.specs.declared.adapters.StdSink.{StdSink}

-- the reader of a source
abbrev pub reader_of : {R : Type 0} → StdSource R → R
reader_of source = source.reader

-- how many reads gave an error
abbrev pub read_faults : {R : Type 0} → StdSource R → ℕ
read_faults source = source.faults

-- the writer of a sink
abbrev pub writer_of : {W : Type 0} → StdSink W → W
writer_of sink = sink.writer

-- how many writes gave an error
abbrev pub write_faults : {W : Type 0} → StdSink W → ℕ
write_faults sink = sink.faults
