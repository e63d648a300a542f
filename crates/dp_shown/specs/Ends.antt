-- How the writing of a picture ends.
use Rattle.std.specs.Prelude.{Bool, true, false}
use Rattle.dp_shown.specs.declared.end.PictureEnd.{PictureEnd}
use Rattle.dp_shown.specs.declared.end.PictureEnd.TheVariants.{Failed, Memory}

-- the sink failed, and not the memory
abbrev pub is_sink_fault : PictureEnd → Bool
is_sink_fault Failed = true
is_sink_fault Memory = false
