-- How reading the messages of a link ends.
use Rattle.std.specs.Prelude.{◌≡◌}
use Rattle.dp_messages.specs.declared.decoder.DecodeError.{DecodeError}
use Rattle.dp_entries.specs.declared.ends.ReadEnd.{ReadEnd}
use Rattle.dp_entries.specs.declared.ends.ReadEnd.TheVariants as read
use Rattle.dp_link.specs.declared.ends.UpEnd.{UpEnd}
use Rattle.dp_link.specs.declared.ends.UpEnd.TheVariants as up
use Rattle.dp_link.specs.declared.ends.GreetEnd.{GreetEnd}
use Rattle.dp_link.specs.declared.ends.GreetEnd.TheVariants as greet

-- how the messages of a link end if reading it ended with this
abbrev pub up_end_of : ReadEnd DecodeError → UpEnd
up_end_of read.ReadFault = up.ReadFault
up_end_of (read.Truncated n) = up.End
up_end_of (read.BadMessage cause n) = up.BadMessage n
up_end_of read.Long = up.Long
up_end_of read.Memory = up.Memory

-- why nobody is greeted if reading the first message ended with this
abbrev pub EndsGreeting : ReadEnd DecodeError → GreetEnd → Type 0
EndsGreeting read.ReadFault end = end ≡ greet.ReadFault
EndsGreeting (read.Truncated n) end = end ≡ greet.End
EndsGreeting (read.BadMessage cause n) end = end ≡ greet.BadMessage n
EndsGreeting read.Long end = ⊥
EndsGreeting read.Memory end = end ≡ greet.Memory
