-- Commands that can be sent.
use Rattle.dp_msg_draw.specs.declared.draw.Draw.{Draw}
use Rattle.dp_messages.specs.declared.message.Msg.TheVariants as msg
use Rattle.dp_messages.specs.Messages.{HasSpelling}

-- the command has a spelling, as a message of its own and as a part of a reset
abbrev pub IsSpelled : Draw → Type 0
IsSpelled command = HasSpelling (msg.Draw command) × HasSpelling (msg.Part command)
