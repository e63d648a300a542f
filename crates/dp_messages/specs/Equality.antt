-- Which messages are the same, field by field.
use Rattle.std.specs.Prelude.{Bool, true, false, ◌&&◌, bytes_eq}
use Rattle.std.specs.Bool.{◌==◌, beq}
use Rattle.dp_messages.specs.declared.message.Msg.{Msg}
use Rattle.dp_messages.specs.declared.message.Msg.TheVariants as msg
use Rattle.dp_msg_draw.specs.Equality.{same_draw}
use Rattle.dp_msg_meta.specs.Equality.{same_control, same_meta}

-- the two messages are of one variant, and each field is the same
abbrev pub same_message : Msg → Msg → Bool
same_message (msg.Control m) (msg.Control n) = same_control m n
same_message (msg.Meta m) (msg.Meta n) = same_meta m n
same_message (msg.Part m) (msg.Part n) = same_draw m n
same_message msg.Point msg.Point = true
same_message (msg.Undo target redo) (msg.Undo target' redo') = target == target' && beq redo redo'
same_message (msg.Draw m) (msg.Draw n) = same_draw m n
same_message (msg.Opaque kind body) (msg.Opaque kind' body') = kind == kind' && bytes_eq body body'
same_message m n = false
