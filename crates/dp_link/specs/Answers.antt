-- What a painter who says Hello is answered.
use Rattle.std.specs.Prelude.{ℕ, Option, None, Some, ⊤}
use Rattle.dp_messages.specs.declared.message.Entry.{Entry}
use Rattle.dp_messages.specs.declared.message.Msg.TheVariants as msg
use Rattle.dp_msg_meta.specs.declared.message.Control.TheVariants.{Welcome, Disconnect}
use Rattle.dp_epochs.specs.declared.event.Reply.{Reply}
use Rattle.dp_epochs.specs.declared.event.Reply.TheVariants as reply
use Rattle.dp_link.specs.declared.ends.Greeting.{Greeting}

-- the Welcome of a greeting
abbrev pub welcome : Greeting → Entry
welcome greeting = record {
  user = 0;
  msg = msg.Control (Welcome 1 greeting.user greeting.epoch greeting.at);
}

-- the Disconnect of a reason
abbrev pub goodbye : ℕ → Entry
goodbye reason = record { user = 0; msg = msg.Control (Disconnect reason) }

-- the reply of the session to the Open of a greeting
abbrev pub opened_as : Greeting → Reply
opened_as greeting = reply.Opened greeting.conn greeting.user greeting.epoch greeting.at

-- why the link of an Open with this answer is ended, if it is
abbrev pub reason_of : Reply → Option ℕ
reason_of reply.Full = Some 1
reason_of reply.NameRefused = Some 2
reason_of reply.Ended = Some 3
reason_of (reply.StoreFault count) = Some 4
reason_of (reply.Opened conn user epoch at) = None
reason_of (reply.Placed epoch at) = None
reason_of (reply.Filtered epoch at) = None
reason_of reply.Noted = None
reason_of reply.Ignored = None

-- an Open has this answer: the user has joined, or it was refused
abbrev pub OpensWith : Reply → Type 0
OpensWith (reply.Opened conn user epoch at) = ⊤
OpensWith reply.Full = ⊤
OpensWith reply.NameRefused = ⊤
OpensWith reply.Ended = ⊤
OpensWith (reply.StoreFault count) = ⊤
OpensWith (reply.Placed epoch at) = ⊥
OpensWith (reply.Filtered epoch at) = ⊥
OpensWith reply.Noted = ⊥
OpensWith reply.Ignored = ⊥
