-- What a client writes to its link.
use Rattle.std.specs.Prelude.{◌≡◌, ℕ, ◌≤◌, List, [], Option, None, Some}
use Rattle.dp_io.specs.Faults.{Rose}
use Rattle.dp_msg_meta.specs.declared.message.Control.TheVariants as control
use Rattle.dp_messages.specs.declared.message.Msg.{Msg}
use Rattle.dp_messages.specs.declared.message.Msg.TheVariants as msg
use Rattle.dp_messages.specs.Messages.{entry_bytes}
use Rattle.dp_join_link.specs.declared.stops.JoinStop.{JoinStop}
use Rattle.dp_join_link.specs.declared.stops.JoinStop.TheVariants.{WriteFault, LinkFault, Memory}
use Rattle.dp_join_link.specs.declared.stops.JoinStop.TheVariants.{NoEntry}

-- the bytes of a message of the user
abbrev pub sent_by : ℕ → Msg → List ℕ
sent_by user m = entry_bytes (record { user = user; msg = m })

abbrev pub hello_bytes : List ℕ → List ℕ
hello_bytes name = sent_by 0 (msg.Control (control.Hello name))

-- the Ack of an epoch, if one is due
abbrev pub ack_bytes : ℕ → Option ℕ → List ℕ
ack_bytes user None = []
ack_bytes user (Some epoch) = sent_by user (msg.Control (control.Ack epoch))

abbrev pub farewell_bytes : ℕ → List ℕ
farewell_bytes user = sent_by user (msg.Control (control.Disconnect 0))

-- the count of the sink's faults if writing to the link stops with this
abbrev pub FaultMatchesWriting : ℕ → ℕ → JoinStop → Type 0
FaultMatchesWriting before now WriteFault = ⊥
FaultMatchesWriting before now LinkFault = Rose before now × (before ≤ now)
FaultMatchesWriting before now Memory = now ≡ before
FaultMatchesWriting before now (NoEntry why) = ⊥
