use Rattle.std.proofs.Common.{◌≡◌, take}
use Rattle.std.specs.List.{flat_map}
use Rattle.std.specs.Io.KnownBytes.{Appends}
use Rattle.dp_messages.specs.declared.message.Msg.TheVariants as msg
use Rattle.dp_join_link.specs.Sent.{sent_by}
use Rattle.dp_joiner.proofs.reset.send_parts.Given as goal

-- the parts of the commands before the place were written, and no fault was counted
abbrev pub invariant-loop-command : goal.invariant-loop-command
invariant-loop-command g l = record {
  written : Appends (g.S.Sink.held l.initial.tx) (g.S.Sink.held l.tx)
      (flat_map (λ command. sent_by l.user (msg.Part command)) (take l.command-index l.commands));
  kept : g.S.Sink.faults l.tx ≡ g.S.Sink.faults l.initial.tx;
}
