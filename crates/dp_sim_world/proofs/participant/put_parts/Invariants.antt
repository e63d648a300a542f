use Rattle.std.proofs.Common.{◌≡◌, ◌++◌, map, take}
use Rattle.dp_messages.specs.declared.message.Msg.TheVariants as msg
use Rattle.dp_sim_world.proofs.participant.put_parts.Given as goal

-- the commands before the place have joined
abbrev pub invariant-loop-command : goal.invariant-loop-command
invariant-loop-command l =
    l.uplink.items ≡ l.initial.uplink.items ++ map msg.Part (take l.command-index l.commands)
