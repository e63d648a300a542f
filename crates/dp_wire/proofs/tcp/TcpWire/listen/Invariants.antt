use Rattle.std.proofs.Common.{◌≡◌, true, All, vec_len}
use Rattle.dp_wire.specs.Sockets.{TcpState}
use Rattle.dp_wire.proofs.tcp.TcpWire.listen.Given as goal

-- the wires made so far listen, and have no fault
abbrev pub invariant-loop : goal.invariant-loop
invariant-loop g l = record {
  count : vec_len l.list ≡ l.counter;
  each : All (λ (wire : TcpState). wire ≡ record { is_listening = true; faults = 0 }) l.list.items;
}
