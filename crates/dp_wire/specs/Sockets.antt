-- A wire over TCP, as clauses see it.
use Rattle.std.specs.Prelude.{ℕ, Bool, true, false}
use Rattle.dp_wire.specs.declared.tcp.Place.{Place}
use Rattle.dp_wire.specs.declared.tcp.Place.TheVariants.{Listening, Dialing}

-- a `TcpWire`: whether it listens or dials, and how often it failed
pub record TcpState : Type 0 where
  pub is_listening : Bool
  pub faults : ℕ

-- it listens
abbrev pub listens : Place → Bool
listens (Listening listener) = true
listens (Dialing addr) = false
