-- The wires over TCP that words want.
use Rattle.std.specs.Prelude.{◌≡◌, ◌⊎◌, List, [], ◌∷◌, All, length, true, false}
use Rattle.clap.specs.Walk.{Text}
use Rattle.dp_wire.specs.Sockets.{TcpState}
use Rattle.dp_words.specs.declared.devices.Devices.{Devices}
use Rattle.dp_words.specs.declared.devices.Devices.TheVariants.{Nothing, Dial, Listen}
use Rattle.dp_words.specs.Wanted.{Wants}

-- a new wire that listens, or that dials
abbrev pub listening : TcpState
listening = record { is_listening = true; faults = 0 }

abbrev pub dialing : TcpState
dialing = record { is_listening = false; faults = 0 }

-- The wires of these devices: one that dials for a link, and one that listens for each worker of a
-- server, or none if the system refuses to listen.
abbrev pub AreFor : Devices → List TcpState → Type 0
AreFor Nothing wires = wires ≡ []
AreFor (Dial addr) wires = wires ≡ dialing ∷ []
AreFor (Listen addr workers journal) wires =
    (wires ≡ []) ⊎ ((length wires ≡ workers) × All (λ wire. wire ≡ listening) wires)

-- the wires are those of the devices that the words want
abbrev pub WordsWant : List Text → List TcpState → Type 0
WordsWant words wires = (devices : Devices) × Wants words devices × AreFor devices wires
