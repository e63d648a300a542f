-- Which fault of a link or of a wire ends the program.
use Rattle.std.specs.Prelude.{◌≡◌, ◌⊎◌, List, [], ◌∷◌}
use Rattle.std.specs.declared.string.String.{String}
use Rattle.dp_io.specs.Faults.{Rose}
use Rattle.dp_joining.specs.Runs.{Returns}
use Rattle.dp_wire.specs.Links.{WhereKnown}
use Rattle.dp_commands.specs.Commands.{HasLink, HasWires}
use Rattle.dp_commands.specs.Effects.{Wires}

-- a link of the wire was handed out and handed back, and its source or its sink failed
pub record LinkFailed {W R T : Type 0} (see : Wires W R T) (wire now : W) : Type 0 where
  pub rx : R
  pub tx : T
  pub rx_now : R
  pub tx_now : T
  pub returned : WhereKnown (see.links wire) (λ a b. Returns (rx, tx) (rx_now, tx_now) a b)
      (see.links now)
  pub rose : Rose (see.write_faults tx) (see.write_faults tx_now)
      ⊎ Rose (see.read_faults rx) (see.read_faults rx_now)

-- the first wire failed as it dialled, or the link that it gave failed
pub record DialFailed {W R T : Type 0} (see : Wires W R T) (old new : List W) : Type 0 where
  pub wire : W
  pub now : W
  pub others : List W
  pub before : old ≡ wire ∷ others
  pub after : new ≡ now ∷ others
  pub failed : Rose (see.faults wire) (see.faults now) ⊎ LinkFailed see wire now

-- one of the wires failed
abbrev pub WireFailed : {W R T : Type 0} → Wires W R T → List W → List W → Type 0
WireFailed see (wire ∷ old) (now ∷ new) =
    Rose (see.faults wire) (see.faults now) ⊎ WireFailed see old new
WireFailed see [] new = ⊥
WireFailed see (wire ∷ old) [] = ⊥

-- the words ask for `join` and its link failed, or for a server and one of its wires failed
abbrev pub AskAndFailed : {A W R T : Type 0} → Wires W R T → List (String A) → List W → List W
    → Type 0
AskAndFailed see words old new =
    (HasLink words old × DialFailed see old new) ⊎ (HasWires words old × WireFailed see old new)
