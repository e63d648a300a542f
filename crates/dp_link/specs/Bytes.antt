-- The bytes that a link gives.
use Rattle.std.specs.Prelude.{◌≡◌, ℕ, List, ◌++◌}
use Rattle.dp_frame.specs.Frames.{FrameParts, IsFrame, spelling}
use Rattle.dp_messages.specs.declared.message.Msg.TheVariants as msg
use Rattle.dp_messages.specs.Messages.{Spells}
use Rattle.dp_messages.specs.Decoded.{SpellsNothing}
use Rattle.dp_msg_meta.specs.declared.message.Control.TheVariants.{Hello}

-- the bytes are this frame and then the rest
pub record BeginsWith (bytes : List ℕ) (frame : FrameParts) (rest : List ℕ) : Type 0 where
  pub fits : IsFrame frame
  pub whole : bytes ≡ spelling frame ++ rest

-- the frame carries a Hello of this name
abbrev pub IsHello : FrameParts → List ℕ → Type 0
IsHello frame name = Spells frame.kind frame.body (msg.Control (Hello name))

-- the bytes are the frame of a Hello of this name and then the rest
abbrev pub BeginsWithHello : List ℕ → List ℕ → List ℕ → Type 0
BeginsWithHello bytes name rest =
    (frame : FrameParts) × BeginsWith bytes frame rest × IsHello frame name

-- the bytes begin with a frame that carries no Hello
abbrev pub BeginsWithoutHello : List ℕ → Type 0
BeginsWithoutHello bytes =
    (frame : FrameParts) × (rest : List ℕ) × BeginsWith bytes frame rest
    × ((name : List ℕ) → ¬ IsHello frame name)

-- the bytes begin with a frame that spells no message
abbrev pub BeginsWithNoMessage : List ℕ → Type 0
BeginsWithNoMessage bytes =
    (frame : FrameParts) × (rest : List ℕ) × BeginsWith bytes frame rest
    × SpellsNothing frame.kind frame.body
