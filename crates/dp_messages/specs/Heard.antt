-- What is heard in a list of bytes: the messages of its frames up to the first Disconnect.
use Rattle.std.specs.Prelude.{◌≡◌, ℕ, List, [], ◌∷◌, MatchBool, ⊤}
use Rattle.dp_frame.specs.Frames.{FrameParts, Splits}
use Rattle.dp_messages.specs.declared.message.Msg.{Msg}
use Rattle.dp_messages.specs.Messages.{Spells}
use Rattle.dp_messages.specs.Properties.{is_disconnect}
use Rattle.dp_messages.specs.Decoded.{SpellsNothing}

-- The messages are those of the frames in order, to whichever comes first: the first Disconnect
-- with it, the frame before one that spells no message, or the end.
abbrev pub AreHeard : List FrameParts → List Msg → Type 0
AreHeard [] [] = ⊤
AreHeard [] (m ∷ messages) = ⊥
AreHeard (frame ∷ frames) [] = SpellsNothing frame.kind frame.body
AreHeard (frame ∷ frames) (m ∷ messages) =
    Spells frame.kind frame.body m
    × MatchBool (is_disconnect m) (messages ≡ []) (AreHeard frames messages)

-- these messages are heard in the bytes
pub record Hears (bytes : List ℕ) (messages : List Msg) : Type 0 where
  pub frames : List FrameParts
  pub rest : List ℕ
  pub splits : Splits bytes frames rest
  pub heard : AreHeard frames messages
