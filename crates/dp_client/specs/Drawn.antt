-- What stands drawn of a client.
use Rattle.std.specs.Prelude.{◌≡◌, ℕ, List, map}
use Rattle.dp_messages.specs.declared.message.Entry.{Entry}
use Rattle.dp_messages.specs.declared.message.Msg.{Msg}
use Rattle.dp_msg_draw.specs.declared.draw.Draw.{Draw}
use Rattle.dp_replay.specs.Replay.{act_of_message, undo_depth, user_act_of}
use Rattle.dp_screen.specs.Screen.{IsScreenOf, Screened}

-- a screen shows what was taken, and on it what the user has said that isn't answered
pub record HasDrawn {B : Type 0} (is_board : B → Type 0) (draw : B → Draw → B) (blank : B)
    (user : ℕ) (taken : List Entry) (fork : List Msg) (s : Screened B Draw) : Type 0 where
  pub screen : IsScreenOf is_board draw blank undo_depth (map user_act_of taken) s
  pub pending : s.fork.acts ≡ map (act_of_message user) fork
