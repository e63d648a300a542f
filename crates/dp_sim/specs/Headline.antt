-- What every screen shows.
use Rattle.std.specs.Prelude.{◌≡◌, ℕ, IfSome, List, ◌++◌, take}
use Rattle.std.specs.List.{filter_map}
use Rattle.dp_messages.specs.declared.message.Entry.{Entry}
use Rattle.dp_plain.specs.Commands.{draw_all}
use Rattle.dp_replay.specs.Replay.{replay}
use Rattle.dp_messages.specs.Properties.{command_of}
use Rattle.dp_client.specs.Client as client
use Rattle.dp_acl.specs.Permitted.{permitted}
use Rattle.dp_messages.specs.declared.message.Msg.{Msg}
use Rattle.dp_epochs.specs.declared.event.Event.TheVariants.{Say}
use Rattle.dp_epochs.specs.declared.event.Reply.TheVariants.{Filtered}
use Rattle.dp_epochs.specs.State.{State, acted, history_of}
use Rattle.dp_epochs.specs.Past.{state_of}
use Rattle.dp_epochs.specs.Laws.{ArePermitted}
use Rattle.dp_sim.specs.World.{World, participant_of}

-- What a client shows. It has taken the first `count` entries of the history of its epoch. Its
-- confirmed canvas is these replayed from scratch without undone strokes. Its view is the same with
-- the commands of its unanswered sends drawn after it.
pub record ShowsPrefix (s : State) (c : client.State) : Type 0 where
  pub count : ℕ
  pub taken : c.taken ≡ take count (history_of s c.epoch)
  pub confirmed : client.confirmed c ≡ replay (take count (history_of s c.epoch))
  pub view : client.view c
      ≡ draw_all (replay (take count (history_of s c.epoch))) (filter_map command_of c.fork)

-- with entries after them or without, two histories show the same canvas and permit the same
pub record ChangesNothing (before after : List Entry) : Type 0 where
  pub canvas : (more : List Entry) → replay (after ++ more) ≡ replay (before ++ more)
  pub rights : (more : List Entry) (user : ℕ) (m : Msg)
      → permitted (after ++ more) user m ≡ permitted (before ++ more) user m

-- a message that is answered Filtered changes no canvas and no right, whatever comes after it
abbrev pub ForbiddenChangesNothing : State → Type 0
ForbiddenChangesNothing s =
    (conn : ℕ) (m : Msg) (epoch at : ℕ)
    → (acted s (Say conn m)).reply ≡ Filtered epoch at
    → ChangesNothing s.live (acted s (Say conn m)).state.live

-- What is true of the world after every schedule: each client shows a prefix of the history of its
-- epoch, a forbidden message changes nothing, and no history holds one.
pub record Headline (w : World) : Type 0 where
  pub clients : (number : ℕ) → IfSome (participant_of w number)
      (λ participant. ShowsPrefix (state_of w.past) participant.state)
  pub forbidden : ForbiddenChangesNothing (state_of w.past)
  pub allowed : (epoch : ℕ) → ArePermitted (history_of (state_of w.past) epoch)
