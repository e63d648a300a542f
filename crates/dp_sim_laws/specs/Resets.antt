-- Resets that the session takes up, and what a client shows after one.
use Rattle.std.specs.Prelude.{◌≡◌, ℕ, ◌+◌, ◌-◌, ◌==◌, Bool, if◌then◌else◌, List, [], ◌∷◌, ◌++◌}
use Rattle.std.specs.Prelude.{length, drop, map}
use Rattle.std.specs.Option.{option_map_or}
use Rattle.std.specs.Prelude.{Some}
use Rattle.dp_msg_draw.specs.declared.draw.Draw.{Draw}
use Rattle.dp_messages.specs.declared.message.Entry.{Entry}
use Rattle.dp_messages.specs.Properties.{carried_in}
use Rattle.dp_acl.specs.Opening.{kept_entries}
use Rattle.dp_plain.specs.Board.{Board}
use Rattle.dp_plain.specs.Commands.{draw}
use Rattle.dp_replay.specs.Replay.{replay, replay_from, depth_in_force}
use Rattle.dp_keep_laws.specs.Keeping.{MayBeCut}
use Rattle.dp_client.specs.Client as client
use Rattle.dp_epochs.specs.declared.event.Reply.{Reply}
use Rattle.dp_epochs.specs.declared.event.Reply.TheVariants as reply
use Rattle.dp_epochs.specs.State.{State, history_of, place_in}
use Rattle.dp_schedule.specs.declared.action.Instruction.{Instruction}
use Rattle.dp_schedule.specs.declared.action.Instruction.TheVariants.{Reset}
use Rattle.dp_schedule.specs.declared.action.Action.{Action}
use Rattle.dp_schedule.specs.declared.action.Action.TheVariants.{Act}
use Rattle.dp_snap.specs.Resets.{reset_begin}
use Rattle.dp_snap.specs.Snapshot.{snapshot}
use Rattle.dp_sim.specs.declared.participant.LinkState.TheVariants.{Connected}
use Rattle.dp_sim.specs.Exchanges.{Participant, Exchange}
use Rattle.dp_sim.specs.Moves.{message_sent, instruction_move}
use Rattle.dp_sim.specs.World.{World, after, world_after, participant_of}
use Rattle.dp_sim.specs.Report.{along}
use Rattle.dp_sim_laws.specs.OwnSteps.{exchange_of}
use Rattle.dp_sim_laws.specs.Tally.{said_reply}

-- ---- what the session answers to the messages of one client

-- the answer to the message that the session takes by an instruction of a client, if it takes one
abbrev pub client_answer : Exchange → Instruction → List Reply
client_answer t instruction = said_reply t (message_sent (instruction_move t instruction))

-- the answer to the message of the client of a number that the session takes by an action
abbrev pub own_answer : ℕ → World → Action → List Reply
own_answer number w (Act client instruction) =
    if client == number
    then option_map_or (λ participant. client_answer (exchange_of w participant) instruction)
    (participant_of w client) []
    else []
own_answer number w other = []

-- the answers to its messages, in order, along actions from a world on
abbrev pub own_answers : ℕ → World → List Action → List Reply
own_answers number w actions = along (own_answer number) w actions

-- ---- a reset that is taken up

-- the answers to a reset to these commands that is taken up: its begin and its parts are noted, and
-- by its end the epoch of this number opens
abbrev pub taken_up : List Draw → ℕ → List Reply
taken_up commands epoch =
    reply.Noted ∷ map (λ command. reply.Noted) commands ++ reply.Placed epoch 0 ∷ []

-- The client of the number, which was `sender` after the actions before, resets, by a reset that
-- keeps or not. Among the answers along the actions after that, those to the messages of the reset
-- take it up. As many answers come first as messages stood on its uplink.
pub record IsTakenUp (before later : List Action) (number : ℕ) (keeps : Bool) (sender : Participant)
    (epoch : ℕ) : Type 0 where
  pub found : participant_of (world_after before) number ≡ Some sender
  pub connected : sender.link ≡ Connected
  pub rest : List Reply
  pub answers : drop (length sender.uplink)
      (own_answers number (after (world_after before) (Act number (Reset keeps))) later)
      ≡ taken_up (snapshot (client.confirmed sender.state)) epoch ++ rest

-- ---- what a client shows

-- The entries that a reset keeps with which the epoch of this number opened, of the history of the
-- epoch before: those that go on from the place after what its sender had taken. If the reset
-- doesn't keep, there are none.
abbrev pub kept_over : Bool → client.State → State → ℕ → List Entry
kept_over keeps sender s epoch =
    kept_entries (place_in (reset_begin keeps (length sender.taken))) (history_of s (epoch - 1))

-- Suppose the client has taken all with which its epoch opened, these kept entries at its end, and
-- more. Then it shows the board with these and the more drawn after it, from the depth of undo that
-- the opening carried.
abbrev pub GoesOnFrom : Board → List Entry → client.State → Type 0
GoesOnFrom board kept c =
    (opening more : List Entry) → c.taken ≡ opening ++ kept ++ more
    → length (opening ++ kept) ≡ carried_in c.taken + 1
    → client.confirmed c ≡ replay_from draw board (depth_in_force opening) (kept ++ more)

-- Suppose the client has taken all with which its epoch opened, and more. Then it shows what the
-- history shows with the more after it, if that may be cut at the place.
abbrev pub ShowsOn : ℕ → List Entry → client.State → Type 0
ShowsOn place history c =
    (opening more : List Entry) → c.taken ≡ opening ++ more
    → length opening ≡ carried_in c.taken + 1 → MayBeCut place history more
    → client.confirmed c ≡ replay (history ++ more)
