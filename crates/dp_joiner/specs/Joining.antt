-- What a client prints and writes over a link, by its name, the lines of its script, and the
-- entries that the link gives.
use Rattle.std.specs.Prelude.{ℕ, Bool, if◌then◌else◌, nat_le, Option, None, Some, List, [], ◌∷◌}
use Rattle.std.specs.Prelude.{◌++◌, length, take, drop, codes, decimal}
use Rattle.std.specs.List.{flat_map, fold}
use Rattle.std.specs.Option.{option_map_or}
use Rattle.circular_buffer.specs.Buffer.{keep_last}
use Rattle.dp_lines.specs.Hexadecimal.{hex_text}
use Rattle.dp_msg_meta.specs.declared.message.Control.TheVariants as control
use Rattle.dp_msg_meta.specs.declared.message.Meta.TheVariants as meta
use Rattle.dp_msg_draw.specs.declared.draw.Draw.{Draw}
use Rattle.dp_messages.specs.declared.message.Entry.{Entry}
use Rattle.dp_messages.specs.declared.message.Msg.{Msg}
use Rattle.dp_messages.specs.declared.message.Msg.TheVariants as msg
use Rattle.dp_schedule.specs.declared.join_action.JoinAction.{JoinAction}
use Rattle.dp_schedule.specs.declared.join_action.JoinAction.TheVariants.{Say, Take, View}
use Rattle.dp_schedule.specs.declared.join_action.JoinAction.TheVariants.{Confirmed, Snapshot}
use Rattle.dp_schedule.specs.declared.join_action.JoinAction.TheVariants.{Reset, Chat}
use Rattle.dp_schedule.specs.declared.report_line.ReportLine.TheVariants.{Said, Took}
use Rattle.dp_schedule.specs.ReportText.{text_of}
use Rattle.dp_client.specs.Client.{State, said, taken_of, took, welcomed}
use Rattle.dp_client.specs.Due.{canvas_due, said_due}
use Rattle.dp_showing.specs.declared.showing.Shown.TheVariants as shown
use Rattle.dp_showing.specs.Resets.{client_reset}
use Rattle.dp_showing.specs.Showing.{shown_text}
use Rattle.dp_join_link.specs.Given.{takeable}
use Rattle.dp_join_link.specs.Sent.{ack_bytes, hello_bytes, sent_by}
use Rattle.dp_joiner.specs.declared.chats.ChatLine.{ChatLine}

-- ---- what is printed

-- how many messages a reset has
abbrev pub sent_text : ℕ → List ℕ
sent_text count = codes "sent " ++ decimal count ++ codes "\n"

-- the line of chat of an entry, if it is one
abbrev pub chat_by : ℕ → Msg → List ChatLine
chat_by user (msg.Meta (meta.Chat text)) = record { user = user; text = text } ∷ []
chat_by user m = []

-- how many lines of chat are printed at most
abbrev pub chat_limit : ℕ
chat_limit = 64

abbrev pub chat_line : ChatLine → List ℕ
chat_line line =
    codes "chat " ++ decimal line.user ++ codes " " ++ hex_text line.text ++ codes "\n"

-- how many lines there are, and then each
abbrev pub chats_text : List ChatLine → List ℕ
chats_text lines =
    codes "chats " ++ decimal (length lines) ++ codes "\n" ++ flat_map chat_line lines

-- ---- a client

-- A client over a link: its state, and the lines of chat of all entries that it has taken, over
-- every epoch. Then what it has printed, what it has written to the link, and the commands that it
-- may have drawn.
pub record Joining : Type 0 where
  pub client : State
  pub chats : List ChatLine
  pub text : List ℕ
  pub written : List ℕ
  pub due : List Draw

-- it takes an entry
abbrev pub took_entry : Joining → Entry → Joining
took_entry j entry =
    let taken = taken_of j.client entry in record {
      client = took j.client entry;
      chats = j.chats ++ chat_by entry.user entry.msg;
      text = j.text ++ text_of (Took taken.epoch taken.at);
      written = j.written ++ ack_bytes j.client.user taken.ack;
      due = j.due ++ canvas_due j.client entry;
    }

-- it prints a text
abbrev pub printed : Joining → List ℕ → Joining
printed j text = record j { text = j.text ++ text }

-- its reset goes out, one that keeps or not
abbrev pub reset_by : Bool → Joining → Joining
reset_by keeps j = record j {
  text = j.text ++ sent_text (length (client_reset keeps j.client));
  written = j.written ++ flat_map (sent_by j.client.user) (client_reset keeps j.client);
}

-- it says a message
abbrev pub said_by : Joining → Msg → Joining
said_by j m = record j {
  client = said j.client m;
  text = j.text ++ text_of (Said (length (said j.client m).fork));
  written = j.written ++ sent_by j.client.user m;
  due = j.due ++ said_due m;
}

-- how many entries a line asks for
abbrev pub asked_by : JoinAction → ℕ
asked_by (Say m) = 0
asked_by (Take count) = count
asked_by View = 0
asked_by Confirmed = 0
asked_by Snapshot = 0
asked_by (Reset keeps) = 0
asked_by Chat = 0

-- after a line, but for the entries that it takes
abbrev pub acted : JoinAction → Joining → Joining
acted (Say m) j = said_by j m
acted (Take count) j = j
acted View j = printed j (shown_text shown.View j.client)
acted Confirmed j = printed j (shown_text shown.Confirmed j.client)
acted Snapshot j = printed j (shown_text shown.Snapshot j.client)
acted (Reset keeps) j = reset_by keeps j
acted Chat j = printed j (chats_text (keep_last chat_limit j.chats))

-- after a line that takes these entries
abbrev pub after_line : JoinAction → List Entry → Joining → Joining
after_line action entries j = fold took_entry (acted action j) entries

-- How far lines go: all are done, and these entries are left; or one asks for an entry more, for
-- which the client waits.
pub data Progress : Type 0 where
  Goes : Joining → List Entry → Progress
  Waits : Joining → Progress

-- the client as it is then
abbrev pub came_to : Progress → Joining
came_to (Goes j left) = j
came_to (Waits j) = j

-- the lines with the entries that come, one line after the other
abbrev pub along : List JoinAction → List Entry → Joining → Progress
along [] coming j = Goes j coming
along (action ∷ actions) coming j =
    if nat_le (asked_by action) (length coming)
    then along actions (drop (asked_by action) coming)
    (after_line action (take (asked_by action) coming) j)
    else Waits (after_line action coming j)

-- a client that has written its Hello
abbrev pub newcomer : State → List ℕ → Joining
newcomer client name =
    record { client = client; chats = []; text = []; written = hello_bytes name; due = [] }

-- the client that a Welcome makes
abbrev pub greeted : List ℕ → Msg → Option Joining
greeted name (msg.Control (control.Welcome version user epoch at)) =
    Some (newcomer (welcomed user epoch at) name)
greeted name m = None

-- a client that waits for its Welcome, of which its id, its epoch and its place aren't known yet
abbrev pub caller : List ℕ → Joining
caller name = newcomer (welcomed 0 0 0) name

-- What a client of this name does by these lines, over a link that gives these entries: it waits
-- for its Welcome first.
abbrev pub joined : List ℕ → List JoinAction → List Entry → Progress
joined name actions [] = Waits (caller name)
joined name actions (first ∷ more) =
    option_map_or (λ j. along actions (takeable more) j) (greeted name first.msg)
    (Waits (caller name))
