-- How a client over a link goes on.
use Rattle.std.specs.Prelude.{◌≡◌, ◌⊎◌, ℕ, ◌<◌, ◌≤◌, List, length, Option, ⊤}
use Rattle.std.specs.Result.{MatchResult}
use Rattle.std.specs.declared.result.Result.{Result}
use Rattle.std.specs.Io.KnownBytes.{Appends}
use Rattle.circular_buffer.specs.Buffer.{Buffer, buffer, keep_last}
use Rattle.dp_board.specs.Counts.{CountsFew}
use Rattle.dp_client.specs.Client.{State}
use Rattle.dp_io.specs.Faults.{Rose}
use Rattle.dp_io.specs.Streams.{GrowsByPrefix}
use Rattle.dp_msg_draw.specs.declared.draw.Draw.{Draw}
use Rattle.dp_messages.specs.declared.message.Entry.{Entry}
use Rattle.dp_messages.specs.Messages.{kind_of}
use Rattle.dp_pixels.specs.Feet.{reach}
use Rattle.dp_schedule.specs.declared.join_action.JoinAction.{JoinAction}
use Rattle.dp_schedule.specs.declared.join_action.JoinAction.TheVariants.{Say, Take, View}
use Rattle.dp_schedule.specs.declared.join_action.JoinAction.TheVariants.{Confirmed, Snapshot}
use Rattle.dp_schedule.specs.declared.join_action.JoinAction.TheVariants.{Reset, Chat}
use Rattle.dp_joiner.specs.declared.chats.ChatLine.{ChatLine}
use Rattle.dp_join_link.specs.declared.stops.JoinStop.{JoinStop}
use Rattle.dp_join_link.specs.declared.stops.JoinStop.TheVariants.{WriteFault, LinkFault, Memory}
use Rattle.dp_join_link.specs.declared.stops.JoinStop.TheVariants.{NoEntry}
use Rattle.dp_joiner.specs.Joining.{Joining, after_line, asked_by, chat_limit}
use Rattle.dp_join_link.specs.Given.{takeable}
use Rattle.dp_join_link.specs.Reading.{IsNoEntry, IsReadable, ReadsOn, ReadsUpTo, Source}

-- the count of the output's faults if printing stops with this
abbrev pub FaultMatchesPrinting : ℕ → ℕ → JoinStop → Type 0
FaultMatchesPrinting before now WriteFault = Rose before now × (before ≤ now)
FaultMatchesPrinting before now LinkFault = ⊥
FaultMatchesPrinting before now Memory = now ≡ before
FaultMatchesPrinting before now (NoEntry why) = ⊥

-- ---- the client

-- What clauses see of a client over a link: the client, and the lines of chat that it keeps. Then
-- what was written to the link, if that is known, the sink's count of faults, and the source.
pub record Linked : Type 0 where
  pub client : State
  pub chats : Buffer ChatLine
  pub written : Option (List ℕ)
  pub write_faults : ℕ
  pub source : Source

-- What clauses see of a client over a link, of its output and of the counters of draws and of
-- tiles. Of the output they see what was printed, if that is known, and its count of faults.
pub record Seen : Type 0 where
  pub client : State
  pub chats : Buffer ChatLine
  pub printed : Option (List ℕ)
  pub print_faults : ℕ
  pub written : Option (List ℕ)
  pub write_faults : ℕ
  pub source : Source
  pub draws : ℕ
  pub tiles : ℕ

abbrev pub seen : {O : Type 0} → (O → Option (List ℕ)) → (O → ℕ) → Linked → O → ℕ → ℕ → Seen
seen printed print_faults joiner output draws tiles = record {
  client = joiner.client;
  chats = joiner.chats;
  printed = printed output;
  print_faults = print_faults output;
  written = joiner.written;
  write_faults = joiner.write_faults;
  source = joiner.source;
  draws = draws;
  tiles = tiles;
}

-- no count of faults has changed
pub record IsFaultless (start now : Seen) : Type 0 where
  pub print : now.print_faults ≡ start.print_faults
  pub write : now.write_faults ≡ start.write_faults
  pub read : now.source.faults ≡ start.source.faults

-- since the start each of these commands was drawn once at most, and no more tiles were made than
-- they reach
abbrev pub DrewFew : Seen → Seen → List Draw → Type 0
DrewFew start now due = CountsFew reach due start.draws now.draws start.tiles now.tiles

-- since the start the client has come to this, and nothing failed
pub record Stands (start now : Seen) (j : Joining) : Type 0 where
  pub client : now.client ≡ j.client
  pub chats : now.chats ≡ buffer (keep_last chat_limit j.chats) chat_limit
  pub text : Appends start.printed now.printed j.text
  pub written : Appends start.written now.written j.written
  pub faultless : IsFaultless start now
  pub counts : DrewFew start now j.due

-- which counts of faults have changed if the client stops with this
abbrev pub FaultMatchesStop : Seen → Seen → JoinStop → Type 0
FaultMatchesStop start now WriteFault =
    Rose start.print_faults now.print_faults × (start.print_faults ≤ now.print_faults)
    × (now.write_faults ≡ start.write_faults) × (now.source.faults ≡ start.source.faults)
FaultMatchesStop start now LinkFault =
    (now.print_faults ≡ start.print_faults)
    × (start.write_faults ≤ now.write_faults) × (start.source.faults ≤ now.source.faults)
    × (Rose start.write_faults now.write_faults ⊎ Rose start.source.faults now.source.faults)
FaultMatchesStop start now Memory = IsFaultless start now
FaultMatchesStop start now (NoEntry why) = IsFaultless start now

-- prefixes of a text and of bytes for the link were written
pub record Began (start now : Seen) (text written : List ℕ) : Type 0 where
  pub printed : GrowsByPrefix start.printed now.printed text
  pub sent : GrowsByPrefix start.written now.written written

-- what was written if the client stops with this on the way to this text and these bytes: prefixes,
-- or all
abbrev pub Wrote : Seen → Seen → List ℕ → List ℕ → JoinStop → Type 0
Wrote start now text written WriteFault = Began start now text written
Wrote start now text written LinkFault = Began start now text written
Wrote start now text written Memory = Began start now text written
Wrote start now text written (NoEntry why) =
    Appends start.printed now.printed text × Appends start.written now.written written

-- on the way to this the client has stopped so
pub record Stops (start now : Seen) (j : Joining) (stop : JoinStop) : Type 0 where
  pub wrote : Wrote start now j.text j.written stop
  pub fault : FaultMatchesStop start now stop
  pub counts : DrewFew start now j.due

-- the client goes on by this change
abbrev pub Moves : Seen → Seen → (Joining → Joining) → Type 0
Moves old now change =
    (start : Seen) (j : Joining) → Stands start old j → Stands start now (change j)

-- on the way to this change it stops with this
abbrev pub StopsOn : Seen → Seen → (Joining → Joining) → JoinStop → Type 0
StopsOn old now change stop =
    (start : Seen) (j : Joining) → Stands start old j → Stops start now (change j) stop

-- on the way to this change it stops with this, and not for want of an entry
pub record Fails (old now : Seen) (change : Joining → Joining) (stop : JoinStop) : Type 0 where
  pub not_for_entry : ¬ IsNoEntry stop
  pub stops : StopsOn old now change stop

-- the client makes this change, or fails on the way to it
abbrev pub Changes : Seen → Seen → (Joining → Joining) → Result Unit JoinStop → Type 0
Changes old now change result =
    MatchResult result (λ done. Moves old now change) (Fails old now change)

-- a message that the action says may be sent by a client: it is no control message
abbrev pub IsSendable : JoinAction → Type 0
IsSendable (Say m) = 32 ≤ kind_of m
IsSendable (Take count) = ⊤
IsSendable View = ⊤
IsSendable Confirmed = ⊤
IsSendable Snapshot = ⊤
IsSendable (Reset keeps) = ⊤
IsSendable Chat = ⊤

-- the client may take a further entry: it has taken no more than the link's bytes held
pub record IsReady (client : State) (source : Source) : Type 0 where
  pub few : length client.taken ≤ source.reader.stream.at
  pub readable : IsReadable source

-- a line is done, with these entries of the link, and the client is ready for the next one
pub record Passes (old now : Seen) (action : JoinAction) : Type 0 where
  pub given : List Entry
  pub reads : ReadsOn old.source now.source given
  pub many : length (takeable given) ≡ asked_by action
  pub moves : Moves old now (after_line action (takeable given))
  pub ready : IsReady now.client now.source

-- a line is stopped so, after these entries of the link
pub record Halts (old now : Seen) (action : JoinAction) (stop : JoinStop) : Type 0 where
  pub given : List Entry
  pub reads : ReadsUpTo old.source given stop
  pub few : length (takeable given) ≤ asked_by action
  pub waits : IsNoEntry stop → length (takeable given) < asked_by action
  pub stops : StopsOn old now (after_line action (takeable given)) stop

-- the client does a line, or is stopped in it
abbrev pub Does : Seen → Seen → JoinAction → Result Unit JoinStop → Type 0
Does old now action result =
    MatchResult result (λ done. Passes old now action) (Halts old now action)
