-- A reset that is being sent, as it is kept, and what an event makes of it.
use Rattle.std.specs.Prelude.{◌≡◌, ℕ, ◌+◌, ◌==◌, Bool, false, [], if◌then◌else◌, Option, None, Some}
use Rattle.std.specs.Prelude.{List, ◌∷◌, ◌++◌, length, ◌≤◌, All}
use Rattle.std.specs.List.{sum_by}
use Rattle.std.specs.Option.{option_map}
use Rattle.dp_msg_draw.specs.declared.draw.Draw.{Draw}
use Rattle.dp_messages.specs.declared.message.Msg.TheVariants as msg
use Rattle.dp_acl.specs.Opening.{part_limit}
use Rattle.dp_epochs.specs.declared.effect.Effect.{Effect}
use Rattle.dp_epochs.specs.declared.effect.Effect.TheVariants.{Left, Began, Added, Dropped}
use Rattle.dp_epochs.specs.declared.effect.Effect.TheVariants.{Reopened}
use Rattle.dp_epochs.specs.declared.event.Event.{Event}
use Rattle.dp_epochs.specs.declared.event.Event.TheVariants as event
use Rattle.dp_epochs.specs.Effects.{own_message}
use Rattle.dp_epochs.specs.State.{place_in, Stream, part_bytes, reset_byte_limit}
use Rattle.dp_history.specs.Items.{IsPart, commands_in}

-- the reset that the connection, if there is one, sends by these parts, from the place on that it
-- names, if it names one
abbrev pub stream_in : List Event → Option ℕ → Option ℕ → List ℕ → Option Stream
stream_in journal owner place parts =
    option_map (λ conn. record {
      owner = conn;
      commands = commands_in journal parts;
      place = place;
    }) owner

-- from where on a history, which ends there, is kept by the reset of the connection, if one is sent
abbrev pub start_of : Option ℕ → Option ℕ → ℕ → ℕ
start_of (Some conn) (Some place) end = place
start_of (Some conn) None end = end
start_of None place end = end

-- The reset that is being sent, if one is, is the connection's with this place and these parts, and
-- without one there are no parts. They are kept to the limits of a reset.
pub record IsResetIn (sent : Option Stream) (journal : List Event) (owner place : Option ℕ)
    (parts : List ℕ) (bytes : ℕ) : Type 0 where
  pub stream : stream_in journal owner place parts ≡ sent
  pub said : All (IsPart journal) parts
  pub size : bytes ≡ sum_by part_bytes (commands_in journal parts)
  pub many : length parts ≤ part_limit
  pub within : bytes ≤ reset_byte_limit
  pub none : owner ≡ None → parts ≡ []

-- ---- after an event

-- the size is that of the event's payload, if it says a part
abbrev pub PartSize : Event → ℕ → Type 0
PartSize e size = (conn : ℕ) (command : Draw) → e ≡ event.Say conn (msg.Part command)
    → size ≡ part_bytes command

-- the connection sends it
abbrev pub is_sender : ℕ → Option ℕ → Bool
is_sender conn None = false
is_sender conn (Some owner) = owner == conn

-- the connection that sends it after the effect
abbrev pub owner_after : Effect → Option ℕ → Option ℕ
owner_after (Left conn connection next) owner = if is_sender conn owner then None else owner
owner_after (Began conn connection) owner = Some conn
owner_after (Dropped conn connection) owner = None
owner_after (Reopened conn connection) owner = None
owner_after other owner = owner

-- The place that it names, by the event if one begins with it. It says nothing if none is sent.
abbrev pub next_place : Event → Effect → Option ℕ → Option ℕ
next_place e (Began conn connection) place = place_in (own_message e)
next_place e other place = place

-- its parts, if the event is the journal's n-th
abbrev pub parts_after : ℕ → Effect → Option ℕ → List ℕ → List ℕ
parts_after n (Left conn connection next) owner parts =
    if is_sender conn owner then [] else parts
parts_after n (Began conn connection) owner parts = []
parts_after n (Added conn connection) owner parts = parts ++ n ∷ []
parts_after n (Dropped conn connection) owner parts = []
parts_after n (Reopened conn connection) owner parts = []
parts_after n other owner parts = parts

-- how many bytes they have, if the event's payload has this size
abbrev pub bytes_after : ℕ → Effect → Option ℕ → ℕ → ℕ
bytes_after size (Left conn connection next) owner bytes =
    if is_sender conn owner then 0 else bytes
bytes_after size (Began conn connection) owner bytes = 0
bytes_after size (Added conn connection) owner bytes = bytes + size
bytes_after size (Dropped conn connection) owner bytes = 0
bytes_after size (Reopened conn connection) owner bytes = 0
bytes_after size other owner bytes = bytes
