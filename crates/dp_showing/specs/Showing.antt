-- What is printed of a client.
use Rattle.std.specs.Prelude.{ℕ, List, ◌++◌, length, codes, decimal}
use Rattle.std.specs.List.{flat_map}
use Rattle.dp_lines.specs.Hexadecimal.{hex_text}
use Rattle.dp_msg_draw.specs.declared.draw.Draw.{Draw}
use Rattle.dp_messages.specs.declared.message.Entry.{Entry}
use Rattle.dp_messages.specs.declared.message.Msg.TheVariants as msg
use Rattle.dp_messages.specs.Messages.{entry_bytes}
use Rattle.dp_plain.specs.Board.{Board}
use Rattle.dp_plain.specs.Picture.{p3}
use Rattle.dp_snap.specs.Snapshot.{snapshot}
use Rattle.dp_recording.specs.Headers.{header_bytes}
use Rattle.dp_recording.specs.Recordings.{recording}
use Rattle.dp_client.specs.Client.{State, confirmed, view}
use Rattle.dp_showing.specs.declared.showing.Shown.{Shown}
use Rattle.dp_showing.specs.declared.showing.Shown.TheVariants.{View, Confirmed, Snapshot}
use Rattle.dp_showing.specs.declared.showing.Shown.TheVariants.{Recording}

-- the frame of an entry, in hexadecimal
abbrev pub hex_frame : Entry → List ℕ
hex_frame entry = hex_text (entry_bytes entry)

-- ---- a snapshot

-- a command as an entry of the session itself, whose id is 0
abbrev pub command_entry : Draw → Entry
command_entry command = record { user = 0; msg = msg.Draw command }

-- the line of a command
abbrev pub snapshot_line : Draw → List ℕ
snapshot_line command = hex_frame (command_entry command) ++ codes "\n"

-- the line that says how many commands there are
abbrev pub snapshot_head : ℕ → List ℕ
snapshot_head count = codes "snap " ++ decimal count ++ codes "\n"

-- the text of a board's snapshot: how many commands it has, and then each on a line of its own
abbrev pub snapshot_text : Board → List ℕ
snapshot_text board =
    snapshot_head (length (snapshot board)) ++ flat_map snapshot_line (snapshot board)

-- ---- a recording

-- the text of a recording before its entries
abbrev pub recording_head : List ℕ
recording_head = codes "rec " ++ hex_text header_bytes

-- the text of a recording
abbrev pub recording_text : List Entry → List ℕ
recording_text entries = codes "rec " ++ hex_text (recording entries) ++ codes "\n"

-- ---- a client

-- what is printed of a client
abbrev pub shown_text : Shown → State → List ℕ
shown_text View client = p3 (view client)
shown_text Confirmed client = p3 (confirmed client)
shown_text Snapshot client = snapshot_text (confirmed client)
shown_text Recording client = recording_text client.taken
