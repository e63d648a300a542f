-- How an epoch opens.
use Rattle.std.specs.Prelude.{◌≡◌, ℕ, ◌-◌, Bool, true, false, Option, None, Some}
use Rattle.std.specs.Prelude.{List, [], ◌∷◌, ◌++◌, length, map, drop, slice_get}
use Rattle.std.specs.List.{AllByRecursion, filter, filter_map}
use Rattle.dp_msg_draw.specs.declared.draw.Draw.{Draw}
use Rattle.dp_msg_meta.specs.declared.message.Meta.{Meta}
use Rattle.dp_msg_meta.specs.declared.message.Meta.TheVariants.{Chat, ResetMark}
use Rattle.dp_messages.specs.declared.message.Msg.{Msg}
use Rattle.dp_messages.specs.declared.message.Msg.TheVariants as msg
use Rattle.dp_messages.specs.declared.message.Entry.{Entry}
use Rattle.dp_acl.specs.LookBack.{is_join_of}
use Rattle.dp_acl.specs.Carried.{carried}

-- an entry of the server's own
abbrev pub server_entry : Meta → Entry
server_entry m = record { user = 0; msg = msg.Meta m }

-- a command of a reset, as it stands in the history
abbrev pub command_entry : Draw → Entry
command_entry command = record { user = 0; msg = msg.Draw command }

-- the user's last Join in a history, if there is one
abbrev pub last_join : List Entry → ℕ → Option Entry
last_join history user =
    let joins = filter (is_join_of user) history in slice_get joins (length joins - 1)

-- An entry of this message goes on into the next epoch if the reset keeps entries: a command, a
-- point, an undo, a chat, or what has no effect.
abbrev pub goes_over : Msg → Bool
goes_over (msg.Draw command) = true
goes_over msg.Point = true
goes_over (msg.Undo target redo) = true
goes_over (msg.Opaque kind body) = true
goes_over (msg.Meta (Chat text)) = true
goes_over m = false

-- each of the entries goes on
abbrev pub GoOver : List Entry → Type 0
GoOver entries = AllByRecursion (λ entry. goes_over entry.msg ≡ true) entries

-- the entries that a reset keeps of a history from this place on; none, if it names no place
abbrev pub kept_entries : Option ℕ → List Entry → List Entry
kept_entries None history = []
kept_entries (Some place) history = filter (λ entry. goes_over entry.msg) (drop place history)

-- What stands after the mark of a new epoch: the last Joins of the present users, what is carried
-- of the rights, the commands of the reset, and the entries that it keeps.
abbrev pub carried_entries : List Entry → List ℕ → List Draw → List Entry → List Entry
carried_entries history present commands kept =
    filter_map (last_join history) present
    ++ map server_entry (carried history present)
    ++ map command_entry commands
    ++ kept

-- The history that the epoch of this number opens with, after the history of the one before, if
-- these users are present.
abbrev pub opening : ℕ → List Entry → List ℕ → List Draw → List Entry → List Entry
opening epoch history present commands kept =
    let rest = carried_entries history present commands kept in
    server_entry (ResetMark epoch (length rest)) ∷ rest

-- the most commands of a reset
abbrev pub part_limit : ℕ
part_limit = 262144

-- No opening has more besides the entries that it keeps: the mark, 254 Joins, four entries of
-- rights, the depth, the rules of 65,536 layers, and the commands.
abbrev pub opening_limit : ℕ
opening_limit = 327940
