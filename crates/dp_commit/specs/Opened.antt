-- What an epoch opens with.
use Rattle.std.specs.Prelude.{ℕ, ◌+◌, List, [], ◌∷◌, ◌++◌, map}
use Rattle.std.specs.List.{filter_map}
use Rattle.dp_msg_meta.specs.declared.message.Meta.{Meta}
use Rattle.dp_msg_meta.specs.declared.message.Meta.TheVariants.{ResetMark}
use Rattle.dp_messages.specs.declared.message.Entry.{Entry}
use Rattle.dp_acl.specs.Opening.{command_entry, last_join, server_entry}
use Rattle.dp_epochs.specs.State.{State, epoch_of, kept_by, present_users, sent_commands}

-- These entries, with what stands after the mark. That is the last Joins of the present users,
-- these messages on rights, and the commands of the reset that is being sent. Last are the entries
-- that it keeps.
abbrev pub with_rest : State → List Entry → List Meta → List Entry
with_rest s first metas =
    (((first ++ filter_map (last_join s.live) (present_users s)) ++ map server_entry metas)
    ++ map command_entry (sent_commands s.stream)) ++ kept_by s.stream s.live

-- the mark of the next epoch, which says that `after` entries stand after it, and these
abbrev pub opening_in : State → ℕ → List Meta → List Entry
opening_in s after metas =
    with_rest s (server_entry (ResetMark (epoch_of s + 1) after) ∷ []) metas
