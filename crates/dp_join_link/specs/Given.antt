-- What a client takes of what its link gives.
use Rattle.std.specs.Prelude.{Bool, if◌then◌else◌, List, [], ◌∷◌}
use Rattle.std.specs.List.{list_any}
use Rattle.dp_messages.specs.declared.message.Entry.{Entry}
use Rattle.dp_messages.specs.Properties.{is_disconnect}
use Rattle.dp_join_link.specs.JoinStanding.{is_ping}

-- one of the entries is a Disconnect
abbrev pub is_closed : List Entry → Bool
is_closed entries = list_any (λ e. is_disconnect e.msg) entries

-- those that a client takes: the entries before a Disconnect that are no Pings
abbrev pub takeable : List Entry → List Entry
takeable [] = []
takeable (e ∷ more) =
    if is_disconnect e.msg
    then []
    else (if is_ping e.msg then takeable more else e ∷ takeable more)
