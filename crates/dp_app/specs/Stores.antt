-- What the store of a server holds in the end.
use Rattle.std.specs.Prelude.{◌≡◌, ◌⊎◌, IfSome}
use Rattle.dp_serve_laws.specs.Stored.{HoldRows}
use Rattle.dp_commands.specs.Effects.{Kept, KeepsNothing, Stores}

-- The store holds the rows of the events that were kept, and after a put has failed perhaps that of
-- one event more. Or no session was resumed over it: nothing was kept, and its rows stay.
abbrev pub HoldsKept : Stores → Kept → Type 0
HoldsKept store kept =
    IfSome store.held_now (HoldRows store.puts store.puts_now kept.journal)
    ⊎ ((store.held_now ≡ store.held) × KeepsNothing kept)
