-- What an event places, as it was made ahead, and the live history as it is kept after it.
use Rattle.std.specs.Prelude.{◌≡◌, ℕ, ◌+◌, Bool, true, false, [], Option, None, Some, List, ◌∷◌}
use Rattle.std.specs.Prelude.{◌++◌, length, drop, ⊤}
use Rattle.std.specs.Global.{Box}
use Rattle.dp_messages.specs.declared.message.Entry.{Entry}
use Rattle.dp_epochs.specs.declared.effect.Effect.{Effect}
use Rattle.dp_epochs.specs.declared.effect.Effect.TheVariants.{Placed, Reopened}
use Rattle.dp_epochs.specs.declared.event.Event.{Event}
use Rattle.dp_epochs.specs.Effects.{own_message, entries_of, live_after}
use Rattle.dp_epochs.specs.State.{State, entry_of}
use Rattle.dp_history.specs.declared.item.HistoryItem.{HistoryItem}
use Rattle.dp_history.specs.declared.frames.HistoryFrames.{HistoryFrames}
use Rattle.dp_history.specs.Items.{IsSay}
use Rattle.dp_history.specs.Made.{AreMadeOf, going_over}
use Rattle.dp_history.specs.Openings.{Holds}
use Rattle.dp_commit.specs.declared.supply.Supply.{Supply}
use Rattle.dp_commit.specs.declared.supply.Supply.TheVariants.{Entries, Opens}
use Rattle.dp_history.specs.declared.item.HistoryItem.TheVariants as item

-- the entry of what the event says, if that is placed
abbrev pub own_entries : Event → Effect → List Entry
own_entries e (Placed conn connection) = entry_of connection.user (own_message e) ∷ []
own_entries e other = []

-- as it is kept, if the event is the journal's n-th
abbrev pub own_items : ℕ → Effect → List HistoryItem
own_items n (Placed conn connection) = item.Said n connection.user ∷ []
own_items n other = []

-- an event of which a message is placed says one
abbrev pub SaysOwn : Event → Effect → Type 0
SaysOwn e (Placed conn connection) = IsSay (Some e)
SaysOwn e other = ⊤

-- the event opens the next epoch
abbrev pub opens_epoch : Effect → Bool
opens_epoch (Reopened conn connection) = true
opens_epoch other = false

-- the entry in a box, if there is one
abbrev pub unboxed : Option (Box Entry) → List Entry
unboxed None = []
unboxed (Some entry) = entry.value ∷ []

-- as it is kept
abbrev pub server_items : Option (Box Entry) → List HistoryItem
server_items None = []
server_items (Some entry) = item.Server entry ∷ []

-- the entries that were made ahead
abbrev pub supplied : Supply → List Entry
supplied (Entries first second) = unboxed first ++ unboxed second
supplied (Opens opening) = []

-- this is what the event places beside what it says
abbrev pub IsSupply : List Event → State → Event → Effect → Supply → Type 0
IsSupply journal s e effect (Entries first second) =
    (opens_epoch effect ≡ false)
    × (own_entries e effect ++ (unboxed first ++ unboxed second) ≡ entries_of e effect)
IsSupply journal s e effect (Opens opening) =
    (opens_epoch effect ≡ true) × Holds journal opening (live_after s e effect)

-- the live history as it is kept, with the event's own entry and what was made ahead
abbrev pub items_after : List HistoryItem → Supply → List HistoryItem → List HistoryItem
items_after own (Entries first second) live =
    live ++ (own ++ (server_items first ++ server_items second))
items_after own (Opens opening) live = opening.live.items

-- the live history is this with what was made ahead, or begins anew with that
abbrev pub IsWithSupply : List Event → Supply → List Entry → List Entry → Type 0
IsWithSupply journal (Entries first second) history next =
    next ≡ history ++ (unboxed first ++ unboxed second)
IsWithSupply journal (Opens opening) history next = Holds journal opening next

-- The frames that were made of a history stay. If it begins anew with what was made ahead, the
-- frames are made of that. They are those of its entries from a place on that go over, which end
-- the new one.
abbrev pub AreFramesWith : List Entry → ℕ → Supply → HistoryFrames → HistoryFrames → Type 0
AreFramesWith history from (Entries first second) old new = new ≡ old
AreFramesWith history from (Opens opening) old new =
    (before : List Entry)
    → length opening.live.items ≡ length (before ++ going_over (drop from history))
    → AreMadeOf new (before ++ going_over (drop from history))

-- the number of the live epoch
abbrev pub epoch_with : Supply → ℕ → ℕ
epoch_with (Entries first second) epoch = epoch
epoch_with (Opens opening) epoch = epoch + 1
