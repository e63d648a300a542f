-- Laws of rights.
use Rattle.std.specs.Prelude.{◌≡◌, ℕ, true, false, None, List, [], ◌∷◌, ◌++◌, map}
use Rattle.dp_msg_draw.specs.declared.draw.Draw.{Draw}
use Rattle.dp_msg_meta.specs.Fields.{RiseFrom}
use Rattle.dp_msg_meta.specs.declared.message.Meta.TheVariants.{Filtered}
use Rattle.dp_messages.specs.declared.message.Msg.{Msg}
use Rattle.dp_messages.specs.declared.message.Msg.TheVariants as msg
use Rattle.dp_messages.specs.declared.message.Entry.{Entry}
use Rattle.dp_messages.specs.Messages.{HasSpelling}
use Rattle.dp_acl.specs.LookBack.{lists, is_join_of, owners}
use Rattle.dp_acl.specs.Rights.{is_operator}
use Rattle.dp_acl.specs.Permitted.{permitted}
use Rattle.dp_acl.specs.Carried.{in_order}
use Rattle.dp_acl.specs.Table.{Kept, StandsFor}
use Rattle.dp_acl.specs.Opening.{command_entry, GoOver, opening}

-- the entry that stands in place of a forbidden message of this kind
abbrev pub filtered : ℕ → ℕ → Entry
filtered user kind = record { user = user; msg = msg.Meta (Filtered kind) }

-- a forbidden message changes no right: what is permitted is the same with its entry and without it
abbrev pub ForbiddenChangesNoRight : Type 0
ForbiddenChangesNoRight =
    (before after : List Entry) (sender kind user : ℕ) (m : Msg)
    → permitted (before ++ filtered sender kind ∷ after) user m ≡ permitted (before ++ after) user m

-- ids that rise, as a message spells them, stand in order
abbrev pub SpelledIdsAreInOrder : Type 0
SpelledIdsAreInOrder = (low : ℕ) (ids : List ℕ) → RiseFrom low ids → in_order ids ≡ ids

-- an entry that names no operators and is no Join of the user leaves whether the user is one
abbrev pub OperatorsStay : Type 0
OperatorsStay =
    (history : List Entry) (e : Entry) (user : ℕ)
    → owners e.msg ≡ None → is_join_of user e ≡ false
    → is_operator (history ++ e ∷ []) user ≡ is_operator history user

-- The commands of a reset, as they stand in a history, change no right: a table stands for the
-- history with them as it did without.
abbrev pub CommandsChangeNoRight : Type 0
CommandsChangeNoRight =
    (kept : Kept) (history : List Entry) (commands : List Draw)
    → StandsFor kept history → StandsFor kept (history ++ map command_entry commands)

-- entries that go on change no right either
abbrev pub KeptChangeNoRight : Type 0
KeptChangeNoRight =
    (table : Kept) (history kept : List Entry)
    → GoOver kept → StandsFor table history → StandsFor table (history ++ kept)

-- An opening changes no right of a user who is present, if the entries that it keeps go on: what
-- the user may say is the same after it as after the history before, of messages that have a
-- spelling.
abbrev pub OpeningsChangeNoRight : Type 0
OpeningsChangeNoRight =
    (table : Kept) (epoch : ℕ) (history : List Entry) (present : List ℕ) (commands : List Draw)
    (kept : List Entry) (user : ℕ) (m : Msg)
    → GoOver kept → StandsFor table history → RiseFrom 1 present → lists present user ≡ true
    → HasSpelling m
    → permitted (opening epoch history present commands kept) user m ≡ permitted history user m
