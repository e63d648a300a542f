-- Which users are marked as present, by which events they joined, and who becomes operator.
use Rattle.std.specs.Prelude.{◌≡◌, ℕ, ◌≤◌, ◌&&◌, Bool, true, false, if◌then◌else◌, Option}
use Rattle.std.specs.Prelude.{None, Some, is_some, List, slice_get, slice_index_or, not}
use Rattle.std.specs.List.{find, list_any}
use Rattle.dp_messages.specs.declared.message.Entry.{Entry}
use Rattle.dp_epochs.specs.declared.event.Event.{Event}
use Rattle.dp_acl.specs.Opening.{last_join}
use Rattle.dp_epochs.specs.State.{user_ids}
use Rattle.dp_history.specs.Items.{join_of}

-- the mark of an id
abbrev pub mark : List Bool → ℕ → Bool
mark present user = slice_index_or present user false

-- the user has joined last by the event of this number
pub record IsJoinedBy (journal : List Event) (live : List Entry) (user event : ℕ) : Type 0 where
  pub some : is_some (join_of user (slice_get journal event)) ≡ true
  pub last : last_join live user ≡ join_of user (slice_get journal event)

-- each user who is marked has joined last by the event that is noted
abbrev pub AreJoined : List Event → List Entry → List Bool → List ℕ → Type 0
AreJoined journal live present opens =
    (user : ℕ) → 1 ≤ user → user ≤ 254 → mark present user ≡ true
    → IsJoinedBy journal live user (slice_index_or opens user 0)

-- the user, who joins, as the first operator, if no one is marked
abbrev pub first_operator : List Bool → ℕ → Option ℕ
first_operator present user = if list_any (mark present) user_ids then None else Some user

-- The user who becomes operator when another leaves, if these are marked who stay: the lowest of
-- them, if the other was operator and none of them is.
abbrev pub next_operator : (ℕ → Bool) → List Bool → ℕ → Option ℕ
next_operator is_operator present user =
    if is_operator user && not (list_any (λ other. mark present other && is_operator other)
    user_ids)
    then find (mark present) user_ids
    else None
