-- What a client makes of the entry that comes next.
use Rattle.std.specs.Prelude.{◌≡◌, ℕ, ◌<◌, ◌≤◌, Option, None, Some}
use Rattle.std.specs.Prelude.{List, [], ◌∷◌, ◌++◌, length}
use Rattle.dp_messages.specs.declared.message.Entry.{Entry}
use Rattle.dp_messages.specs.Properties.{marked}
use Rattle.dp_client.specs.Client.{State, own_of, fork_after, last_before, took, taken_of}

-- the client is in the epoch of its Welcome, or in a later one, of which it has taken an entry
pub record IsUnderway (s : State) : Type 0 where
  pub began : s.joined_epoch ≤ s.epoch
  pub entered : s.joined_epoch < s.epoch → 0 < length s.taken

-- the epoch whose mark comes next, after what is taken of an epoch: it comes first, and no other
abbrev pub mark_due : ℕ → List Entry → Option ℕ
mark_due epoch [] = Some epoch
mark_due epoch (entry ∷ entries) = None

-- the client with one more entry of its epoch
abbrev pub with_entry : State → Entry → State
with_entry s entry = record s {
  taken = s.taken ++ entry ∷ [];
  fork = fork_after (own_of s entry) s.fork;
}

-- the client that has entered an epoch by its mark
abbrev pub with_mark : State → ℕ → Entry → State
with_mark s epoch entry = record s { epoch = epoch; taken = entry ∷ []; fork = [] }

-- The next entry of its epoch joins those that it has taken: the mark, or after that one that is
-- none. It moves no place of own answers, and nothing is acknowledged.
pub record TakesHere (s : State) (entry : Entry) : Type 0 where
  pub took : took s entry ≡ with_entry s entry
  pub ack : (taken_of s entry).ack ≡ None
  pub stays : last_before (with_entry s entry) ≡ last_before s

-- by the mark of a later epoch it enters that epoch, which it acknowledges
pub record TakesLater (s : State) (epoch : ℕ) (entry : Entry) : Type 0 where
  pub took : took s entry ≡ with_mark s epoch entry
  pub ack : (taken_of s entry).ack ≡ Some epoch

-- so a client takes each entry that may come next
pub record Takes (s : State) (entry : Entry) : Type 0 where
  pub here : marked entry.msg ≡ mark_due s.epoch s.taken → TakesHere s entry
  pub later : (epoch : ℕ) → s.epoch < epoch → marked entry.msg ≡ Some epoch
      → TakesLater s epoch entry

abbrev pub EntriesAreTaken : Type 0
EntriesAreTaken = (s : State) (entry : Entry) → IsUnderway s → Takes s entry
