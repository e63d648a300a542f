-- Rows of the first profile are today's rows of the lifted events.
use Rattle.std.proofs.Common.{◌≡◌, ◌≢◌, ℕ, ◌+◌, ◌≤◌, List, [], ◌∷◌, ◌++◌, length, map}
use Rattle.std.proofs.Common.{fold}
use Rattle.std.proofs.Common.{inl, inr, refl, sym, ap, subst, ◌∙◌}
use Rattle.std.specs.Prelude.{◌↔◌}
use Rattle.std.proofs.lemmas.List.{length-map, map-append}
use Rattle.dp_messages.specs.declared.message.Msg.{Msg}
use Rattle.dp_messages.specs.declared.message.Msg.TheVariants as msg
use Rattle.dp_messages.specs.Messages.{Lifts, Spells}
use Rattle.dp_messages.proofs.KindSeventy.{other_kind}
use Rattle.dp_keeper.specs.declared.row.Row.{Row}
use Rattle.dp_epochs.specs.declared.event.Event.{Event}
use Rattle.dp_epochs.specs.declared.event.Event.TheVariants.{Open, Say, Close}
use Rattle.dp_epochs.specs.Rows.{row_of, row_bytes, has_room}
use Rattle.dp_epochs.specs.Spelled.{RowSpells}
use Rattle.dp_epochs.specs.Past.{state_after}
use Rattle.dp_epochs.specs.State.{State}
use Rattle.dp_epochs.specs.Resumed.{NamesGiven, MayStand, StandAfter}
use Rattle.dp_recording_laws.specs.FirstProfile.{SpelledFirst}
use Rattle.dp_lifting_laws.specs.FirstRows.{RowSpelled, StoodNext, StoodAfter}
use Rattle.dp_lifting_laws.specs.Lifted.{lifted_message, lifted_event, lifted_state}
use Rattle.dp_lifting_laws.proofs.LiftedEvents.{state-lifted}

-- ---- how long rows are

row-long : (e : Event) → length (row_of (lifted_event e)) ≡ length (row_of e)
row-long (Open name registered) = refl
row-long (Say conn (msg.Opaque kind body)) = refl
row-long (Say conn m) = refl
row-long (Close conn) = refl

rows-from : (n : ℕ) (journal : List Event)
    → fold (λ m e. m + length (row_of e)) n (map lifted_event journal)
    ≡ fold (λ m e. m + length (row_of e)) n journal
rows-from n [] = refl
rows-from n (e ∷ journal) =
    ap (λ long. fold (λ m f. m + length (row_of f)) (n + long) (map lifted_event journal))
    (row-long e)
    ∙ rows-from (n + length (row_of e)) journal

rows-long : (journal : List Event) → row_bytes (map lifted_event journal) ≡ row_bytes journal
rows-long = rows-from 0

room-lifted : (before : List Event) (e : Event)
    → has_room (map lifted_event before) (lifted_event e) ≡ has_room before e
room-lifted before e = cc (length-map before lifted_event, rows-long before, row-long e)

-- ---- which event they spell

-- how frames of the first profile are read
pub record Lifting : Type 0 where
  pub depth : (payload : List ℕ) (m : Msg)
      → Lifts 70 payload m ↔ (m ≡ msg.Opaque 71 payload) × (length payload ≤ 65535)
  pub other : (kind : ℕ) (payload : List ℕ) (m : Msg)
      → kind ≢ 70 → Lifts kind payload m ↔ Spells kind payload m

-- a message of another kind than 70 isn't changed
other-stays : (kind : ℕ) (payload : List ℕ) (m : Msg) → kind ≢ 70 → Spells kind payload m
    → lifted_message m ≡ m
other-stays kind payload (msg.Opaque own body) other s =
    ap (λ k. msg.Opaque k body) (other_kind own (λ is. other (s.kind ∙ is)))
other-stays kind payload m other s = refl

message-lifted : Lifting → (kind : ℕ) (payload : List ℕ) (m : Msg) → SpelledFirst kind payload m
    → Lifts kind payload (lifted_message m)
message-lifted laws kind payload m (inl x) =
    subst (λ k. Lifts k payload (lifted_message m)) (sym x.0)
    ((laws.depth payload (lifted_message m)).1 (ap lifted_message x.1, x.2))
message-lifted laws kind payload m (inr x) =
    subst (Lifts kind payload) (sym (other-stays kind payload m x.0 x.2))
    ((laws.other kind payload m x.0).1 x.2)

spells-lifted : Lifting → (bytes : List ℕ) (e : Event) → RowSpelled bytes e
    → RowSpells bytes (lifted_event e)
spells-lifted laws bytes (Open name registered) s = s
spells-lifted laws bytes (Say conn m) s = record {
  first = 1;
  kind = s.kind;
  payload = s.payload;
  is = s.is;
  fits = s.fits;
  said = inr (refl, message-lifted laws s.kind s.payload m s.spelled);
}
spells-lifted laws bytes (Close conn) s = s

-- ---- where they stand

given-lifted : (s : State) (e : Event) → NamesGiven s e
    → NamesGiven (lifted_state s) (lifted_event e)
given-lifted s (Open name registered) given = given
given-lifted s (Say conn m) given = given
given-lifted s (Close conn) given = given

may_stand-lifted : Lifting → (before : List Event) (row : Row) (e : Event)
    → StoodNext before row e → MayStand (map lifted_event before) row (lifted_event e)
may_stand-lifted laws before row e h = record {
  number = h.number ∙ sym (length-map before lifted_event);
  spells = spells-lifted laws row.bytes e h.spelled;
  given = subst (λ s. NamesGiven s (lifted_event e)) (sym (state-lifted before []))
      (given-lifted (state_after before []) e h.given);
  room = room-lifted before e ∙ h.room;
}

pub stand-lifted : Lifting → (before : List Event) (rows : List Row) (journal : List Event)
    → StoodAfter before rows journal
    → StandAfter (map lifted_event before) rows (map lifted_event journal)
stand-lifted laws before [] [] h = h
stand-lifted laws before [] (e ∷ journal) h = absurd h
stand-lifted laws before (row ∷ rows) [] h = absurd h
stand-lifted laws before (row ∷ rows) (e ∷ journal) h = (
  may_stand-lifted laws before row e h.0,
  subst (λ b. StandAfter b rows (map lifted_event journal))
      (map-append lifted_event before (e ∷ []))
      (stand-lifted laws (before ++ e ∷ []) rows journal h.1),
)
