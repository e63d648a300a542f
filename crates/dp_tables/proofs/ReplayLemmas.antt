-- Which rows may stand next.
use Rattle.std.proofs.Common.{◌≡◌, ℕ, ◌+◌, ◌&&◌, nat_lt, nat_le, true, false, List, [], ◌∷◌, Option}
use Rattle.std.proofs.Common.{Result, Ok, Err, is_ok, OnOk, None, Some, MatchOption, ◌++◌, length, refl, sym, ap, subst, ◌∙◌}
use Rattle.dp_keeper.specs.declared.row.Row.{Row}
use Rattle.dp_epochs.specs.declared.event.Event.{Event}
use Rattle.dp_epochs.specs.Effects.{IsEffect}
use Rattle.dp_epochs.specs.Rows.{row_of, row_bytes, event_limit, byte_limit, has_room}
use Rattle.dp_epochs.specs.Spelled.{RowSpells}
use Rattle.dp_epochs.specs.Past.{state_after}
use Rattle.dp_epochs.specs.Resumed.{MayStand, MayNotStand, NamesGiven}
use Rattle.dp_commit.specs.declared.keeping.Made.{Made}
use Rattle.dp_commit.specs.Placed.{IsSupply}
use Rattle.dp_tables.specs.SessionLog.{SessionLog, state_in}
use Rattle.dp_tables.specs.Ready.{MayKeep}
use Rattle.dp_tables.specs.Replay.{Replays}

-- a fact for no value
pub none-found : {X : Type 0} (o : Option X) (A : Type 0) (B : X → Type 0)
    → ((x : X) → o ≡ Some x → ⊥) → MatchOption o A B → A
none-found None A B not h = h
none-found (Some x) A B not h = absurd (not x refl)

-- a row that spells an event is as long as the one that is written for it
abbrev pub OneLength : Type 0
OneLength = (bytes : List ℕ) (e : Event) → RowSpells bytes e → length bytes ≡ length (row_of e)

-- there is room for the event exactly if there is for n bytes
room-is : OneLength → (journal : List Event) (row : Row) (e : Event) (n : ℕ) → n ≡ length row.bytes
    → RowSpells row.bytes e
    → (nat_lt (length journal) event_limit && nat_le (row_bytes journal + n) byte_limit)
    ≡ has_room journal e
room-is one journal row e n is spells =
    ap (λ k. nat_lt (length journal) event_limit && nat_le (row_bytes journal + k) byte_limit)
    (is ∙ one row.bytes e spells)

pub no-room : OneLength → (journal : List Event) (row : Row) (n : ℕ) → n ≡ length row.bytes
    → (nat_lt (length journal) event_limit && nat_le (row_bytes journal + n) byte_limit) ≡ false
    → MayNotStand journal row
no-room one journal row n is none e may =
    let wrong : true ≡ false =
    sym may.room ∙ sym (room-is one journal row e n is may.spells) ∙ none in
    cc

-- the event of a row for which there is room may stand exactly if its connection was given out
pub may-stand : ((bytes : List ℕ) (e f : Event) → RowSpells bytes e → RowSpells bytes f → e ≡ f)
    → OneLength → (journal : List Event) (row : Row) (e : Event) (found : Option Event) (n : ℕ)
    → row.n ≡ length journal → n ≡ length row.bytes → RowSpells row.bytes e
    → (nat_lt (length journal) event_limit && nat_le (row_bytes journal + n) byte_limit) ≡ true
    → MatchOption found (NamesGiven (state_after journal []) e → ⊥)
    (λ f. (f ≡ e) × NamesGiven (state_after journal []) e)
    → MatchOption found (MayNotStand journal row) (MayStand journal row)
may-stand same one journal row e None n number is spells fits not = λ f may.
    not (subst (NamesGiven (state_after journal [])) (same row.bytes f e may.spells spells)
    may.given)
may-stand same one journal row e (Some f) n number is spells fits (it, given) =
    subst (MayStand journal row) (sym it) (record {
      number = number;
      spells = spells;
      given = given;
      room = sym (room-is one journal row e n is spells) ∙ fits;
    })

-- what is made of an event for which there is room
pub row-made : (l : SessionLog) (e : Event) (made : Made) (n : ℕ) → n ≡ length (row_of e)
    → has_room l.journal e ≡ true → made.event ≡ e → IsEffect (state_in l) e made.effect
    → IsSupply l.journal (state_in l) e made.effect made.supply → MayKeep l made n
row-made l e made n is room event cause places = record {
  does = subst (λ x. IsEffect (state_in l) x made.effect) (sym event) cause;
  places = subst (λ x. IsSupply l.journal (state_in l) x made.effect made.supply) (sym event)
      places;
  long = is ∙ ap (λ x. length (row_of x)) (sym event);
  room = ap (has_room l.journal) event ∙ room;
}

pub row-kept : (old l new : SessionLog) (row : Row) (e : Event) → l ≡ record old { room = l.room }
    → MayStand old.journal row e
    → new ≡ record l { journal = l.journal ++ e ∷ []; room = new.room }
    → Replays old row true new
row-kept old l new row e same may kept = (e, may, rw (kept, same) refl)

-- what is so if a call came off is so
pub on-ok : {T E : Type 0} (r : Result T E) (A : Type 0) → is_ok r ≡ true → OnOk r A → A
on-ok (Ok x) A good h = h
on-ok (Err e) A good h = cc
