-- Sessions whose store follows their journal.
use Rattle.std.proofs.Common.{◌≡◌, ◌⊎◌, ℕ, ◌+◌, ◌≤◌, Bool, true, false, nat_lt, nat_le}
use Rattle.std.proofs.Common.{List, [], ◌∷◌, ◌++◌, length, Option, None, Some, Ok, Err, IfSome}
use Rattle.std.proofs.Common.{refl, sym, ap, subst, inl, inr, arith, length-append}
use Rattle.std.specs.Prelude.{MatchBool, is_some}
use Rattle.std.proofs.lemmas.Bool.{and_parts, lt-ltb, le-leb, ltb-true, leb-true}
use Rattle.std.proofs.lemmas.List.Sums.{sum_by_push}
use Rattle.dp_keeper.specs.declared.row.Row.{Row}
use Rattle.dp_keeper.specs.Store.{with_row}
use Rattle.dp_hall.specs.Logs.{left_by}
use Rattle.dp_messages.specs.declared.message.Msg.{Msg}
use Rattle.dp_messages.specs.Messages.{payload_of}
use Rattle.dp_epochs.specs.declared.event.Event.{Event}
use Rattle.dp_epochs.specs.declared.event.Event.TheVariants as event
use Rattle.dp_epochs.specs.declared.event.Reply.{Reply}
use Rattle.dp_epochs.specs.declared.event.Reply.TheVariants as reply
use Rattle.dp_epochs.specs.Rows.{row_of, row_bytes, event_limit, byte_limit, has_room}
use Rattle.dp_epochs.specs.Spelled.{HasRow, RowSpells}
use Rattle.dp_epochs.specs.Resumed.{NamesGiven, MayStand, StandAfter, AreRowsOf}
use Rattle.dp_epochs.specs.Past.{Past, Step, Serves, Accepts, FailsFirst, Refuses, kept, refused}
use Rattle.dp_epochs.specs.Past.{quieted, row_after, state_of, state_after}
use Rattle.dp_session_laws.specs.Logs.{ReplyOrMemory, LogEntry, IsSessionLog}
use Rattle.dp_session_laws.specs.Kept.{HoldsJournal, IsClosedUp, IsStored, IsPuttable, IsInFlight}
use Rattle.dp_session_laws.specs.Kept.{ArePuttable}

-- ---- room for a Close

say-length : (conn : ℕ) (m : Msg) → length (row_of (event.Say conn m)) ≡ 6 + length (payload_of m)
say-length conn m = omega (arith, length-append {A = ℕ})

-- if a row as long as a Close's fits, a Close does
close-fits : (journal : List Event) (e : Event) → 5 ≤ length (row_of e)
    → has_room journal e ≡ true → has_room journal (event.Close 0) ≡ true
close-fits journal e long room =
    let parts : (nat_lt (length journal) event_limit ≡ true)
    × (nat_le (row_bytes journal + length (row_of e)) byte_limit ≡ true) = and_parts _ _ room in
    let le : nat_le (row_bytes journal + 5) byte_limit ≡ true =
    le-leb (row_bytes journal + 5) byte_limit (omega (
      arith,
      long,
      leb-true (row_bytes journal + length (row_of e)) byte_limit parts.1,
    )) in
    rw (parts.0, le) refl

-- if it fits after more events, it fits after fewer
close-fitted : (journal : List Event) (e : Event)
    → has_room (journal ++ e ∷ []) (event.Close 0) ≡ true
    → has_room journal (event.Close 0) ≡ true
close-fitted journal e room =
    let parts : (nat_lt (length (journal ++ e ∷ [])) event_limit ≡ true)
    × (nat_le (row_bytes (journal ++ e ∷ []) + 5) byte_limit ≡ true) = and_parts _ _ room in
    let lt : nat_lt (length journal) event_limit ≡ true =
    lt-ltb (length journal) event_limit (omega (
      arith,
      length-append journal (e ∷ []),
      ltb-true (length (journal ++ e ∷ [])) event_limit parts.0,
    )) in
    let le : nat_le (row_bytes journal + 5) byte_limit ≡ true =
    le-leb (row_bytes journal + 5) byte_limit (omega (
      arith,
      sum_by_push (λ x. length (row_of x)) journal e,
      leb-true (row_bytes (journal ++ e ∷ []) + 5) byte_limit parts.1,
    )) in
    rw (lt, le) refl

if-not : (b c : Bool) → (b ≡ true → c ≡ true) → c ≡ false → b ≡ false
if-not false c leads is_false = refl
if-not true c leads is_false = let wrong = leads refl in cc

closed-stays : (past : Past) (e : Event) → IsClosedUp past → IsClosedUp (kept past e)
closed-stays past e closed =
    if-not (has_room (past.journal ++ e ∷ []) (event.Close 0)) _
    (close-fitted past.journal e) closed

-- ---- what may be put

unbroken-not : (fault : Option ℕ) → fault ≡ None → is_some fault ≡ true → ⊥
unbroken-not None is broken = cc
unbroken-not (Some n) is broken = cc

closed-given : (past : Past) (e : Event) → IsClosedUp past → has_room past.journal e ≡ true
    → NamesGiven (state_after past.journal []) e
closed-given past (event.Open name registered) closed room = tt
closed-given past (event.Say conn m) closed room =
    let fits = close-fits past.journal (event.Say conn m) (omega (arith, say-length conn m)) room in
    absurd (cc)
closed-given past (event.Close conn) closed room =
    let fits = close-fits past.journal (event.Close conn) (omega arith) room in absurd (cc)

-- the connection was given out by the events alone
given-alone : (past : Past) (e : Event)
    → (past.shut ≡ []) ⊎ (is_some past.first_fault ≡ true) ⊎ IsClosedUp past
    → past.first_fault ≡ None → has_room past.journal e ≡ true → NamesGiven (state_of past) e
    → NamesGiven (state_after past.journal []) e
given-alone past e (inl none) unbroken room given =
    subst (λ s. NamesGiven (state_after past.journal s) e) none given
given-alone past e (inr (inl broken)) unbroken room given =
    absurd (unbroken-not past.first_fault unbroken broken)
given-alone past e (inr (inr closed)) unbroken room given = closed-given past e closed room

-- what is known of rows
pub record RowLaws : Type 0 where
  pub written : (e : Event) → HasRow e → RowSpells (row_of e) e
  pub on : (rows more : List Row) (journal events : List Event)
      → AreRowsOf rows journal → StandAfter journal more events
      → AreRowsOf (rows ++ more) (journal ++ events)

module _ (laws : RowLaws) (past : Past) (e : Event) (is : IsStored past)
    (flight : IsInFlight past e) where
  -- its row may stand
  may-stand : MayStand past.journal (row_after past e) e
  may-stand = record {
    number = refl;
    spells = laws.written e flight.may.row;
    given = given-alone past e is.shut flight.unbroken flight.room flight.may.given;
    room = flight.room;
  }

  -- the rows are those of the journal
  unbroken-rows : (rows : List Row) → HoldsJournal past rows → AreRowsOf rows past.journal
  unbroken-rows rows (inl are) = are
  unbroken-rows rows (inr more) =
      absurd (unbroken-not past.first_fault flight.unbroken more.0)

  -- with its row they are those of the journal with the event
  more-rows : (rows : List Row) → HoldsJournal past rows
      → AreRowsOf (rows ++ row_after past e ∷ []) (past.journal ++ e ∷ [])
  more-rows rows holds =
      laws.on rows (row_after past e ∷ []) past.journal (e ∷ []) (unbroken-rows rows holds)
      (may-stand, tt)

  kept-rows : (known : Option (List Row)) → IfSome known (HoldsJournal past)
      → IfSome (with_row (row_after past e) known) (HoldsJournal (kept past e))
  kept-rows None holds = tt
  kept-rows (Some rows) holds = inl (more-rows rows holds)

  pub stop-leaves : (known : Option (List Row)) (rows : List Row)
      → IfSome known (HoldsJournal past)
      → (known ≡ Some rows) ⊎ (with_row (row_after past e) known ≡ Some rows)
      → AreRowsOf rows past.journal ⊎ AreRowsOf rows (past.journal ++ e ∷ [])
  stop-leaves None rows holds (inl same) = absurd (cc)
  stop-leaves None rows holds (inr same) = absurd (cc)
  stop-leaves (Some before) rows holds (inl same) =
      let equal : before ≡ rows = cc in
      inl (subst (λ r. AreRowsOf r past.journal) equal (unbroken-rows before holds))
  stop-leaves (Some before) rows holds (inr same) =
      let equal : before ++ row_after past e ∷ [] ≡ rows = cc in
      inr (subst (λ r. AreRowsOf r (past.journal ++ e ∷ [])) equal (more-rows before holds))

  kept-shut : (past.shut ≡ []) ⊎ (is_some past.first_fault ≡ true) ⊎ IsClosedUp past
      → (past.shut ≡ []) ⊎ (is_some past.first_fault ≡ true) ⊎ IsClosedUp (kept past e)
  kept-shut (inl none) = inl none
  kept-shut (inr (inl broken)) = inr (inl broken)
  kept-shut (inr (inr closed)) = inr (inr (closed-stays past e closed))

  pub accepted-kept : IsStored (kept past e)
  accepted-kept = record {
    rows = kept-rows past.known is.rows;
    shut = kept-shut is.shut;
  }

  failed-rows : (known : Option (List Row)) (new : Past) → new.journal ≡ past.journal
      → is_some new.first_fault ≡ true → IfSome known (HoldsJournal past)
      → IfSome known (HoldsJournal new)
  failed-rows None new journal broken holds = tt
  failed-rows (Some rows) new journal broken holds =
      inl (subst (AreRowsOf rows) (sym journal) (unbroken-rows rows holds))

  failed-more : (known : Option (List Row)) (new : Past) → new.journal ≡ past.journal
      → is_some new.first_fault ≡ true → IfSome known (HoldsJournal past)
      → IfSome (with_row (row_after past e) known) (HoldsJournal new)
  failed-more None new journal broken holds = tt
  failed-more (Some rows) new journal broken holds =
      inr (
        broken,
        e,
        subst (λ j. AreRowsOf (rows ++ row_after past e ∷ []) (j ++ e ∷ []))
            (sym journal) (more-rows rows holds),
      )

  pub failed-kept : (answer : Reply) (new : Past) → FailsFirst past e answer new → IsStored new
  failed-kept answer new fails =
      let journal : new.journal ≡ past.journal = ap (λ p. p.journal) fails.after in
      let fault : new.first_fault ≡ Some fails.count = ap (λ p. p.first_fault) fails.after in
      let broken : is_some new.first_fault ≡ true = ap (λ f. is_some f) fault in
      let known : new.known ≡ fails.known = ap (λ p. p.known) fails.after in
      record {
        rows = subst (λ k. IfSome k (HoldsJournal new)) (sym known) (by_row new journal broken
            fails.known fails.rows);
        shut = inr (inl broken);
      }
    where
      by_row : (new : Past) → new.journal ≡ past.journal → is_some new.first_fault ≡ true
          → (known : Option (List Row))
          → (known ≡ past.known) ⊎ (known ≡ with_row (row_after past e) past.known)
          → IfSome known (HoldsJournal new)
      by_row new journal broken known (inl same) =
          subst (λ k. IfSome k (HoldsJournal new)) (sym same)
          (failed-rows past.known new journal broken is.rows)
      by_row new journal broken known (inr same) =
          subst (λ k. IfSome k (HoldsJournal new)) (sym same)
          (failed-more past.known new journal broken is.rows)

-- ---- what is not put

refused-broken : (past : Past) (e : Event) (first : ℕ) → IsStored past
    → past.first_fault ≡ Some first → IsStored (refused past e)
refused-broken past e first is fault = record {
  rows = is.rows;
  shut = inr (inl (ap (λ f. is_some f) fault));
}

refused-full : (past : Past) (e : Event) → IsStored past → has_room past.journal e ≡ false
    → IsStored (refused past e)
refused-full past (event.Open name registered) is room = record { rows = is.rows; shut = is.shut }
refused-full past (event.Say conn m) is room = record { rows = is.rows; shut = is.shut }
refused-full past (event.Close conn) is room = record {
  rows = is.rows;
  shut = inr (inr room);
}

quieted-kept : (past : Past) (e : Event) → IsStored past → IsStored (quieted past e)
quieted-kept past (event.Open name registered) is = is
quieted-kept past (event.Say conn m) is = is
quieted-kept past (event.Close conn) is = record { rows = is.rows; shut = is.shut }

-- ---- steps

served-kept : RowLaws → (past : Past) (e : Event) (answer : Reply) (new : Past) (fault : Option ℕ)
    → past.first_fault ≡ fault → IsStored past → IsPuttable past e
    → Serves fault past e answer new → IsStored new
served-kept laws past e answer new (Some first) broken is may h =
    subst IsStored (sym h.after) (refused-broken past e first is broken)
served-kept laws past e answer new None unbroken is may h =
    by_room (has_room past.journal e) refl h
  where
    flight : has_room past.journal e ≡ true → IsInFlight past e
    flight room = record { unbroken = unbroken; room = room; may = may }

    by_room : (b : Bool) → has_room past.journal e ≡ b
        → MatchBool b (Accepts past e answer new ⊎ FailsFirst past e answer new)
        (Refuses past e reply.Ended answer new) → IsStored new
    by_room true room (inl accepts) =
        subst IsStored (sym accepts.after) (accepted-kept laws past e is (flight room))
    by_room true room (inr fails) = failed-kept laws past e is (flight room) answer new fails
    by_room false room refuses = subst IsStored (sym refuses.after) (refused-full past e is room)

pub step-kept : RowLaws → (past : Past) (e : Event) (outcome : ReplyOrMemory) (new : Past)
    → IsStored past → IsPuttable past e → Step past e outcome new → IsStored new
step-kept laws past e (Ok answer) new is may h =
    served-kept laws past e answer new past.first_fault refl is may h
step-kept laws past e (Err error) new is may h = subst IsStored (sym h) (quieted-kept past e is)

pub begun-rows : (past : Past) (known : Option (List Row))
    → IfSome known (λ rows. AreRowsOf rows past.journal) → IfSome known (HoldsJournal past)
begun-rows past None are = tt
begun-rows past (Some rows) are = inl are

-- a step keeps what it keeps
abbrev pub StepsKeep : Type 0
StepsKeep =
    (past : Past) (e : Event) (outcome : ReplyOrMemory) (new : Past)
    → IsStored past → IsPuttable past e → Step past e outcome new → IsStored new

pub log-kept : StepsKeep → (past : Past) (log : List LogEntry) → IsStored past
    → IsSessionLog past log → ArePuttable past log → IsStored (left_by past log)
log-kept steps past [] is legal may = is
log-kept steps past (act ∷ log) is legal may =
    log-kept steps act.left log
    (steps past act.event act.outcome act.left is may.0 legal.0) legal.1 may.1
