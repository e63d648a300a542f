-- What holds if an event may be kept.
use Rattle.std.proofs.Common.{◌≡◌, ℕ, ◌+◌, ◌-◌, ◌*◌, ◌^◌, ◌<◌, ◌≤◌, true, nat_lt, nat_le, length}
use Rattle.std.proofs.Common.{sym, ap, subst, arith, length-append, Result, Ok, Err, IfOk}
use Rattle.std.specs.Prelude.{vec_len, vec_capacity}
use Rattle.std.proofs.lemmas.Bool.{ltb-true, leb-true, and_parts}
use Rattle.dp_acl.specs.Opening.{opening_limit}
use Rattle.dp_epochs.specs.Rows.{row_of, row_bytes, event_limit, byte_limit}
use Rattle.dp_epochs.specs.declared.event.Event.{Event}
use Rattle.dp_messages.specs.declared.message.Msg.{Msg}
use Rattle.dp_messages.specs.Messages.{payload_of}
use Rattle.dp_messages.specs.declared.message.Msg.TheVariants as msg
use Rattle.dp_epochs.specs.declared.event.Event.TheVariants as event
use Rattle.dp_epochs.specs.declared.effect.Effect.{Effect}
use Rattle.dp_commit.specs.declared.keeping.Made.{Made}
use Rattle.dp_commit.specs.declared.supply.Supply.{Supply}
use Rattle.dp_commit.specs.Keeping.{MayBeKept, HasRoom}
use Rattle.dp_commit.specs.Sending.{PartSize}
use Rattle.dp_tables.specs.declared.tables.Tables.TheInside.{Inside}
use Rattle.dp_tables.specs.Inside.{is_ready, ledger_of, AreTables}
use Rattle.dp_tables.specs.SessionLog.{state_in}
use Rattle.dp_tables.specs.Ready.{MayKeep}

-- what was so of what was made ahead is so of the event with that
pub ahead-made : {E F : Type 0} (r : Result Made E) (ahead : Result (Effect × Supply) F)
    (A : Effect × Supply → Type 0)
    → IfOk r (λ made. ahead ≡ Ok (made.effect, made.supply)) → IfOk ahead A
    → IfOk r (λ made. A (made.effect, made.supply))
ahead-made (Ok made) ahead A is h = subst (λ x. IfOk x A) is h
ahead-made (Err e) ahead A is h = is

-- there are no more connections than events
pub connections-fit : (t : Inside) → AreTables t → length t.roster.connections.items ≤ event_limit
connections-fit t are = omega (arith, ap length are.of.table, are.of.opened, are.events)

-- the row is within the limit
pub row-fits : (t : Inside) (made : Made) (row_length : ℕ) → AreTables t
    → MayKeep (ledger_of t) made row_length → t.row_bytes + row_length ≤ byte_limit
row-fits t made row_length are may =
    let limits : (nat_lt (length t.journal.items) event_limit ≡ true)
    × (nat_le (row_bytes t.journal.items + length (row_of made.event)) byte_limit ≡ true) =
    and_parts _ _ may.room in
    omega (
      arith,
      leb-true (row_bytes t.journal.items + length (row_of made.event)) byte_limit limits.1,
      are.bytes,
      may.long,
    )

row-length : (conn : ℕ) (m : Msg) → length (row_of (event.Say conn m)) ≡ 6 + length
    (payload_of m)
row-length conn m = omega (arith, length-append {A = ℕ})

-- the payload of a part has six bytes less than its row
size-is : (e : Event) (row_length : ℕ) → row_length ≡ length (row_of e)
    → PartSize e (row_length - 6)
size-is e row_length is conn command came =
    omega (
      arith,
      is,
      ap (λ x. length (row_of x)) came,
      row-length conn (msg.Part command),
    )

-- the event may be kept beside the journal
pub may-be-kept : (t : Inside) (made : Made) (row_length size : ℕ) → AreTables t
    → MayKeep (ledger_of t) made row_length → size ≡ row_length - 6
    → MayBeKept (state_in (ledger_of t)) t.journal.items t.roster t.sending t.live made size
may-be-kept t made row_length size are may size_is = record {
  of = are.of;
  frames = are.frames;
  does = may.does;
  places = may.places;
  long = subst (PartSize made.event) (sym size_is) (size-is made.event row_length may.long);
}

-- if memory is ready, there is room for one more event
pub room-beside : (t : Inside) (size : ℕ) → AreTables t → is_ready t ≡ true → size ≤ 2 ^ 30
    → t.live.number ≤ event_limit
    → length t.live.history.items ≤ 2 * event_limit + opening_limit
    → HasRoom t.journal.items t.roster t.sending t.live size
room-beside t size are ready small few short =
    let rights = and_parts _ (nat_le 2 t.live.rights.room) ready in
    let history = t.live.history in
    let connections = t.roster.connections in
    let live = and_parts _ (nat_le (vec_len history + 2) (vec_capacity history)) rights.0 in
    let parts = and_parts _ (nat_lt (vec_len t.sending.parts) (vec_capacity t.sending.parts))
    live.0 in
    let quiet = and_parts _ (nat_lt (vec_len t.roster.quiet) (vec_capacity t.roster.quiet))
    parts.0 in
    let given = and_parts _ (nat_lt (vec_len connections) (vec_capacity connections)) quiet.0 in
    record {
      connections = ltb-true (vec_len connections) (vec_capacity connections) given.1;
      quiet = ltb-true (vec_len t.roster.quiet) (vec_capacity t.roster.quiet) quiet.1;
      parts = ltb-true (vec_len t.sending.parts) (vec_capacity t.sending.parts) parts.1;
      history = leb-true (vec_len history + 2) (vec_capacity history) live.1;
      rights = leb-true 2 t.live.rights.room rights.1;
      events = omega (arith, are.events);
      epochs = omega (arith, few);
      entries = omega (arith, short);
      small = small;
    }

-- and in the journal
pub room-in-journal : (t : Inside) → is_ready t ≡ true → vec_len t.journal < vec_capacity t.journal
room-in-journal t ready =
    let connections = t.roster.connections in
    let live = (and_parts _ (nat_le 2 t.live.rights.room) ready).0 in
    let history = t.live.history in
    let parts = (and_parts _ (nat_le (vec_len history + 2) (vec_capacity history)) live).0 in
    let p = and_parts _ (nat_lt (vec_len t.sending.parts) (vec_capacity t.sending.parts)) parts in
    let q = and_parts _ (nat_lt (vec_len t.roster.quiet) (vec_capacity t.roster.quiet)) p.0 in
    let c = and_parts _ (nat_lt (vec_len connections) (vec_capacity connections)) q.0 in
    let s = and_parts _ (nat_lt (vec_len t.shut) (vec_capacity t.shut)) c.0 in
    ltb-true (vec_len t.journal) (vec_capacity t.journal) s.0
