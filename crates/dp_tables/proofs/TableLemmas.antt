-- When tables are those of a state.
use Rattle.std.proofs.Common.{◌≡◌, ℕ, ◌+◌, ◌-◌, ◌*◌, ◌<◌, ◌≤◌, Bool, true, false, cond, nat_lt}
use Rattle.std.proofs.Common.{nat_le, List, [], ◌∷◌, ◌++◌, length, map, All, Option, None, Some}
use Rattle.std.proofs.Common.{refl, sym, ap, subst, ◌∙◌, ⊎_elim, arith, length-append}
use Rattle.std.specs.Prelude.{slice_index_or}
use Rattle.std.specs.Option.{option_map_or}
use Rattle.std.proofs.lemmas.List.{get_or-replicate, get_or_past, length-replicate}
use Rattle.std.proofs.lemmas.List.Elements.{All-nil, All-push}
use Rattle.std.proofs.Math.ListN.{replicate}
use Rattle.std.proofs.lemmas.List.Sums.{sum_by_push}
use Rattle.std.proofs.lemmas.Bool.{cases_lt, ltb-true, leb-true, and_parts, false≢true}
use Rattle.dp_messages.specs.declared.message.Entry.{Entry}
use Rattle.dp_acl.specs.Table.{StandsFor}
use Rattle.dp_acl.specs.Opening.{opening_limit}
use Rattle.dp_epochs.specs.declared.connection.Connection.{Connection}
use Rattle.dp_epochs.specs.declared.event.Event.{Event}
use Rattle.dp_epochs.specs.Effects.{made}
use Rattle.dp_epochs.specs.State.{State, first_state, epoch_of, after_shut, after_event, history_of}
use Rattle.dp_epochs.specs.State.{open_connection, open_in, with_connection}
use Rattle.dp_epochs.specs.declared.event.ShutAt.{ShutAt}
use Rattle.dp_epochs.specs.Rows.{row_of, row_bytes, has_room, event_limit, byte_limit}
use Rattle.dp_epochs.specs.Past.{Past, state_after, state_of, kept, refused}
use Rattle.dp_epochs.specs.Laws.{ShutBefore, shut_by}
use Rattle.dp_history.specs.Made.{AreMadeOf}
use Rattle.dp_history.specs.Items.{entry_in, IsIn, IsPart}
use Rattle.dp_history.specs.Users.{mark}
use Rattle.dp_commit.specs.Marks.{closed_in, unmarked}
use Rattle.dp_commit.specs.Pages.{AreRead}
use Rattle.dp_commit.specs.Tables.{Seen, AreOf, seen_in}
use Rattle.dp_commit.proofs.MarksLemmas.{length-closed}
use Rattle.dp_commit.proofs.StateLemmas.{live-length, AreOf-shut}
use Rattle.dp_tables.specs.declared.tables.Tables.TheInside.{Inside}
use Rattle.dp_tables.specs.SessionLog.{SessionLog, state_in}
use Rattle.dp_tables.specs.Inside.{ledger_of, seen, AreTables}
use Rattle.dp_epochs.specs.declared.event.Event.TheVariants as event
use Rattle.dp_epochs.specs.declared.connection.Ending.TheVariants as ending

-- ---- nothing has come

no-marks : (n user : ℕ) → mark (replicate n false) user ≡ false
no-marks n user =
    ⊎_elim (λ (within : user < n). get_or-replicate n user false false within)
    (λ (past : n ≤ user). get_or_past (replicate n false) user false
    (omega (arith, length-replicate n false)))
    (cases_lt user n)

-- the tables of a session to which nothing has come
pub tables-first : (t : Inside)
    → t.journal.items ≡ [] → t.shut.items ≡ [] → t.roster.connections.items ≡ []
    → t.roster.quiet.items ≡ []
    → map (entry_in []) t.live.history.items ≡ first_state.live
    → All (IsIn []) t.live.history.items → t.row_bytes ≡ 0
    → StandsFor t.live.rights first_state.live → t.roster.present ≡ replicate 256 false
    → t.live.number ≡ 0 → t.roster.opens ≡ replicate 256 0 → t.sending.owner ≡ None
    → t.sending.place ≡ None → t.sending.parts.items ≡ [] → t.sending.part_bytes ≡ 0
    → ((history : List Entry) → AreMadeOf t.live.frames history) → AreTables t
tables-first t ej es ec eq entries said eb stands ep ee eo eu eh ek ez made =
    let first : Seen = record {
      journal = [];
      connections = [];
      epoch = 0;
      live = t.live.history.items;
      rights = t.live.rights;
      present = t.roster.present;
      opens = t.roster.opens;
      owner = None;
      place = None;
      parts = [];
      part_bytes = 0;
    }
    in
    let seen_is : seen t ≡ first = cc in
    let state_is : state_in (ledger_of t) ≡ first_state =
    ap (λ j. state_after j t.shut.items) ej ∙ ap (state_after []) es in
    record {
      of = subst (λ s. AreOf s (seen t)) (sym state_is) (subst (AreOf first_state) (sym seen_is)
          (record {
            epoch = refl;
            reset = record {
              stream = refl;
              said = All-nil (IsPart []);
              size = refl;
              many = omega arith;
              within = omega arith;
              none = λ no_one. refl;
            };
            table = refl;
            entries = entries;
            said = said;
            stands = stands;
            ids = ap length ep ∙ length-replicate 256 false;
            marks = λ user small. sym (ap (λ b. cond {A = ℕ} b 1 0)
                (ap (λ p. mark p user) ep ∙ no-marks 256 user));
            slots = ap length eo ∙ length-replicate {A = ℕ} 256 0;
            joined = λ user above below up. absurd (false≢true
                (sym (ap (λ p. mark p user) ep ∙ no-marks 256 user) ∙ up));
            opened = omega arith;
          }));
      before = subst (λ s. All (λ (x : ShutAt). x.n ≤ length t.journal.items) s) (sym es)
          (All-nil (λ (x : ShutAt). x.n ≤ length t.journal.items));
      bytes = eb ∙ sym (ap row_bytes ej);
      events = omega (arith, ap length ej);
      within = omega (arith, eb);
      flags = ap length eq ∙ sym (ap length ec);
      frames = made (state_in (ledger_of t)).live;
    }

-- ---- ledgers

-- the tables of a ledger
pub of-ledger : (t : Inside) (l : SessionLog) → AreTables t → ledger_of t ≡ l
    → AreOf (state_in l) (seen t)
of-ledger t l are view = subst (λ x. AreOf (state_in x) (seen t)) view are.of

-- what pages are read of is that of the state
pub are-read : (t : Inside) (l : SessionLog) → AreTables t → ledger_of t ≡ l
    → AreRead (state_in l) t.journal.items t.roster t.live
are-read t l are view =
    let of = of-ledger t l are view in
    record { table = of.table; flags = are.flags; epoch = of.epoch; entries = of.entries }

ledger-parts : (j k : List Event) (s t : List ShutAt) (q r : List ℕ) (x y : Bool)
    → j ≡ k → s ≡ t → q ≡ r → x ≡ y
    → ◌≡◌ {A = SessionLog} (record { journal = j; shut = s; quiet = q; room = x })
    (record { journal = k; shut = t; quiet = r; room = y })
ledger-parts j k s t q r x y journal shut quiet room = cc

-- a ledger by its parts
pub ledger-is : (a b : SessionLog) → a.journal ≡ b.journal → a.shut ≡ b.shut → a.quiet ≡ b.quiet
    → a.room ≡ b.room → a ≡ b
ledger-is a b journal shut quiet room =
    ledger-parts a.journal b.journal a.shut b.shut a.quiet b.quiet a.room b.room journal shut quiet
    room

-- ---- an event was kept

-- a past with these events and closings
past_in : SessionLog → Past
past_in l = record {
  journal = l.journal;
  shut = l.shut;
  quiet = l.quiet;
  first_fault = None;
  known = None;
  count = 0;
  read_faults = 0;
}

last-history : (ended : List (List Entry)) (live : List Entry)
    → slice_index_or (ended ++ live ∷ []) (length ended) [] ≡ live
last-history [] live = refl
last-history (history ∷ ended) live = last-history ended live

-- the live history is short, and there are few epochs
pub live-fits : ((past : Past) (epoch : ℕ) → length (history_of (state_of past) epoch)
    ≤ 2 * length past.journal + opening_limit) → (t : Inside) → AreTables t
    → length t.live.history.items ≤ 2 * event_limit + opening_limit
unfolding past_in
live-fits short t are =
    let past = past_in (ledger_of t) in
    let s = state_of past in
    omega (
      arith,
      short past (epoch_of s),
      ap length (last-history s.ended s.live),
      live-length s (seen t) are.of,
      are.events,
    )

pub epoch-fits : ((past : Past) → epoch_of (state_of past) ≤ length past.journal) → (t : Inside)
    → AreTables t → t.live.number ≤ event_limit
unfolding past_in
epoch-fits few t are =
    omega (arith, few (past_in (ledger_of t)), are.of.epoch, are.events)

-- the tables after an event that was kept
pub tables-kept : (leads : (past : Past) (e : Event) → ShutBefore past
    → state_of (kept past e) ≡ after_event (state_of past) e)
    → (old new : Inside) (e : Event) (row_length : ℕ) → AreTables old
    → row_length ≡ length (row_of e) → has_room old.journal.items e ≡ true
    → new.journal.items ≡ old.journal.items ++ e ∷ [] → new.shut.items ≡ old.shut.items
    → new.row_bytes ≡ old.row_bytes + row_length
    → AreOf (after_event (state_in (ledger_of old)) e)
    (seen_in (old.journal.items ++ e ∷ []) new.roster new.sending new.live)
    → length new.roster.quiet.items ≡ length new.roster.connections.items
    → AreMadeOf new.live.frames (after_event (state_in (ledger_of old)) e).live → AreTables new
unfolding past_in
tables-kept leads old new e row_length are row room journal shut bytes of flags frames =
    let s = state_in (ledger_of old) in
    let limits : (nat_lt (length old.journal.items) event_limit ≡ true)
    × (nat_le (row_bytes old.journal.items + length (row_of e)) byte_limit ≡ true) = and_parts _
    _ room in
    let more = length-append old.journal.items (e ∷ []) in
    let state_is : state_in (ledger_of new) ≡ after_event s e =
    ap (λ j. state_after j new.shut.items) journal
    ∙ ap (state_after (old.journal.items ++ e ∷ [])) shut
    ∙ leads (past_in (ledger_of old)) e are.before in
    record {
      of = subst (λ x. AreOf x (seen new)) (sym state_is)
          (subst (λ j. AreOf (after_event s e) (seen_in j new.roster new.sending new.live))
          (sym journal) of);
      before = subst (λ x. All (λ (y : ShutAt). y.n ≤ length new.journal.items) x) (sym shut)
          (λ k d lt. omega (arith, are.before k d lt, more, ap length journal));
      bytes = bytes ∙ ap (λ n. n + row_length) are.bytes
          ∙ ap (λ n. row_bytes old.journal.items + n) row
          ∙ sym (sum_by_push (λ event. length (row_of event)) old.journal.items e)
          ∙ sym (ap row_bytes journal);
      events = omega (
        arith,
        ltb-true (length old.journal.items) event_limit limits.0,
        more,
        ap length journal,
      );
      within = omega (
        arith,
        leb-true (row_bytes old.journal.items + length (row_of e)) byte_limit limits.1,
        bytes,
        are.bytes,
        row,
      );
      flags = flags;
      frames = subst (AreMadeOf new.live.frames) (sym (ap (λ x. x.live) state_is)) frames;
    }

-- ---- a Close was left out

-- what leaving out a Close makes of the tables
pub record IsLeftOut (old : Inside) (conn : ℕ) (new : Inside) : Type 0 where
  pub journal : new.journal.items ≡ old.journal.items
  pub bytes : new.row_bytes ≡ old.row_bytes
  pub shut : new.shut.items ≡ old.shut.items ++ record { conn = conn; n = length old.journal.items }
      ∷ []
  pub connections : new.roster.connections.items
      ≡ closed_in conn (open_in old.roster.connections.items conn) old.roster.connections.items
  pub quiet : new.roster.quiet.items ≡ old.roster.quiet.items
  pub epoch : new.live.number ≡ old.live.number
  pub live : new.live.history.items ≡ old.live.history.items
  pub rights : new.live.rights ≡ old.live.rights
  pub present : new.roster.present
      ≡ unmarked (open_in old.roster.connections.items conn) old.roster.present
  pub opens : new.roster.opens ≡ old.roster.opens
  pub owner : new.sending.owner ≡ old.sending.owner
  pub place : new.sending.place ≡ old.sending.place
  pub parts : new.sending.parts.items ≡ old.sending.parts.items
  pub part_bytes : new.sending.part_bytes ≡ old.sending.part_bytes
  pub frames : new.live.frames ≡ old.live.frames

live-shut : (s : State) (conn : ℕ) (o : Option Connection)
    → (option_map_or (λ c. with_connection s conn (record c { ending = ending.Shut })) o s).live
    ≡ s.live
live-shut s conn None = refl
live-shut s conn (Some c) = refl

-- the tables after a Close that was left out
pub tables-left : (leads : (past : Past) (e : Event)
    → state_of (refused past e) ≡ shut_by (state_of past) e) (old new : Inside) (conn : ℕ)
    → AreTables old → IsLeftOut old conn new → AreTables new
unfolding past_in
tables-left leads old new conn are left =
    let s = state_in (ledger_of old) in
    let o = open_connection s conn in
    let shut_now : List ShutAt = old.shut.items
    ++ record { conn = conn; n = length old.journal.items } ∷ [] in
    let found : open_in old.roster.connections.items conn ≡ o =
    ap (λ cs. open_in cs conn) are.of.table in
    let connections : new.roster.connections.items ≡ closed_in conn o s.connections =
    left.connections
    ∙ ap (λ x. closed_in conn x old.roster.connections.items) found
    ∙ ap (closed_in conn o) are.of.table in
    let present : new.roster.present ≡ unmarked o old.roster.present =
    left.present ∙ ap (λ x. unmarked x old.roster.present) found in
    let seen_is : seen new ≡ record (seen old) {
      connections = closed_in conn o s.connections;
      present = unmarked o old.roster.present;
    } = cc in
    let state_is : state_in (ledger_of new) ≡ after_shut s conn =
    ap (λ j. state_after j new.shut.items) left.journal
    ∙ ap (state_after old.journal.items) left.shut
    ∙ leads (past_in (ledger_of old)) (event.Close conn) in
    record {
      of = subst (λ x. AreOf x (seen new)) (sym state_is)
          (subst (AreOf (after_shut s conn)) (sym seen_is)
          (AreOf-shut s (seen old) are.of conn o refl));
      before = subst (λ x. All (λ (y : ShutAt). y.n ≤ length new.journal.items) x) (sym left.shut)
          (subst (λ j. All (λ (y : ShutAt). y.n ≤ length j) shut_now) (sym left.journal)
          (All-push (λ (y : ShutAt). y.n ≤ length old.journal.items) old.shut.items
          (record { conn = conn; n = length old.journal.items }) are.before (omega arith)));
      bytes = left.bytes ∙ are.bytes ∙ sym (ap row_bytes left.journal);
      events = omega (arith, ap length left.journal, are.events);
      within = omega (arith, left.bytes, are.within);
      flags = ap length left.quiet ∙ are.flags
          ∙ sym (ap length left.connections
          ∙ length-closed conn (open_in old.roster.connections.items conn)
          old.roster.connections.items);
      frames = subst (λ x. AreMadeOf x (state_in (ledger_of new)).live) (sym left.frames)
          (subst (AreMadeOf old.live.frames) (sym (ap (λ x. x.live) state_is ∙ live-shut s conn o))
          are.frames);
    }
