-- What lifted events do to a lifted state is what the events do to the state, lifted.
use Rattle.std.proofs.Common.{◌≡◌, ℕ, ◌+◌, ◌==◌, ◌&&◌, not, Bool, true, false}
use Rattle.std.proofs.Common.{if◌then◌else◌, List, [], ◌∷◌, ◌++◌, length, map, fold, Option, None}
use Rattle.std.proofs.Common.{Some, is_some, nat_le, refl, sym, ap, ap₂, ◌∙◌}
use Rattle.std.specs.List.{filter, find, list_any}
use Rattle.std.specs.Option.{option_map_or}
use Rattle.std.proofs.lemmas.List.{length-map, map-append}
use Rattle.dp_msg_meta.specs.declared.message.Control.TheVariants as control
use Rattle.dp_msg_meta.specs.declared.message.Meta.TheVariants.{Leave}
use Rattle.dp_messages.specs.declared.message.Msg.{Msg}
use Rattle.dp_messages.specs.declared.message.Msg.TheVariants as msg
use Rattle.dp_messages.specs.declared.message.Entry.{Entry}
use Rattle.dp_messages.specs.Messages.{lifted_kind}
use Rattle.dp_acl.specs.Rights.{is_operator}
use Rattle.dp_epochs.specs.declared.connection.Connection.{Connection}
use Rattle.dp_epochs.specs.declared.connection.Ending.TheVariants as ending
use Rattle.dp_epochs.specs.declared.decision.Decision.{Decision}
use Rattle.dp_epochs.specs.declared.decision.Decision.TheVariants as decision
use Rattle.dp_epochs.specs.declared.event.Event.{Event}
use Rattle.dp_epochs.specs.declared.event.Event.TheVariants as event
use Rattle.dp_epochs.specs.declared.event.Reply.TheVariants as reply
use Rattle.dp_epochs.specs.declared.event.ShutAt.{ShutAt}
use Rattle.dp_epochs.specs.State.{State, Acted, stays, acted, after_event, after_shut, placed, here}
use Rattle.dp_epochs.specs.State.{epoch_of, open_connection, has_acknowledged, with_connection}
use Rattle.dp_epochs.specs.State.{is_present, present_users, user_ids, is_name, free_id}
use Rattle.dp_epochs.specs.State.{next_owner, owner_on_join, owner_on_leave, join_entries, joined}
use Rattle.dp_epochs.specs.State.{opened_as}
use Rattle.dp_epochs.specs.State.{left, closed_by, reset_of, commands_by, part_decided, heard}
use Rattle.dp_epochs.specs.State.{entry_of, filtered_entry, may_begin, judged}
use Rattle.dp_epochs.specs.State.{decided, acted_by, says_by, first_state, noted}
use Rattle.dp_epochs.specs.State.{sent_commands, kept_by}
use Rattle.dp_epochs.specs.Past.{LogItem, Journalled, RefusedClose, shut_at, interleaved}
use Rattle.dp_epochs.specs.Past.{after_item, state_after}
use Rattle.dp_lifting_laws.specs.Lifted.{lifted_message, lifted_entry, lifted_event, lifted_state}
use Rattle.dp_lifting_laws.proofs.LiftedRights.{lifted_entries, operators-lifted, permitted-lifted}
use Rattle.dp_lifting_laws.proofs.LiftedRights.{opening-lifted, kept-lifted}

abbrev lifted_acted : Acted → Acted
lifted_acted a = record { state = lifted_state a.state; reply = a.reply }

placed-lifted : (s : State) (entries : List Entry)
    → placed (lifted_state s) (lifted_entries entries) ≡ lifted_state (placed s entries)
placed-lifted s entries =
    ap (λ es. record (lifted_state s) { live = es }) (sym (map-append lifted_entry s.live entries))

module _ (s : State) where
  epoch : epoch_of (lifted_state s) ≡ epoch_of s
  epoch = length-map s.ended lifted_entries

  place : length (lifted_entries s.live) ≡ length s.live
  place = length-map s.live lifted_entry

  here-lifted : here (lifted_state s) ≡ here s
  here-lifted = ap₂ (λ (n i : ℕ). record { epoch = n; index = i }) epoch place

  -- ---- Open

  next_owner-lifted : (next : Option ℕ) → lifted_entries (next_owner next) ≡ next_owner next
  next_owner-lifted None = refl
  next_owner-lifted (Some user) = refl

  joined-lifted : (user : ℕ) (registered : Bool) (name : List ℕ)
      → joined (lifted_state s) user registered name ≡ lifted_state (joined s user registered name)
  joined-lifted user registered name =
      let owner = next_owner-lifted (owner_on_join s user) in
      cc (epoch, place, owner, map-append lifted_entry s.live (join_entries s user registered name))

  opened-lifted : (registered : Bool) (name : List ℕ) (named : Bool) (free : Option ℕ)
      → (if named then opened_as (lifted_state s) registered name free
      else stays (lifted_state s) reply.NameRefused)
      ≡ lifted_acted (if named then opened_as s registered name free
      else stays s reply.NameRefused)
  opened-lifted registered name false free = refl
  opened-lifted registered name true None = refl
  opened-lifted registered name true (Some user) =
      cc (epoch, place, joined-lifted user registered name)

  -- ---- Close

  left-lifted : (conn : ℕ) (c : Connection)
      → left (lifted_state s) conn c ≡ lifted_state (left s conn c)
  left-lifted conn c =
      cc (here-lifted, map-append lifted_entry s.live (entry_of c.user (msg.Meta Leave) ∷ []))

  closed_by-lifted : (conn : ℕ) (c : Connection)
      → closed_by (lifted_state s) conn c ≡ lifted_acted (closed_by s conn c)
  closed_by-lifted conn c =
      let gone = left s conn c in
      let next = owner_on_leave (is_operator s.live c.user) gone in
      ap (λ t. record {
        state = placed t (next_owner (owner_on_leave (is_operator (lifted_entries s.live) c.user)
            t));
        reply = reply.Placed (epoch_of (lifted_state s)) (length (lifted_entries s.live));
      }) (left-lifted conn c)
      ∙ ap₂ (λ (p q : ℕ → Bool). record {
        state = placed (lifted_state gone) (next_owner
            (if p c.user && not (list_any q (present_users gone))
            then find (is_present gone) user_ids else None));
        reply = reply.Placed (epoch_of (lifted_state s)) (length (lifted_entries s.live));
      }) (operators-lifted s.live) (operators-lifted gone.live)
      ∙ ap (λ es. record {
        state = placed (lifted_state gone) es;
        reply = reply.Placed (epoch_of (lifted_state s)) (length (lifted_entries s.live));
      }) (sym (next_owner-lifted next))
      ∙ ap (λ t. record {
        state = t;
        reply = reply.Placed (epoch_of (lifted_state s)) (length (lifted_entries s.live));
      }) (placed-lifted gone (next_owner next))
      ∙ ap₂ (λ (n i : ℕ). record {
        state = lifted_state (placed gone (next_owner next));
        reply = reply.Placed n i;
      }) epoch place

  closed-lifted : (conn : ℕ) (o : Option Connection)
      → option_map_or (closed_by (lifted_state s) conn) o (stays (lifted_state s) reply.Ignored)
      ≡ lifted_acted (option_map_or (closed_by s conn) o (stays s reply.Ignored))
  closed-lifted conn None = refl
  closed-lifted conn (Some c) = closed_by-lifted conn c

  -- ---- Say

  reset-lifted : (conn : ℕ) (c : Connection)
      → reset_of (lifted_state s) conn c ≡ reset_of s conn c
  reset-lifted conn c =
      ap (λ (p : ℕ → Bool). if p c.user then commands_by conn s.stream else None)
      (operators-lifted s.live)

  may_begin-lifted : (conn : ℕ) (c : Connection)
      → may_begin (lifted_state s) conn c ≡ may_begin s conn c
  may_begin-lifted conn c =
      ap (λ (p : ℕ → Bool). p c.user && not (option_map_or (λ stream.
      not (stream.owner == conn)
      && option_map_or (λ owner. p owner.user) (open_connection s stream.owner) false)
      s.stream false)) (operators-lifted s.live)

  judged-lifted : (c : Connection) (m : Msg) → judged (lifted_state s) c m ≡ judged s c m
  judged-lifted c m =
      ap (λ b. if b then decision.Place else decision.Filter) (permitted-lifted s.live c.user m)

  heard-lifted : (conn : ℕ) (c : Connection) (m : Msg)
      → heard (lifted_state s) conn c m ≡ heard s conn c m
  heard-lifted conn c (msg.Control control.ResetBegin) =
      ap (λ b. if b then decision.BeginReset else decision.Filter) (may_begin-lifted conn c)
  heard-lifted conn c (msg.Control control.ResetEnd) =
      ap (λ o. if is_some o then decision.OpenEpoch else decision.Filter) (reset-lifted conn c)
  heard-lifted conn c (msg.Control (control.ResetFrom at)) =
      ap₂ (λ (b : Bool) (n : ℕ). if b && nat_le at n then decision.BeginReset else decision.Filter)
      (may_begin-lifted conn c) (length-map s.live lifted_entry)
  heard-lifted conn c (msg.Part command) = ap (part_decided command) (reset-lifted conn c)
  heard-lifted conn c m = judged-lifted c m

  decided-lifted : (conn : ℕ) (c : Connection) (m : Msg)
      → decided (lifted_state s) conn c m ≡ decided s conn c m
  decided-lifted conn c (msg.Control (control.Ping pong)) = refl
  decided-lifted conn c (msg.Control (control.Disconnect reason)) = refl
  decided-lifted conn c (msg.Control (control.Ack number)) =
      ap (λ n. if number == n && not (c.acknowledged == n) then decision.Acknowledge
      else decision.Ignore) epoch
  decided-lifted conn c m =
      ap₂ (λ (n : ℕ) (d : Decision). if c.acknowledged == n then d else decision.Ignore) epoch
      (heard-lifted conn c m)

  -- a message that isn't changed is placed, or an entry in its place
  one_more-lifted : (user : ℕ) (m : Msg) → lifted_message m ≡ m
      → placed (lifted_state s) (entry_of user m ∷ [])
      ≡ lifted_state (placed s (entry_of user m ∷ []))
  one_more-lifted user m same =
      ap (λ n. placed (lifted_state s) (entry_of user n ∷ [])) (sym same)
      ∙ placed-lifted s (entry_of user m ∷ [])

  acted_by-lifted : (conn : ℕ) (c : Connection) (m : Msg) (d : Decision) → lifted_message m ≡ m
      → acted_by (lifted_state s) conn c m d ≡ lifted_acted (acted_by s conn c m d)
  acted_by-lifted conn c m decision.Ignore same = refl
  acted_by-lifted conn c m decision.Acknowledge same = cc (epoch)
  acted_by-lifted conn c m decision.Place same =
      cc (epoch, place, one_more-lifted c.user m same)
  acted_by-lifted conn c m decision.Filter same =
      cc (epoch, place, placed-lifted s (filtered_entry c.user m ∷ []))
  acted_by-lifted conn c m decision.BeginReset same = refl
  acted_by-lifted conn c m decision.AddPart same = refl
  acted_by-lifted conn c m decision.DropReset same =
      let dropped = record s { stream = None } in
      cc (epoch, place, placed-lifted dropped (filtered_entry c.user m ∷ []))
  acted_by-lifted conn c m decision.OpenEpoch same =
      cc (
        epoch,
        opening-lifted (epoch_of s + 1) s.live (present_users s) (sent_commands s.stream)
            (kept_by s.stream s.live),
        kept-lifted s.stream s.live,
        map-append lifted_entries s.ended (s.live ∷ []),
      )

  opaque-lifted : (conn : ℕ) (c : Connection) (kind : ℕ) (body : List ℕ) (ready : Bool)
      → acted_by (lifted_state s) conn c (msg.Opaque (lifted_kind kind) body)
      (if ready then decision.Place else decision.Ignore)
      ≡ lifted_acted (acted_by s conn c (msg.Opaque kind body)
      (if ready then decision.Place else decision.Ignore))
  opaque-lifted conn c kind body true =
      cc (epoch, place, placed-lifted s (entry_of c.user (msg.Opaque kind body) ∷ []))
  opaque-lifted conn c kind body false = refl

  says_by-lifted : (conn : ℕ) (m : Msg) (c : Connection)
      → says_by (lifted_state s) conn (lifted_message m) c ≡ lifted_acted (says_by s conn m c)
  says_by-lifted conn (msg.Opaque kind body) c =
      ap (λ n. acted_by (lifted_state s) conn c (msg.Opaque (lifted_kind kind) body)
      (if c.acknowledged == n then decision.Place else decision.Ignore)) epoch
      ∙ opaque-lifted conn c kind body (has_acknowledged s c)
  says_by-lifted conn m c =
      ap (acted_by (lifted_state s) conn c m) (decided-lifted conn c m)
      ∙ acted_by-lifted conn c m (decided s conn c m) refl

  says-lifted : (conn : ℕ) (m : Msg) (o : Option Connection)
      → option_map_or (says_by (lifted_state s) conn (lifted_message m)) o
      (stays (lifted_state s) reply.Ignored)
      ≡ lifted_acted (option_map_or (says_by s conn m) o (stays s reply.Ignored))
  says-lifted conn m None = refl
  says-lifted conn m (Some c) = says_by-lifted conn m c

  -- ---- all events

  acted-lifted : (e : Event) → acted (lifted_state s) (lifted_event e) ≡ lifted_acted (acted s e)
  acted-lifted (event.Open name registered) =
      opened-lifted registered name (is_name name) (free_id s)
  acted-lifted (event.Say conn m) = says-lifted conn m (open_connection s conn)
  acted-lifted (event.Close conn) = closed-lifted conn (open_connection s conn)

  pub after-lifted : (e : Event)
      → after_event (lifted_state s) (lifted_event e) ≡ lifted_state (after_event s e)
  after-lifted e = ap (noted (lifted_state s)) (acted-lifted e)

  shut-lifted : (conn : ℕ) (o : Option Connection)
      → option_map_or (λ c. with_connection (lifted_state s) conn (record c
      { ending = ending.Shut })) o (lifted_state s)
      ≡ lifted_state (option_map_or (λ c. with_connection s conn (record c
      { ending = ending.Shut })) o s)
  shut-lifted conn None = refl
  shut-lifted conn (Some c) = refl

-- ---- all that came

abbrev lifted_item : LogItem → LogItem
lifted_item (Journalled e) = Journalled (lifted_event e)
lifted_item (RefusedClose conn) = RefusedClose conn

closes-lifted : (shut : List ShutAt)
    → map (λ s. RefusedClose s.conn) shut ≡ map lifted_item (map (λ s. RefusedClose s.conn) shut)
closes-lifted [] = refl
closes-lifted (s ∷ shut) = ap (λ items. RefusedClose s.conn ∷ items) (closes-lifted shut)

items-lifted : (n : ℕ) (journal : List Event) (shut : List ShutAt)
    → interleaved n (map lifted_event journal) shut ≡ map lifted_item (interleaved n journal shut)
items-lifted n [] shut = closes-lifted (filter (λ s. s.n == n) shut)
items-lifted n (e ∷ journal) shut =
    ap₂ (λ (closes items : List LogItem). closes ++ (Journalled (lifted_event e) ∷ items))
    (closes-lifted (filter (λ s. s.n == n) shut)) (items-lifted (n + 1) journal shut)
    ∙ sym (map-append lifted_item (shut_at n shut)
    (Journalled e ∷ interleaved (n + 1) journal shut))

run-lifted : (s : State) (items : List LogItem)
    → fold after_item (lifted_state s) (map lifted_item items)
    ≡ lifted_state (fold after_item s items)
run-lifted s [] = refl
run-lifted s (Journalled e ∷ items) =
    ap (λ t. fold after_item t (map lifted_item items)) (after-lifted s e)
    ∙ run-lifted (after_event s e) items
run-lifted s (RefusedClose conn ∷ items) =
    ap (λ t. fold after_item t (map lifted_item items))
    (shut-lifted s conn (open_connection s conn))
    ∙ run-lifted (after_shut s conn) items

-- lifted events lead to the state to which the events lead, lifted
pub state-lifted : (journal : List Event) (shut : List ShutAt)
    → state_after (map lifted_event journal) shut ≡ lifted_state (state_after journal shut)
state-lifted journal shut =
    ap (fold after_item first_state) (items-lifted 0 journal shut)
    ∙ run-lifted first_state (interleaved 0 journal shut)
