-- When what is kept of a state is that of one.
use Rattle.std.proofs.Common.{◌≡◌, ℕ, ◌+◌, ◌-◌, ◌<◌, ◌≤◌, Bool, true, false, not, if◌then◌else◌}
use Rattle.std.proofs.Common.{is_some, List, [], ◌∷◌, ◌++◌, length, set, Option, None, Some, refl}
use Rattle.std.proofs.Common.{sym, ap, subst, ◌∙◌, ⊎_elim, arith, length-append}
use Rattle.std.specs.Prelude.{slice_index_or, slice_set}
use Rattle.std.specs.List.{slice_get}
use Rattle.std.specs.Option.{option_map_or}
use Rattle.std.proofs.lemmas.List.{length-map, get_or-set_same, get_or-set_other}
use Rattle.std.proofs.Math.ListN.{length-set}
use Rattle.std.proofs.lemmas.Bool.{cases_eq, false≢true}
use Rattle.dp_lists.proofs.Numbered.{number-found}
use Rattle.dp_msg_meta.specs.declared.message.Meta.TheVariants.{Join}
use Rattle.dp_messages.specs.declared.message.Entry.{Entry}
use Rattle.dp_acl.specs.LookBack.{lists}
use Rattle.dp_acl.specs.Table.{Kept, StandsFor}
use Rattle.dp_acl.specs.Opening.{last_join}
use Rattle.dp_epochs.specs.declared.connection.Connection.{Connection}
use Rattle.dp_epochs.specs.declared.connection.Place.{Place}
use Rattle.dp_epochs.specs.declared.event.Event.{Event}
use Rattle.dp_epochs.specs.declared.effect.Effect.{Effect}
use Rattle.dp_epochs.specs.declared.effect.Effect.TheVariants.{TakesUp, Joined, Left}
use Rattle.dp_epochs.specs.Effects.{made, live_after, connections_at, connections_after, IsJoin}
use Rattle.dp_epochs.specs.Effects.{IsEffect, EffectsAreMade}
use Rattle.dp_epochs.specs.Connections.{is_open}
use Rattle.dp_epochs.specs.State.{State, is_present, present_users, is_name, free_id, entry_of}
use Rattle.dp_epochs.specs.State.{epoch_of, after_event, acted, here, new_connection}
use Rattle.dp_epochs.specs.State.{open_connection, with_connection}
use Rattle.dp_epochs.proofs.OpenConnections.{open_is_found}
use Rattle.dp_history.specs.declared.item.HistoryItem.{HistoryItem}
use Rattle.dp_history.specs.Items.{join_of, entry_in}
use Rattle.dp_history.specs.Users.{mark, IsJoinedBy, AreJoined}
use Rattle.dp_history.proofs.Ranges.{lists-user, find_user-passes}
use Rattle.dp_commit.specs.declared.supply.Supply.{Supply}
use Rattle.dp_commit.specs.Sending.{IsResetIn, owner_after, next_place, parts_after, bytes_after}
use Rattle.dp_commit.specs.Sending.{PartSize}
use Rattle.dp_commit.specs.Marks.{is_holder, MarksHolders, marks_after, opens_after, closed_in}
use Rattle.dp_commit.specs.Marks.{unmarked}
use Rattle.dp_commit.specs.Placed.{own_items, IsSupply, items_after, epoch_with}
use Rattle.dp_commit.specs.Tables.{Seen, AreOf}
use Rattle.dp_commit.proofs.Holders.{any-marked, mark-set_same, mark-set_other, marks-adds}
use Rattle.dp_commit.proofs.Holders.{marks-becomes}
use Rattle.dp_commit.proofs.Journals.{stays_there, join-there, last_there}
use Rattle.dp_commit.proofs.PlacedLemmas.{items-kept, epoch-kept}
use Rattle.dp_commit.proofs.SendingLemmas.{reset-kept}
use Rattle.dp_commit.proofs.MarksLemmas.{connections-more}
use Rattle.dp_messages.specs.declared.message.Msg.TheVariants as msg
use Rattle.dp_epochs.specs.declared.event.Event.TheVariants as event
use Rattle.dp_epochs.specs.declared.connection.Ending.TheVariants as ending

-- ---- states

not_true : (b : Bool) → not b ≡ true → b ≡ false
not_true true h = cc
not_true false h = refl

-- who is present has joined last as before, and who joins by that
pub record JoinsStay (s : State) : Type 0 where
  pub present : (e : Event) (user : ℕ) → lists (present_users s) user ≡ true
      → last_join (after_event s e).live user ≡ last_join s.live user
  pub joined : (name : List ℕ) (registered : Bool) (user : ℕ) → is_name name ≡ true
      → free_id s ≡ Some user
      → last_join (after_event s (event.Open name registered)).live user
      ≡ Some (entry_of user (msg.Meta (Join registered name)))

module _ (s : State) (t : Seen) (are : AreOf s t) where
  -- who is present is marked
  pub present-marked : (user : ℕ) → user < 256 → is_present s user ≡ mark t.present user
  present-marked user small = any-marked (is_holder user) s.connections (mark t.present user)
      (are.marks user small)

  pub live-length : length t.live ≡ length s.live
  live-length = sym (length-map t.live (entry_in t.journal)) ∙ ap length are.entries

  abbrev standing : ℕ → ℕ → Place
  standing epoch index = record { epoch = epoch; index = index }

  -- where the next entry stands
  pub here-is : (epoch index : ℕ) → epoch ≡ t.epoch → index ≡ length t.live
      → ◌≡◌ {A = Place} (record { epoch = epoch; index = index }) (here s)
  here-is epoch index epoch_is index_is =
      ap (λ n. standing n index) (epoch_is ∙ are.epoch)
      ∙ ap (standing (epoch_of s)) (index_is ∙ live-length)

  length-marks : (effect : Effect) → length (marks_after effect t.present) ≡ 256
  length-marks (Joined user next) = simp length-set are.ids
  length-marks (Left conn c next) = simp length-set are.ids
  length-marks effect = are.ids

  length-opens : (n : ℕ) (effect : Effect) → length (opens_after n effect t.opens) ≡ 256
  length-opens n (Joined user next) = simp length-set are.slots
  length-opens n effect = are.slots

  -- a user who is marked is among the present ones
  marked-present : (user : ℕ) → 1 ≤ user → user ≤ 254 → mark t.present user ≡ true
      → lists (present_users s) user ≡ true
  marked-present user above below up =
      lists-user (is_present s) user above below
      ∙ present-marked user (omega arith) ∙ up

  -- who is marked while another is unmarked was marked before
  marked-before : (gone user : ℕ) → user < 256
      → mark (set t.present gone false) user ≡ true → mark t.present user ≡ true
  marked-before gone user small up =
      ⊎_elim (λ (same : gone ≡ user).
      let down : mark (set t.present gone false) user ≡ false =
      subst (λ u. mark (set t.present gone false) u ≡ false) same
      (mark-set_same t.present gone false (omega (arith, are.ids, same))) in
      absurd (false≢true (sym down ∙ up)))
      (λ (other : gone ≡ user → ⊥).
      sym (mark-set_other t.present gone user false other) ∙ up)
      (cases_eq gone user)

  joined-later : (more : List Event) (live : List Entry) (user event : ℕ)
      → last_join live user ≡ last_join s.live user
      → IsJoinedBy t.journal s.live user event
      → IsJoinedBy (t.journal ++ more) live user event
  joined-later more live user event same h =
      let e = stays_there t.journal more event
      (join-there user (slice_get t.journal event) h.some) in
      record {
        some = subst (λ o. is_some (join_of user o) ≡ true) (sym e) h.some;
        last = same ∙ h.last ∙ ap (join_of user) (sym e);
      }

  -- a connection that was found open ends: its user is marked no more
  pub ends-marked : (conn : ℕ) (c d : Connection) → open_connection s conn ≡ Some c
      → is_open d ≡ false → c.user ≡ d.user
      → MarksHolders (set t.present d.user false) (set s.connections (conn - 1) d)
  ends-marked conn c d found shut same =
      let f = open_is_found s.connections conn c found in
      marks-becomes t.present s.connections (conn - 1) c d false are.ids are.marks
      (number-found s.connections conn c f.0).1 shut (f.1, same)

  -- the marks are right after an event
  marks-kept : (e : Event) (effect : Effect) → IsEffect s e effect
      → MarksHolders (marks_after effect t.present) (connections_after s effect)
  marks-kept e (TakesUp conn c) cause =
      marks-becomes t.present s.connections (conn - 1) c (record c { acknowledged = epoch_of s })
      true are.ids are.marks (number-found s.connections conn c cause.0.at.given).1
      cause.0.at.running (cause.0.at.running, refl)
  marks-kept e (Joined user next) cause =
      let free = find_user-passes (λ id. not (is_present s id)) user cause.free in
      marks-adds t.present s.connections (new_connection s user) are.ids are.marks
      (refl, not_true (is_present s user) free.1)
  marks-kept e (Left conn c next) cause =
      ends-marked conn c (record c { ending = ending.Left (here s) }) cause.at.found refl refl
  marks-kept e effect cause = are.marks

  -- who was marked before has joined last as before
  joined-before : JoinsStay s → (e : Event) (user : ℕ) → 1 ≤ user → user ≤ 254
      → mark t.present user ≡ true
      → IsJoinedBy (t.journal ++ e ∷ []) (after_event s e).live user
      (slice_index_or t.opens user 0)
  joined-before laws e user above below up =
      joined-later (e ∷ []) (after_event s e).live user (slice_index_or t.opens user 0)
      (laws.present e user (marked-present user above below up))
      (are.joined user above below up)

  -- who joins has joined last by the event that is noted then
  joined-now : JoinsStay s → (e : Event) (user : ℕ) (next : Option ℕ) → IsJoin s e user next
      → IsJoinedBy (t.journal ++ e ∷ []) (after_event s e).live user (length t.journal)
  joined-now laws e user next new =
      let join = entry_of user (msg.Meta (Join new.registered new.name)) in
      let found : join_of user (slice_get (t.journal ++ e ∷ []) (length t.journal)) ≡ Some join
      =
      ap (join_of user) (last_there t.journal e ∙ ap Some new.came)
      ∙ ap (λ b. if b then Some join else None) new.named in
      record {
        some = ap is_some found;
        last = ap (λ x. last_join (after_event s x).live user) new.came
            ∙ laws.joined new.name new.registered user new.named new.free ∙ sym found;
      }

  -- who is marked after an event has joined last by the event that is noted then
  joined-kept : JoinsStay s → (e : Event) (effect : Effect) → IsEffect s e effect
      → AreJoined (t.journal ++ e ∷ []) (after_event s e).live (marks_after effect t.present)
      (opens_after (length t.journal) effect t.opens)
  joined-kept laws e (Joined newer next) cause user above below up =
      ⊎_elim (λ (same : newer ≡ user).
      subst (IsJoinedBy (t.journal ++ e ∷ []) (after_event s e).live user)
      (sym (ap (λ u. slice_index_or (slice_set t.opens u (length t.journal)) user 0) same
      ∙ get_or-set_same t.opens user (length t.journal) 0 (omega (arith, are.slots))))
      (joined-now laws e user next (subst (λ u. IsJoin s e u next) same cause)))
      (λ (other : newer ≡ user → ⊥).
      subst (IsJoinedBy (t.journal ++ e ∷ []) (after_event s e).live user)
      (sym (get_or-set_other t.opens newer user (length t.journal) 0 (λ same. other (sym same))))
      (joined-before laws e user above below
      (sym (mark-set_other t.present newer user true other) ∙ up)))
      (cases_eq newer user)
  joined-kept laws e (Left conn c next) cause user above below up =
      joined-before laws e user above below (marked-before c.user user (omega arith) up)
  joined-kept laws e effect cause user above below up =
      joined-before laws e user above below up

  -- the tables after an event that was kept
  pub AreOf-kept : JoinsStay s → EffectsAreMade → (e : Event) (effect : Effect) (supply : Supply)
      (after : Kept) (size : ℕ)
      → IsEffect s e effect → IsSupply t.journal s e effect supply
      → StandsFor after (live_after s e effect) → PartSize e size
      → AreOf (after_event s e) (record {
        journal = t.journal ++ e ∷ [];
        connections = connections_after s effect;
        epoch = epoch_with supply t.epoch;
        live = items_after (own_items (length t.journal) effect) supply t.live;
        rights = after;
        present = marks_after effect t.present;
        opens = opens_after (length t.journal) effect t.opens;
        owner = owner_after effect t.owner;
        place = next_place e effect t.place;
        parts = parts_after (length t.journal) effect t.owner t.parts;
        part_bytes = bytes_after size effect t.owner t.part_bytes;
      })
  AreOf-kept laws made_law e effect supply after size cause is stands size_of =
      let J : List Event = t.journal ++ e ∷ [] in
      let made_is : acted s e ≡ made s e effect = made_law s e effect cause in
      let kept = items-kept t.journal s e effect cause t.live supply is are.entries are.said in
      record {
        epoch = epoch-kept t.journal s e effect cause supply t.epoch is are.epoch
            ∙ sym (ap (λ a. length a.state.ended) made_is);
        reset = subst (λ o. IsResetIn o J (owner_after effect t.owner)
            (next_place e effect t.place) (parts_after (length t.journal) effect t.owner t.parts)
            (bytes_after size effect t.owner t.part_bytes))
            (sym (ap (λ a. a.state.stream) made_is))
            (reset-kept s t.journal t.owner t.place t.parts t.part_bytes are.reset e effect cause
            size size_of);
        table = sym (ap (λ a. a.state.connections) made_is);
        entries = kept.0 ∙ sym (ap (λ a. a.state.live) made_is);
        said = kept.1;
        stands = subst (StandsFor after) (sym (ap (λ a. a.state.live) made_is)) stands;
        ids = length-marks effect;
        marks = subst (MarksHolders (marks_after effect t.present))
            (sym (ap (λ a. a.state.connections) made_is)) (marks-kept e effect cause);
        slots = length-opens (length t.journal) effect;
        joined = joined-kept laws e effect cause;
        opened = omega (
          arith,
          ap (λ a. length a.state.connections) made_is,
          connections-more s effect,
          length-append t.journal (e ∷ []),
          are.opened,
        );
      }

  -- the tables after a connection, if it is open, was closed without a Leave
  pub AreOf-shut : (conn : ℕ) (o : Option Connection) → open_connection s conn ≡ o
      → AreOf (option_map_or (λ c. with_connection s conn (record c { ending = ending.Shut })) o s)
      (record t {
        connections = closed_in conn o s.connections;
        present = unmarked o t.present;
      })
  AreOf-shut conn None is = record {
    epoch = are.epoch;
    reset = are.reset;
    table = refl;
    entries = are.entries;
    said = are.said;
    stands = are.stands;
    ids = are.ids;
    marks = are.marks;
    slots = are.slots;
    joined = are.joined;
    opened = are.opened;
  }
  AreOf-shut conn (Some c) is =
      let d : Connection = record c { ending = ending.Shut } in
      record {
        epoch = are.epoch;
        reset = are.reset;
        table = refl;
        entries = are.entries;
        said = are.said;
        stands = are.stands;
        ids = simp length-set are.ids;
        marks = ends-marked conn c d is refl refl;
        slots = are.slots;
        joined = λ user above below up. are.joined user above below
            (marked-before c.user user (omega arith) up);
        opened = omega (arith, length-set s.connections (conn - 1) d, are.opened);
      }

-- what keeping the event, whose payload has this size, makes of what is kept of a state
pub record IsKept (s : State) (old : Seen) (e : Event) (effect : Effect) (supply : Supply)
    (size : ℕ) (new : Seen) : Type 0 where
  pub journal : new.journal ≡ old.journal ++ e ∷ []
  pub connections : new.connections ≡ connections_at (here s) old.connections effect
  pub epoch : new.epoch ≡ epoch_with supply old.epoch
  pub live : new.live ≡ items_after (own_items (length old.journal) effect) supply old.live
  pub stands : StandsFor new.rights (live_after s e effect)
  pub present : new.present ≡ marks_after effect old.present
  pub opens : new.opens ≡ opens_after (length old.journal) effect old.opens
  pub owner : new.owner ≡ owner_after effect old.owner
  pub place : new.place ≡ next_place e effect old.place
  pub parts : new.parts ≡ parts_after (length old.journal) effect old.owner old.parts
  pub part_bytes : new.part_bytes ≡ bytes_after size effect old.owner old.part_bytes

same-parts : (j k : List Event) (c d : List Connection) (e f : ℕ) (l m : List HistoryItem)
    (r : Kept) (p q : List Bool) (a b : List ℕ) (w x : Option ℕ) (y z : Option ℕ) (g h : List ℕ)
    (u v : ℕ) → j ≡ k → c ≡ d → e ≡ f → l ≡ m → p ≡ q → a ≡ b → w ≡ x → y ≡ z → g ≡ h → u ≡ v
    → ◌≡◌ {A = Seen} (record {
      journal = j;
      connections = c;
      epoch = e;
      live = l;
      rights = r;
      present = p;
      opens = a;
      owner = w;
      place = y;
      parts = g;
      part_bytes = u;
    }) (record {
      journal = k;
      connections = d;
      epoch = f;
      live = m;
      rights = r;
      present = q;
      opens = b;
      owner = x;
      place = z;
      parts = h;
      part_bytes = v;
    })
same-parts j k c d e f l m r p q a b w x y z g h u v journal connections epoch live present opens
    owner place parts bytes =
    rw (journal, connections, epoch, live, present, opens, owner, place, parts, bytes) refl

-- that is of the state after the event
pub state-kept : ((s : State) → JoinsStay s) → EffectsAreMade → (s : State) (old new : Seen)
    (e : Event) (effect : Effect) (supply : Supply) (size : ℕ) → AreOf s old
    → IsEffect s e effect → IsSupply old.journal s e effect supply → PartSize e size
    → IsKept s old e effect supply size new → AreOf (after_event s e) new
state-kept joins made_law s old new e effect supply size are does places size_of keeps =
    let table : connections_at (here s) old.connections effect ≡ connections_after s effect =
    ap (λ cs. connections_at (here s) cs effect) are.table in
    let connections : new.connections ≡ connections_after s effect = keeps.connections ∙ table in
    let after : Seen = record {
      journal = old.journal ++ e ∷ [];
      connections = connections_after s effect;
      epoch = epoch_with supply old.epoch;
      live = items_after (own_items (length old.journal) effect) supply old.live;
      rights = new.rights;
      present = marks_after effect old.present;
      opens = opens_after (length old.journal) effect old.opens;
      owner = owner_after effect old.owner;
      place = next_place e effect old.place;
      parts = parts_after (length old.journal) effect old.owner old.parts;
      part_bytes = bytes_after size effect old.owner old.part_bytes;
    }
    in
    let seen_is : new ≡ after =
    same-parts new.journal after.journal new.connections after.connections new.epoch after.epoch
    new.live after.live new.rights new.present after.present new.opens after.opens new.owner
    after.owner new.place after.place new.parts after.parts new.part_bytes after.part_bytes
    keeps.journal connections keeps.epoch keeps.live keeps.present keeps.opens keeps.owner
    keeps.place keeps.parts keeps.part_bytes in
    subst (AreOf (after_event s e)) (sym seen_is)
    (AreOf-kept s old are (joins s) made_law e effect supply new.rights size does places
    keeps.stands size_of)
