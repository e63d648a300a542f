-- What a step makes of the past.
use Rattle.std.proofs.Common.{◌≡◌, ◌⊎◌, ℕ, Bool, true, false, List, Option}
use Rattle.std.proofs.Common.{None, Some, Result, Ok, Err, MatchBool, MatchResult, MatchOption}
use Rattle.std.proofs.Common.{IsOk, IfOk, OnErr}
use Rattle.std.proofs.Common.{refl, sym, ap, subst, ◌∙◌, inl, inr}
use Rattle.std.specs.declared.alloc.AllocError.{AllocError}
use Rattle.dp_io.specs.Faults.{Rose}
use Rattle.dp_keeper.specs.declared.row.Row.{Row}
use Rattle.dp_keeper.specs.declared.keeper.KeepError.{KeepError}
use Rattle.dp_keeper.specs.declared.keeper.KeepError.TheVariants.{Failed, Memory}
use Rattle.dp_keeper.specs.Store.{with_row, Puts, Counts}
use Rattle.dp_epochs.specs.declared.event.Event.{Event}
use Rattle.dp_epochs.specs.declared.event.Event.TheVariants as event
use Rattle.dp_epochs.specs.declared.event.Reply.{Reply}
use Rattle.dp_epochs.specs.declared.event.Reply.TheVariants.{Ended, StoreFault}
use Rattle.dp_epochs.specs.Rows.{has_room}
use Rattle.dp_epochs.specs.Past.{Past, quiet_with, quieted, Accepts, FailsFirst, Refuses}
use Rattle.dp_epochs.specs.Past.{Serves}
use Rattle.dp_tables.specs.declared.ready.Ready.{Ready}
use Rattle.dp_tables.specs.SessionLog.{SessionLog, state_in}
use Rattle.dp_tables.specs.Ready.{IsReady}
use Rattle.dp_session.specs.Puts.{past_of, IsPut}

-- ---- memory that was made ready

-- what is ready stays so
pub ready-later : (l m : SessionLog) (b : Bool) (e : Event) (ready : Ready)
    → m ≡ record l { room = b }
    → IsReady l e ready → IsReady m e ready
ready-later l m b e ready same is =
    subst (λ x. IsReady x e ready) (sym same)
    (record {
      event = is.event;
      effect = is.effect;
      supply = is.supply;
      row = is.row;
      room = is.room;
    })

-- so is what became of a row
pub put-later : (l m n : SessionLog) (b : Bool) (e : Event) (r : Result Reply KeepError)
    → m ≡ record l { room = b } → IsPut m e r n → IsPut l e r n
put-later l m n b e (Ok reply) same put =
    let old = subst (λ x. IsPut x e (Ok reply) n) same put in (old.0, old.1)
put-later l m n b e (Err Failed) same put = subst (λ x. IsPut x e (Err Failed) n) same put
put-later l m n b e (Err Memory) same put = subst (λ x. IsPut x e (Err Memory) n) same put

-- what the store did, as it is answered
pub puts-follow : {T : Type 0} (a b : Option (List Row)) (row : Row) (o : Result T KeepError)
    (r : Result Reply KeepError)
    → MatchResult o (λ done. IsOk r) (λ error. r ≡ Err error) → Puts a row o b → Puts a row r b
puts-follow a b row (Ok done) (Ok reply) same puts = puts
puts-follow a b row (Ok done) (Err error) same puts = cc
puts-follow a b row (Err Failed) r same puts = subst (λ x. Puts a row x b) (sym same) puts
puts-follow a b row (Err Memory) r same puts = subst (λ x. Puts a row x b) (sym same) puts

-- how it counted
pub counts-follow : {T : Type 0} (a b : ℕ) (o : Result T KeepError) (r : Result Reply KeepError)
    → MatchResult o (λ done. IsOk r) (λ error. r ≡ Err error) → Counts a o b → Counts a r b
counts-follow a b (Ok done) (Ok reply) same counts = counts
counts-follow a b (Ok done) (Err error) same counts = cc
counts-follow a b (Err Failed) r same counts = subst (λ x. Counts a x b) (sym same) counts
counts-follow a b (Err Memory) r same counts = subst (λ x. Counts a x b) (sym same) counts

-- ---- what is known by the past itself

-- a fact holds of an error, too
pub on-err : {T E : Type 0} (r : Result T E) (P : Type 0) → P → OnErr r P
on-err (Ok x) P p = tt
on-err (Err e) P p = p

is-none : {X : Type 0} (o : Option X) → ((x : X) → o ≡ Some x → ⊥) → o ≡ None
is-none None not = refl
is-none (Some x) not = absurd (not x refl)

-- a fact for no value
pub none-of : {X : Type 0} (o : Option X) (A : Type 0) (B : X → Type 0) → ((x : X) → o ≡ Some x → ⊥)
    → MatchOption o A B → A
none-of None A B not h = h
none-of (Some x) A B not h = absurd (not x refl)

-- a fault stays
pub past-broken : (P new : Past) (e : Event) (r : Result Reply AllocError) (first : ℕ)
    → P.first_fault ≡ Some first → IfOk r (λ given. Refuses P e (StoreFault first) given new)
    → IfOk r (λ given. Serves P.first_fault P e given new)
past-broken P new e (Err want) first is h = h
past-broken P new e (Ok given) first is h = subst (λ b. Serves b P e given new) (sym is) h

module _ (P : Past) (l : SessionLog) (e : Event) (first_fault : Option ℕ)
    (known : Option (List Row))
    (count reads : ℕ) (past : past_of l first_fault known count reads ≡ P)
    (not : (x : ℕ) → first_fault ≡ Some x → ⊥) where
  no_fault : P.first_fault ≡ None
  no_fault = ap (λ p. p.first_fault) (sym past) ∙ is-none first_fault not

  -- if there is room, an event is kept, or a put fails first
  room-serves : (answer : Reply) (new : Past) → has_room l.journal e ≡ true
      → Accepts P e answer new ⊎ FailsFirst P e answer new → Serves P.first_fault P e answer new
  room-serves answer new room h =
      subst (λ b. Serves b P e answer new) (sym no_fault)
      (subst (λ b. MatchBool b (Accepts P e answer new ⊎ FailsFirst P e answer new)
      (Refuses P e Ended answer new))
      (sym (ap (λ p. has_room p.journal e) (sym past) ∙ room)) h)

  -- the session has ended
  pub past-ended : (new : Past) (r : Result Reply AllocError) → has_room l.journal e ≡ false
      → IfOk r (λ given. Refuses P e Ended given new)
      → IfOk r (λ given. Serves P.first_fault P e given new)
  past-ended new (Err want) room h = h
  past-ended new (Ok given) room h =
      subst (λ b. Serves b P e given new) (sym no_fault)
      (subst (λ b. MatchBool b (Accepts P e given new ⊎ FailsFirst P e given new)
      (Refuses P e Ended given new))
      (sym (ap (λ p. has_room p.journal e) (sym past) ∙ room)) h)

  module _ (n : SessionLog) (later : Option (List Row)) (now reads_now : ℕ) (ready : Ready)
      (is : IsReady l e ready) where
    -- an event that was kept
    pub past-kept : (reply : Reply) → IsPut l e (Ok reply) n → later ≡ with_row ready.row known
        → now ≡ count → reads_now ≡ reads
        → Serves P.first_fault P e reply (past_of n first_fault later now reads_now)
    past-kept reply put rows counts others =
        room-serves reply (past_of n first_fault later now reads_now) is.room
        (subst (λ p. Accepts p e reply (past_of n first_fault later now reads_now)
        ⊎ FailsFirst p e reply (past_of n first_fault later now reads_now)) past
        (inl (record { reply = put.1; after = rw (put.0, rows, is.row, counts, others) refl })))

    -- the first fault
    pub past-failed : (first : ℕ) → IsPut l e (Err Failed) n
        → (later ≡ known) ⊎ (later ≡ with_row ready.row known) → Rose count now
        → reads_now ≡ reads → first ≡ now
        → Serves P.first_fault P e (StoreFault first) (past_of n (Some first) later now reads_now)
    past-failed first out rows rose others first_is =
        room-serves (StoreFault first) (past_of n (Some first) later now reads_now) is.room
        (subst (λ p. Accepts p e (StoreFault first) (past_of n (Some first) later now reads_now)
        ⊎ FailsFirst p e (StoreFault first) (past_of n (Some first) later now reads_now)) past
        (inr (record {
          count = now;
          known = later;
          rose = rose;
          rows = subst (λ x. (later ≡ known) ⊎ (later ≡ with_row x known)) is.row rows;
          reply = ap StoreFault first_is;
          after = rw (out, others, first_is) refl;
        })))

-- memory ran out in the store
pub past-undone : (P : Past) (l n : SessionLog) (e : Event) (first_fault : Option ℕ)
    (known later : Option (List Row)) (count now reads reads_now : ℕ)
    → past_of l first_fault known count reads ≡ P → IsPut l e (Err Memory) n → later ≡ known
    → now ≡ count → reads_now ≡ reads → past_of n first_fault later now reads_now ≡ P
past-undone P l n e first_fault known later count now reads reads_now past undone rows counts
    others =
    rw (undone, rows, counts, others) past

-- ---- memory ran out

-- the connection of a Close is quiet then
pub quieted-is : (P : Past) (l n : SessionLog) (b : Bool) (e : Event) (conn : ℕ)
    (first_fault : Option ℕ) (known : Option (List Row)) (count reads : ℕ)
    → past_of l first_fault known count reads ≡ P → e ≡ event.Close conn
    → n ≡ record l { quiet = quiet_with (state_in l) conn l.quiet; room = b }
    → past_of n first_fault known count reads ≡ quieted P e
quieted-is P l n b e conn first_fault known count reads past is now = rw (is, now, ← past) refl

-- nothing changes by another event
pub quieted-other : (P : Past) (e : Event) → ((conn : ℕ) → e ≡ event.Close conn → ⊥)
    → P ≡ quieted P e
quieted-other P (event.Open name registered) not = refl
quieted-other P (event.Say conn m) not = refl
quieted-other P (event.Close conn) not = absurd (not conn refl)
