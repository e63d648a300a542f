-- What the acts of a link say of memory and of the store.
use Rattle.std.proofs.Common.{◌≡◌, ◌⊎◌, ℕ, ◌||◌, Bool, true, false, List, [], ◌∷◌, ◌++◌}
use Rattle.std.proofs.Common.{Option, Ok, Err, refl, sym, ap, subst, ◌∙◌, inl}
use Rattle.std.proofs.Common.{inr, IsErr, ⊎_elim}
use Rattle.std.proofs.Math.Bool.{or-false}
use Rattle.std.proofs.lemmas.Bool.{false≢true}
use Rattle.std.proofs.lemmas.List.Folds.{list_any-append}
use Rattle.dp_split.specs.Stream.{Stream}
use Rattle.dp_messages.specs.declared.message.Msg.{Msg}
use Rattle.dp_epochs.specs.declared.event.Reply.{Reply}
use Rattle.dp_epochs.specs.declared.event.Reply.TheVariants as reply
use Rattle.dp_link.specs.declared.ends.GreetEnd.{GreetEnd}
use Rattle.dp_link.specs.declared.ends.GreetEnd.TheVariants as greet
use Rattle.dp_link.specs.declared.ends.UpEnd.{UpEnd}
use Rattle.dp_link.specs.declared.ends.UpEnd.TheVariants as up
use Rattle.dp_link.specs.Acts.{last_outcome}
use Rattle.dp_session_laws.specs.Logs.{ReplyOrMemory, LogEntry}
use Rattle.dp_link.specs.Hello.{GreetsBy}
use Rattle.dp_link.specs.Saying.{AreSays, AreSaid, AreSaidTo, SaidBy, MayGoOn}
use Rattle.dp_link_run.specs.Links.{is_failed, is_store_fault, has_failed, has_store_fault}
use Rattle.dp_link_run.specs.Links.{is_up_memory}
use Rattle.dp_link_run.specs.Talking.{is_store_end, is_last_failed, is_last_store_fault}

-- neither memory nor the store failed
record Fine (acts : List LogEntry) : Type 0 where
  pub memory : has_failed acts ≡ false
  pub store : has_store_fault acts ≡ false

fine-none : Fine []
fine-none = record { memory = refl; store = refl }

fine-then : (act : LogEntry) (acts : List LogEntry) → is_failed act.outcome ≡ false
    → is_store_fault act.outcome ≡ false → Fine acts → Fine (act ∷ acts)
fine-then act acts memory store h = record {
  memory = ap (λ b. b || has_failed acts) memory ∙ h.memory;
  store = ap (λ b. b || has_store_fault acts) store ∙ h.store;
}

goes-on-fine : (outcome : ReplyOrMemory) → MayGoOn outcome
    → (is_failed outcome ≡ false) × (is_store_fault outcome ≡ false)
goes-on-fine (Ok reply.Ended) h = (refl, refl)
goes-on-fine (Ok (reply.StoreFault count)) h = absurd (true-no h)
  where
    true-no : true ≡ false → ⊥
    true-no e = cc (e)
goes-on-fine (Ok reply.Full) h = (refl, refl)
goes-on-fine (Ok reply.NameRefused) h = (refl, refl)
goes-on-fine (Ok (reply.Opened conn user epoch at)) h = (refl, refl)
goes-on-fine (Ok (reply.Placed epoch at)) h = (refl, refl)
goes-on-fine (Ok (reply.Filtered epoch at)) h = (refl, refl)
goes-on-fine (Ok reply.Noted) h = (refl, refl)
goes-on-fine (Ok reply.Ignored) h = (refl, refl)
goes-on-fine (Err error) h = absurd h

said-fine : (conn : ℕ) (messages : List Msg) (acts : List LogEntry) → AreSaid conn messages acts
    → Fine acts
said-fine conn [] [] h = fine-none
said-fine conn [] (act ∷ acts) h = absurd h
said-fine conn (m ∷ messages) [] h = absurd h
said-fine conn (m ∷ messages) (act ∷ acts) h =
    let fine = goes-on-fine act.outcome h.0.may_go_on in
    fine-then act acts fine.0 fine.1 (said-fine conn messages acts h.1)

-- the flags of acts and one more
one-more : (before : List LogEntry) (act : LogEntry) → Fine before
    → (has_failed (before ++ act ∷ []) ≡ is_failed act.outcome)
    × (has_store_fault (before ++ act ∷ []) ≡ is_store_fault act.outcome)
one-more before act h = (
  list_any-append (λ (a : LogEntry). is_failed a.outcome) before (act ∷ [])
      ∙ ap (λ b. b || (is_failed act.outcome || false)) h.memory
      ∙ or-false (is_failed act.outcome),
  list_any-append (λ (a : LogEntry). is_store_fault a.outcome) before (act ∷ [])
      ∙ ap (λ b. b || (is_store_fault act.outcome || false)) h.store
      ∙ or-false (is_store_fault act.outcome),
)

-- ---- what is said

-- the flags of the Says of a link, by its end
record SaidFlags (end : UpEnd) (acts : List LogEntry) : Type 0 where
  pub memory : (is_up_memory end ≡ true) ⊎ (has_failed acts ≡ false)
  pub store : has_store_fault acts ≡ is_store_end end

fine-flags : (end : UpEnd) (acts : List LogEntry) → is_store_end end ≡ false → Fine acts
    → SaidFlags end acts
fine-flags end acts none h = record { memory = inr h.memory; store = h.store ∙ sym none }

-- an answer that stops a link is the store's fault exactly if its end says so
stop-store : (answer : Reply) → is_store_fault (Ok answer) ≡ is_store_end (up.Refused answer)
stop-store reply.Ended = refl
stop-store (reply.StoreFault count) = refl
stop-store reply.Full = refl
stop-store reply.NameRefused = refl
stop-store (reply.Opened conn user epoch at) = refl
stop-store (reply.Placed epoch at) = refl
stop-store (reply.Filtered epoch at) = refl
stop-store reply.Noted = refl
stop-store reply.Ignored = refl

-- the flags of Says of which the last one ended the link
last-flags : (P : Msg → ReplyOrMemory → Type 0) (conn : ℕ) (messages : List Msg)
    (acts : List LogEntry)
    → (h : AreSaidTo P conn messages acts)
    → (has_failed acts ≡ is_failed h.act.outcome)
    × (has_store_fault acts ≡ is_store_fault h.act.outcome)
last-flags P conn messages acts h =
    let more = one-more h.before h.act (said-fine conn h.earlier h.before h.said) in
    (ap has_failed h.acts_are ∙ more.0, ap has_store_fault h.acts_are ∙ more.1)

err-store : (outcome : ReplyOrMemory) → IsErr outcome → is_store_fault outcome ≡ false
err-store (Ok answer) h = absurd (false≢true h)
err-store (Err error) h = refl

said-flags : (end : UpEnd) (conn : ℕ) (messages : List Msg) (acts : List LogEntry)
    → SaidBy end conn messages acts → SaidFlags end acts
said-flags up.Left conn messages acts h =
    let flags = last-flags _ conn messages acts h in
    let fine = goes-on-fine h.act.outcome h.meets.1 in
    record { memory = inr (flags.0 ∙ fine.0); store = flags.1 ∙ fine.1 }
said-flags (up.Refused answer) conn messages acts h =
    let flags = last-flags _ conn messages acts h in
    record {
      memory = inr (flags.0 ∙ ap is_failed h.meets.0);
      store = flags.1 ∙ ap is_store_fault h.meets.0 ∙ stop-store answer;
    }
said-flags up.Memory conn messages acts (inl h) =
    fine-flags up.Memory acts refl (said-fine conn messages acts h)
said-flags up.Memory conn messages acts (inr h) =
    let flags = last-flags _ conn messages acts h in
    record { memory = inl refl; store = flags.1 ∙ err-store h.act.outcome h.meets }
said-flags up.End conn messages acts h =
    fine-flags up.End acts refl (said-fine conn messages acts h)
said-flags up.ReadFault conn messages acts h =
    fine-flags up.ReadFault acts refl (said-fine conn messages acts h)
said-flags (up.BadMessage at) conn messages acts h =
    fine-flags (up.BadMessage at) acts refl (said-fine conn messages acts h)
said-flags up.Long conn messages acts h =
    fine-flags up.Long acts refl (said-fine conn messages acts h)
said-flags (up.NotGreeted end) conn messages acts h = absurd h

-- a flag that a Memory end raises already, or that the Says don't raise
or-close : (u d f c : Bool) → (u ≡ true) ⊎ (f ≡ false) → u || d || (f || c) ≡ u || d || c
or-close true d f c h = refl
or-close false true f c h = refl
or-close false false f c (inl raised) = cc (raised)
or-close false false f c (inr low) = ap (λ b. b || c) low

-- the flags of the Says and of the Close
pub says-flags : (left unread : Option (List ℕ)) (stream : Stream) (conn : ℕ) (end : UpEnd)
    (close : ReplyOrMemory) (acts : List LogEntry) → AreSays left unread stream conn end close acts
    → ((down : Bool)
    → is_up_memory end || down || has_failed acts ≡ is_up_memory end || down || is_failed close)
    × (has_store_fault acts ≡ is_store_end end || is_store_fault close)
says-flags left unread stream conn end close acts h =
    let flags = said-flags end conn h.messages h.says h.said in
    let failed : has_failed acts ≡ has_failed h.says || is_failed close =
    ap has_failed h.acts_are
    ∙ list_any-append (λ (a : LogEntry). is_failed a.outcome) h.says (h.close ∷ [])
    ∙ ap (λ b. has_failed h.says || b) (or-false (is_failed h.close.outcome))
    ∙ ap (λ o. has_failed h.says || is_failed o) h.closes.outcome_is in
    let store : has_store_fault acts ≡ has_store_fault h.says || is_store_fault close =
    ap has_store_fault h.acts_are
    ∙ list_any-append (λ (a : LogEntry). is_store_fault a.outcome) h.says (h.close ∷ [])
    ∙ ap (λ b. has_store_fault h.says || b) (or-false (is_store_fault h.close.outcome))
    ∙ ap (λ o. has_store_fault h.says || is_store_fault o) h.closes.outcome_is in (
      λ down. ap (λ b. is_up_memory end || down || b) failed
          ∙ or-close (is_up_memory end) down (has_failed h.says) (is_failed close) flags.memory,
      store ∙ ap (λ b. b || is_store_fault close) flags.store,
    )

-- ---- greeting

-- the flags of acts are those of the last one
pub record LastFlags (acts : List LogEntry) : Type 0 where
  pub memory : has_failed acts ≡ is_last_failed (last_outcome acts)
  pub store : has_store_fault acts ≡ is_last_store_fault (last_outcome acts)

last-none : LastFlags []
last-none = record { memory = refl; store = refl }

last-one : (act : LogEntry) → LastFlags (act ∷ [])
last-one act = record {
  memory = or-false (is_failed act.outcome);
  store = or-false (is_store_fault act.outcome);
}

last-two : (act close : LogEntry) → is_failed act.outcome ≡ false
    → is_store_fault act.outcome ≡ false → LastFlags (act ∷ close ∷ [])
last-two act close memory store = record {
  memory =
      ap (λ b. b || (is_failed close.outcome || false)) memory
      ∙ or-false (is_failed close.outcome);
  store =
      ap (λ b. b || (is_store_fault close.outcome || false)) store
      ∙ or-false (is_store_fault close.outcome);
}

these : (acts list : List LogEntry) → acts ≡ list → LastFlags list → LastFlags acts
these acts list is h = subst LastFlags (sym is) h

pub greet-flags : (end : GreetEnd) (read : List ℕ) (stream : Stream) (acts : List LogEntry)
    (held taken : Option (List ℕ)) → GreetsBy (Err end) read stream acts held taken
    → LastFlags acts
greet-flags greet.ReadFault read stream acts held taken h = these acts [] h.1.0 last-none
greet-flags greet.End read stream acts held taken h = these acts [] h.1.0 last-none
greet-flags (greet.BadMessage at) read stream acts held taken h =
    these acts [] h.2.0 last-none
greet-flags greet.Memory read stream acts held taken (inl h) = these acts [] h.0 last-none
greet-flags greet.Memory read stream acts held taken (inr h) =
    let one = h.3.1 in these acts (one.0 ∷ []) one.1 (last-one one.0)
greet-flags (greet.Refused answer) read stream acts held taken h =
    let one = h.3.1.0 in these acts (one.0 ∷ []) one.1 (last-one one.0)
greet-flags greet.WriteFault read stream acts held taken h =
    ⊎_elim (λ two. let both = two.1 in
    these acts (both.0 ∷ both.1 ∷ []) both.2
    (last-two both.0 both.1 (ap is_failed both.3.outcome_is)
    (ap is_store_fault both.3.outcome_is)))
    (λ one. let act = one.2.0 in these acts (act.0 ∷ []) act.1 (last-one act.0))
    h.3
