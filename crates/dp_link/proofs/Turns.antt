-- Messages that are heard, and said in one turn.
use Rattle.std.proofs.Common.{◌≡◌, ◌≢◌, ℕ, Bool, true, false, List, [], ◌∷◌, ◌++◌, Option, None}
use Rattle.std.proofs.Common.{Some, Result, Ok, Err, refl, sym, ap, subst, ◌∙◌, inl, inr}
use Rattle.std.proofs.Common.{append_assoc, append-nil, true≢false}
use Rattle.std.specs.Prelude.{IsErr, IfOk, IfErr}
use Rattle.std.specs.Io.KnownBytes.{Consumes}
use Rattle.std.specs.List.{AllByRecursion, flat_map}
use Rattle.std.proofs.lemmas.List.Concat.{flat_map-append}
use Rattle.dp_frame.specs.Frames.{FrameParts, IsFrame, spelling}
use Rattle.dp_split.specs.Stream.{Stream}
use Rattle.dp_hall.specs.Calls.{IsActOf, AreActs, ActsEach}
use Rattle.dp_hall.specs.Laws.{Continues}
use Rattle.dp_hall.specs.declared.listener.Acted.{Acted}
use Rattle.dp_messages.specs.declared.decoder.DecodeError.{DecodeError}
use Rattle.dp_messages.specs.declared.message.Msg.{Msg}
use Rattle.dp_messages.specs.declared.message.Entry.{Entry}
use Rattle.dp_messages.specs.Decoded.{Carries, IsPayloadRefused}
use Rattle.dp_messages.specs.Properties.{is_disconnect}
use Rattle.dp_entries.specs.Anywhere.{IsCauseAnywhere, StandsAnywhere}
use Rattle.dp_entries.specs.Ends.{IsRefusal}
use Rattle.dp_entries.specs.declared.ends.ReadEnd.{ReadEnd}
use Rattle.dp_entries.specs.declared.ends.ReadEnd.TheVariants as read
use Rattle.dp_entries.specs.Onward.{HaltsOn, ReadOn}
use Rattle.dp_entries.specs.Reader.{Reader}
use Rattle.dp_io.specs.Limits.{stream_limit}
use Rattle.dp_epochs.specs.declared.event.Event.{Event}
use Rattle.dp_epochs.specs.declared.event.Event.TheVariants.{Say}
use Rattle.dp_epochs.specs.declared.event.Reply.{Reply}
use Rattle.dp_epochs.specs.declared.event.Reply.TheVariants as reply
use Rattle.dp_link.specs.declared.ends.UpEnd.{UpEnd}
use Rattle.dp_link.specs.declared.ends.UpEnd.TheVariants as up
use Rattle.dp_link.specs.Acts.{SeatView}
use Rattle.dp_session_laws.specs.Journals.{is_kept}
use Rattle.dp_session_laws.specs.Logs.{ReplyOrMemory, LogEntry}
use Rattle.dp_link.specs.Reading.{up_end_of}
use Rattle.dp_link.specs.Saying.{MayGoOn, stops, IsSaid, AreSaid, AreSaidTo, SaidBy, AreSpelled}
use Rattle.dp_link.specs.Saying.{SpellFirst, counted, messages_of, FaultMatchesSay}
use Rattle.dp_link.specs.Saying.{SaidSoFar, SaidToEnd, SaysNext}
use Rattle.dp_link.specs.Hearing.{says_of, LeavesLast, EndsHearing, HeardEnd, HeardOne, HeardMore}
use Rattle.dp_link.specs.Hearing.{HeardToEnd, HeardBy, ActsSays, end_by}
use Rattle.dp_link.proofs.Hearing.{spelled-so-far, spelled-to, messages-append, no-message}
use Rattle.dp_link.proofs.Hearing.{said-then, said-to-then, AddUp}

-- ---- bytes that spell messages spell the first of them

spell-split : (frames : List FrameParts) (ms ns : List Msg) → AllByRecursion IsFrame frames
    → AreSpelled frames (ms ++ ns)
    → (fs gs : List FrameParts) × (frames ≡ fs ++ gs) × AllByRecursion IsFrame fs
    × AreSpelled fs ms
spell-split frames [] ns each h = ([], frames, refl, tt, tt)
spell-split [] (m ∷ ms) ns each h = absurd h
spell-split (f ∷ frames) (m ∷ ms) ns each h =
    let t = spell-split frames ms ns each.1 h.1 in
    (f ∷ t.0, t.1, ap (λ l. f ∷ l) t.2, (each.0, t.3), (h.0, t.4))

spell-first : (bytes : List ℕ) (ms ns : List Msg) (rest : List ℕ)
    → SpellFirst bytes (ms ++ ns) rest → (more : List ℕ) × SpellFirst bytes ms more
spell-first bytes ms ns rest h =
    let t = spell-split h.frames ms ns h.each h.spelled in (
      flat_map spelling t.1 ++ rest,
      record {
        frames = t.0;
        each = t.3;
        spelled = t.4;
        whole = h.whole ∙ (ap (λ l. flat_map spelling l ++ rest) t.2
            ∙ (ap (λ l. l ++ rest) (flat_map-append spelling t.0 t.1)
            ∙ append_assoc (flat_map spelling t.0) (flat_map spelling t.1) rest));
      },
    )

-- ---- what is heard

-- one message more is the last
leaves-more : (leaves : Bool) (ms : List Msg) (m : Msg) → LeavesLast false ms
    → is_disconnect m ≡ leaves → LeavesLast leaves (ms ++ m ∷ [])
leaves-more leaves [] m before is = is
leaves-more leaves (n ∷ []) m before is = (before, is)
leaves-more leaves (n ∷ k ∷ ms) m before is =
    (before.0, leaves-more leaves (k ∷ ms) m before.1 is)

says-append : (conn : ℕ) (ms ns : List Msg)
    → says_of conn (ms ++ ns) ≡ says_of conn ms ++ says_of conn ns
says-append conn [] ns = refl
says-append conn (m ∷ ms) ns = ap (λ l. Say conn m ∷ l) (says-append conn ms ns)

-- nothing was heard yet
pub heard-nothing : (left unread : Option (List ℕ)) (start : Stream) (entries : List Entry)
    (conn : ℕ) (link : Reader) → ReadOn StandsAnywhere left unread start entries link
    → HeardMore left unread start entries conn [] false link
heard-nothing left unread start entries conn link given = record {
  more = [];
  given =
      subst (λ l. ReadOn StandsAnywhere left unread start l link) (sym (append-nil entries)) given;
  says_are = refl;
  last = refl;
}

-- one message more was heard
pub heard-one : (left unread : Option (List ℕ)) (start : Stream) (entries : List Entry) (conn : ℕ)
    (old new : List Event) (leaves : Bool) (link later : Reader)
    → (q : HeardMore left unread start entries conn old false link)
    → HeardOne left unread start (entries ++ q.more) conn old new leaves later
    → HeardMore left unread start entries conn new leaves later
heard-one left unread start entries conn old new leaves link later q h =
    let e : Entry = h.entry in
    let messages = messages-append q.more (e ∷ []) in record {
      more = q.more ++ e ∷ [];
      given =
          subst (λ l. ReadOn StandsAnywhere left unread start l later)
          (append_assoc entries q.more (e ∷ [])) h.given;
      says_are = h.says_are ∙ (ap (λ l. l ++ Say conn e.msg ∷ []) q.says_are
          ∙ (sym (says-append conn (messages_of q.more) (e.msg ∷ []))
          ∙ ap (says_of conn) (sym messages)));
      last =
          subst (LeavesLast leaves) (sym messages)
          (leaves-more leaves (messages_of q.more) e.msg q.last h.leaves_is);
    }

-- hearing ended behind those that were heard
pub heard-end : (left unread : Option (List ℕ)) (start : Stream) (entries : List Entry) (conn : ℕ)
    (old new : List Event) (end : UpEnd) (link : Reader)
    → (q : HeardMore left unread start entries conn old false link)
    → new ≡ old → HeardEnd left unread start (messages_of (entries ++ q.more)) end
    → HeardToEnd left unread start entries conn new end
heard-end left unread start entries conn old new end link q same h = record {
  more = q.more;
  says_are = same ∙ q.says_are;
  stay = q.last;
  ends = h;
}

-- by what came of hearing
pub hears-by : (heard : Result Bool UpEnd) (left unread : Option (List ℕ)) (start : Stream)
    (entries : List Entry) (conn : ℕ) (says : List Event) (old new : Reader)
    → ReadOn StandsAnywhere left unread start entries old
    → IfOk heard (λ leaves. (left unread : Option (List ℕ)) (start : Stream)
    (entries : List Entry) → ReadOn StandsAnywhere left unread start entries old
    → HeardMore left unread start entries conn says leaves new)
    → IfErr heard (λ end. (left unread : Option (List ℕ)) (start : Stream)
    (entries : List Entry) → ReadOn StandsAnywhere left unread start entries old
    → HeardToEnd left unread start entries conn says end)
    → HeardBy heard left unread start entries conn says new
hears-by (Ok leaves) left unread start entries conn says old new given more ended =
    more left unread start entries given
hears-by (Err end) left unread start entries conn says old new given more ended =
    ended left unread start entries given

-- memory ran out when an entry had been taken
pub heard-unnoted : (left unread : Option (List ℕ)) (start : Stream) (entries : List Entry)
    (entry : Entry) (link : Reader) → link.limit ≡ stream_limit
    → ReadOn StandsAnywhere left unread start (entries ++ entry ∷ []) link
    → HeardEnd left unread start (messages_of entries) up.Memory
heard-unnoted left unread start entries entry link limit given =
    let t = spell-first (counted start given.read) (messages_of entries) (entry.msg ∷ [])
    link.stream.held (subst (λ ms. SpellFirst (counted start given.read) ms link.stream.held)
    (messages-append entries (entry ∷ [])) (spelled-so-far limit given)) in record {
      read = given.read;
      rest = t.0;
      read_is = given.read_is;
      heard = t.1;
      rests = tt;
      by = tt;
    }

-- a frame was refused
pub heard-refused : (left unread : Option (List ℕ)) (start : Stream) (entries : List Entry)
    (limit : ℕ) (held : List ℕ) (end : ReadEnd DecodeError) → limit ≡ stream_limit
    → ((frame : FrameParts) (e : Entry) (f : DecodeError) → Carries frame e
    → IsPayloadRefused frame.kind frame.body f → ⊥)
    → IsRefusal end
    → HaltsOn StandsAnywhere IsCauseAnywhere limit left unread start entries held end
    → HeardEnd left unread start (messages_of entries) (up_end_of end)
heard-refused left unread start entries limit held end is either refused h =
    by_end end refused (subst (λ (n : ℕ). HaltsOn StandsAnywhere IsCauseAnywhere n left unread
    start entries held end) is h)
  where
    by_end : (end : ReadEnd DecodeError) → IsRefusal end
        → HaltsOn StandsAnywhere IsCauseAnywhere stream_limit left unread start entries held end
        → HeardEnd left unread start (messages_of entries) (up_end_of end)
    by_end (read.BadMessage cause n) refused h = record {
      read = h.read;
      rest = h.rest;
      read_is = h.read_is;
      heard = spelled-to h;
      rests = (no-message _ h.rest cause either h.meets.0, h.meets.1);
      by = tt;
    }
    by_end read.Memory refused h = record {
      read = h.read;
      rest = h.rest;
      read_is = h.read_is;
      heard = spelled-to h;
      rests = tt;
      by = tt;
    }
    by_end read.ReadFault refused h = absurd refused
    by_end (read.Truncated n) refused h = absurd refused
    by_end read.Long refused h = absurd refused

pub refused-ends : (end : ReadEnd DecodeError) → IsRefusal end → EndsHearing (up_end_of end)
refused-ends (read.BadMessage cause n) refused = tt
refused-ends read.Memory refused = tt
refused-ends read.ReadFault refused = absurd refused
refused-ends (read.Truncated n) refused = absurd refused
refused-ends read.Long refused = absurd refused

-- ---- what is said of it

may-go : (outcome : ReplyOrMemory) → is_kept outcome ≡ true → MayGoOn outcome
may-go (Ok (reply.Opened conn user epoch at)) on = refl
may-go (Ok (reply.Placed epoch at)) on = refl
may-go (Ok (reply.Filtered epoch at)) on = refl
may-go (Ok reply.Noted) on = refl
may-go (Ok reply.Ignored) on = refl
may-go (Ok reply.NameRefused) on = refl
may-go (Ok reply.Full) on = refl
may-go (Ok reply.Ended) on = absurd (true≢false (sym on))
may-go (Ok (reply.StoreFault count)) on = absurd (true≢false (sym on))
may-go (Err error) on = absurd (true≢false (sym on))

stopped : (answer : Reply) → is_kept (Ok answer) ≡ false → stops answer ≡ true
stopped (reply.Opened conn user epoch at) off = absurd (true≢false off)
stopped (reply.Placed epoch at) off = absurd (true≢false off)
stopped (reply.Filtered epoch at) off = absurd (true≢false off)
stopped reply.Noted off = absurd (true≢false off)
stopped reply.Ignored off = absurd (true≢false off)
stopped reply.NameRefused off = absurd (true≢false off)
stopped reply.Full off = absurd (true≢false off)
stopped reply.Ended off = refl
stopped (reply.StoreFault count) off = refl

said-one : (conn : ℕ) (name : List ℕ) (m : Msg) (event : Event) (act : LogEntry)
    → event ≡ Say conn m → IsActOf name event act → is_kept act.outcome ≡ true
    → is_disconnect m ≡ false → IsSaid conn m act
said-one conn name m event act say is on stays = record {
  event_is = is.event_is ∙ say;
  may_go_on = may-go act.outcome on;
  stays = stays;
}

said-all : (conn : ℕ) (name : List ℕ) (ms : List Msg) (acts : List LogEntry) → LeavesLast false ms
    → AreActs is_kept name (says_of conn ms) acts → AreSaid conn ms acts
said-all conn name [] [] last h = tt
said-all conn name [] (a ∷ acts) last h = absurd h
said-all conn name (m ∷ []) [] last h = absurd h
said-all conn name (m ∷ []) (a ∷ []) last h =
    (said-one conn name m (Say conn m) a refl h.0 h.1 last, tt)
said-all conn name (m ∷ []) (a ∷ b ∷ acts) last h = absurd h.2
said-all conn name (m ∷ n ∷ ms) [] last h = absurd h
said-all conn name (m ∷ n ∷ ms) (a ∷ acts) last h = (
  said-one conn name m (Say conn m) a refl h.0 h.1 last.0,
  said-all conn name (n ∷ ms) acts last.1 h.2,
)

abbrev Leaves : Msg → ReplyOrMemory → Type 0
Leaves m outcome = (is_disconnect m ≡ true) × MayGoOn outcome

said-left : (conn : ℕ) (name : List ℕ) (ms : List Msg) (acts : List LogEntry) → LeavesLast true ms
    → AreActs is_kept name (says_of conn ms) acts → AreSaidTo Leaves conn ms acts
said-left conn name [] acts last h = absurd (true≢false last)
said-left conn name (m ∷ []) [] last h = absurd h
said-left conn name (m ∷ []) (a ∷ []) last h = record {
  earlier = [];
  before = [];
  last = m;
  act = a;
  messages_are = refl;
  acts_are = refl;
  said = tt;
  event_is = h.0.event_is;
  meets = (last, may-go a.outcome h.1);
}
said-left conn name (m ∷ []) (a ∷ b ∷ acts) last h = absurd h.2
said-left conn name (m ∷ n ∷ ms) [] last h = absurd h
said-left conn name (m ∷ n ∷ ms) (a ∷ acts) last h =
    said-to-then Leaves conn (m ∷ []) (n ∷ ms) (a ∷ []) acts
    (said-one conn name m (Say conn m) a refl h.0 h.1 last.0, tt)
    (said-left conn name (n ∷ ms) acts last.1 h.2)

-- where the Says stopped, and what was said before
record StopsAt (conn : ℕ) (ms : List Msg) (event : Event) (acts : List LogEntry) : Type 0 where
  earlier : List Msg
  last : Msg
  later : List Msg
  messages_are : ms ≡ (earlier ++ last ∷ []) ++ later
  said : AreSaid conn earlier acts
  event_is : event ≡ Say conn last

stop-at : (conn : ℕ) (name : List ℕ) (leaves : Bool) (ms : List Msg) (events : List Event)
    (event : Event) (later : List Event) (acts : List LogEntry)
    → says_of conn ms ≡ events ++ event ∷ later → LeavesLast leaves ms
    → AreActs is_kept name events acts → StopsAt conn ms event acts
stop-at conn name leaves [] [] event later acts eq last h = absurd (cc (eq))
stop-at conn name leaves [] (e ∷ events) event later acts eq last h = absurd (cc (eq))
stop-at conn name leaves (m ∷ ms) [] event later [] eq last h =
    let heads : Say conn m ≡ event = cc (eq) in record {
      earlier = [];
      last = m;
      later = ms;
      messages_are = refl;
      said = tt;
      event_is = sym heads;
    }
stop-at conn name leaves (m ∷ ms) [] event later (a ∷ acts) eq last h = absurd h
stop-at conn name leaves (m ∷ ms) (e ∷ events) event later [] eq last h = absurd h
stop-at conn name leaves (m ∷ []) (e ∷ events) event later (a ∷ acts) eq last h =
    absurd (none events (cc (eq)))
  where
    none : (l : List Event) → [] ≡ l ++ event ∷ later → ⊥
    none [] p = absurd (cc (p))
    none (x ∷ l) p = absurd (cc (p))
stop-at conn name leaves (m ∷ n ∷ ms) (e ∷ events) event later (a ∷ acts) eq last h =
    let heads : Say conn m ≡ e = cc (eq) in
    let tails : says_of conn (n ∷ ms) ≡ events ++ event ∷ later = cc (eq) in
    let t = stop-at conn name leaves (n ∷ ms) events event later acts tails last.1 h.2 in record {
      earlier = m ∷ t.earlier;
      last = t.last;
      later = t.later;
      messages_are =
          ap (λ l. m ∷ l) {y = (t.earlier ++ t.last ∷ []) ++ t.later} t.messages_are;
      said = (said-one conn name m e a (sym heads) h.0 h.1 last.0, t.said);
      event_is = t.event_is;
    }

-- ---- the next messages of a link

module _ (u v w : SeatView) (left unread : Option (List ℕ)) (start : Stream) (old new : Reader)
    (conn : ℕ) (p : SaidSoFar u v left unread start old conn) (both : AddUp u v w) where
  -- all were said
  said-more : (says : List Event) → new.limit ≡ stream_limit
      → HeardMore left unread start p.entries conn says false new
      → ActsSays v says None w → SaidSoFar u w left unread start new conn
  said-more says limit q a =
      let by = subst (λ l. AreActs is_kept v.name l a.acts) q.says_are a.by in record {
        entries = p.entries ++ q.more;
        says = p.says ++ a.acts;
        given = q.given;
        limit = limit;
        goes = both p.says a.acts p.goes a.goes;
        said =
            subst (λ ms. AreSaid conn ms (p.says ++ a.acts))
            (sym (messages-append p.entries q.more))
            (said-then conn (messages_of p.entries) (messages_of q.more) p.says a.acts p.said
            (said-all conn v.name (messages_of q.more) a.acts q.last by));
      }

  -- the last one was a Disconnect
  said-goodbye : (says : List Event) → new.limit ≡ stream_limit
      → HeardMore left unread start p.entries conn says true new
      → ActsSays v says None w → SaidToEnd u w left unread start conn up.Left
  said-goodbye says limit q a =
      let by = subst (λ l. AreActs is_kept v.name l a.acts) q.says_are a.by in record {
        read = q.given.read;
        messages = messages_of (p.entries ++ q.more);
        rest = new.stream.held;
        says = p.says ++ a.acts;
        read_is = q.given.read_is;
        heard = spelled-so-far limit q.given;
        goes = both p.says a.acts p.goes a.goes;
        said =
            subst (λ ms. AreSaidTo Leaves conn ms (p.says ++ a.acts))
            (sym (messages-append p.entries q.more))
            (said-to-then Leaves conn (messages_of p.entries) (messages_of q.more) p.says a.acts
            p.said (said-left conn v.name (messages_of q.more) a.acts q.last by));
        rests = tt;
      }

  -- hearing ended behind them
  said-to-end : (says : List Event) (end : UpEnd)
      → HeardToEnd left unread start p.entries conn says end
      → ActsSays v says None w → SaidToEnd u w left unread start conn end
  said-to-end says end q a =
      let by = subst (λ l. AreActs is_kept v.name l a.acts) q.says_are a.by in
      let said : AreSaid conn (messages_of (p.entries ++ q.more)) (p.says ++ a.acts) =
      subst (λ ms. AreSaid conn ms (p.says ++ a.acts)) (sym (messages-append p.entries q.more))
      (said-then conn (messages_of p.entries) (messages_of q.more) p.says a.acts p.said
      (said-all conn v.name (messages_of q.more) a.acts q.stay by)) in record {
        read = q.ends.read;
        messages = messages_of (p.entries ++ q.more);
        rest = q.ends.rest;
        says = p.says ++ a.acts;
        read_is = q.ends.read_is;
        heard = q.ends.heard;
        goes = both p.says a.acts p.goes a.goes;
        said = by_end end q.ends.by said;
        rests = q.ends.rests;
      }
    where
      by_end : (end : UpEnd) → EndsHearing end
          → AreSaid conn (messages_of (p.entries ++ q.more)) (p.says ++ a.acts)
          → SaidBy end conn (messages_of (p.entries ++ q.more)) (p.says ++ a.acts)
      by_end (up.BadMessage at) ends said = said
      by_end up.Memory ends said = inl said
      by_end up.Left ends said = absurd ends
      by_end up.End ends said = absurd ends
      by_end up.ReadFault ends said = absurd ends
      by_end up.Long ends said = absurd ends
      by_end (up.Refused answer) ends said = absurd ends
      by_end (up.NotGreeted end) ends said = absurd ends

  -- one of them was the last
  said-stop : (says : List Event) (outcome : ReplyOrMemory) (more : List Entry) (leaves : Bool)
      (read rest : List ℕ) → Consumes left unread read
      → SpellFirst (counted start read) (messages_of (p.entries ++ more)) rest
      → says ≡ says_of conn (messages_of more) → LeavesLast leaves (messages_of more)
      → ActsSays v says (Some outcome) w
      → SaysNext (end_by (Some outcome) (Ok leaves)) u w left unread start new conn
  said-stop says outcome more leaves read rest read_is heard says_are last a =
      by_outcome outcome a.by.outcome_is a.by.stops
    where
      at : StopsAt conn (messages_of more) a.by.event a.by.before
      at = stop-at conn v.name leaves (messages_of more) a.by.earlier a.by.event a.by.later
          a.by.before (sym says_are ∙ a.by.events_are) last a.by.acts

      messages : List Msg
      messages = messages_of p.entries ++ (at.earlier ++ at.last ∷ [])

      whole : messages_of (p.entries ++ more) ≡ messages ++ at.later
      whole = messages-append p.entries more
          ∙ (ap (λ l. messages_of p.entries ++ l) at.messages_are
          ∙ sym (append_assoc (messages_of p.entries) (at.earlier ++ at.last ∷ []) at.later))

      first : (rest : List ℕ) × SpellFirst (counted start read) messages rest
      first = spell-first (counted start read) messages at.later rest
          (subst (λ ms. SpellFirst (counted start read) ms rest) whole heard)

      said : (P : Msg → ReplyOrMemory → Type 0) → P at.last a.by.last.outcome
          → AreSaidTo P conn messages (p.says ++ a.acts)
      said P meets = said-to-then P conn (messages_of p.entries) (at.earlier ++ at.last ∷ [])
          p.says a.acts p.said record {
            earlier = at.earlier;
            before = a.by.before;
            last = at.last;
            act = a.by.last;
            messages_are = refl;
            acts_are = a.by.entries_are;
            said = at.said;
            event_is = a.by.is.event_is ∙ at.event_is;
            meets = meets;
          }

      by_outcome : (outcome : ReplyOrMemory) → a.by.last.outcome ≡ outcome
          → is_kept outcome ≡ false
          → SaysNext (end_by (Some outcome) (Ok leaves)) u w left unread start new conn
      by_outcome (Ok answer) is off = record {
        read = read;
        messages = messages;
        rest = first.0;
        says = p.says ++ a.acts;
        read_is = read_is;
        heard = first.1;
        goes = both p.says a.acts p.goes a.goes;
        said = said (λ m came. (came ≡ Ok answer) × (stops answer ≡ true))
            (is, stopped answer off);
        rests = tt;
      }
      by_outcome (Err error) is off = record {
        read = read;
        messages = messages;
        rest = first.0;
        says = p.says ++ a.acts;
        read_is = read_is;
        heard = first.1;
        goes = both p.says a.acts p.goes a.goes;
        said = inr (said (λ m came. IsErr came)
            (subst (λ (came : ReplyOrMemory). IsErr came) (sym is) refl));
        rests = tt;
      }

  pub says-heard : (stop : Option ReplyOrMemory) (heard : Result Bool UpEnd) (says : List Event)
      → new.limit ≡ stream_limit → HeardBy heard left unread start p.entries conn says new
      → ActsSays v says stop w → SaysNext (end_by stop heard) u w left unread start new conn
  says-heard None (Ok false) says limit q a = said-more says limit q a
  says-heard None (Ok true) says limit q a = said-goodbye says limit q a
  says-heard None (Err end) says limit q a = said-to-end says end q a
  says-heard (Some (Ok answer)) (Ok leaves) says limit q a =
      said-stop says (Ok answer) q.more leaves q.given.read new.stream.held q.given.read_is
      (spelled-so-far limit q.given) q.says_are q.last a
  says-heard (Some (Err error)) (Ok leaves) says limit q a =
      said-stop says (Err error) q.more leaves q.given.read new.stream.held q.given.read_is
      (spelled-so-far limit q.given) q.says_are q.last a
  says-heard (Some (Ok answer)) (Err end) says limit q a =
      said-stop says (Ok answer) q.more false q.ends.read q.ends.rest q.ends.read_is q.ends.heard
      q.says_are q.stay a
  says-heard (Some (Err error)) (Err end) says limit q a =
      said-stop says (Err error) q.more false q.ends.read q.ends.rest q.ends.read_is q.ends.heard
      q.says_are q.stay a

-- ---- faults, and the end of the source

pub held-faults : (stop : Option ReplyOrMemory) (heard : Result Bool UpEnd)
    → IfErr heard EndsHearing → (n : ℕ) → FaultMatchesSay (end_by stop heard) n n
held-faults (Some (Ok answer)) heard ends n = refl
held-faults (Some (Err error)) heard ends n = refl
held-faults None (Ok true) ends n = refl
held-faults None (Ok false) ends n = refl
held-faults None (Err (up.BadMessage at)) ends n = refl
held-faults None (Err up.Memory) ends n = refl
held-faults None (Err up.Left) ends n = absurd ends
held-faults None (Err up.End) ends n = absurd ends
held-faults None (Err up.ReadFault) ends n = absurd ends
held-faults None (Err up.Long) ends n = absurd ends
held-faults None (Err (up.Refused answer)) ends n = absurd ends
held-faults None (Err (up.NotGreeted end)) ends n = absurd ends

pub held-goes-on : (stop : Option ReplyOrMemory) (heard : Result Bool UpEnd)
    → IfErr heard EndsHearing → end_by stop heard ≢ Err up.End
held-goes-on (Some (Ok answer)) heard ends is = cc (is)
held-goes-on (Some (Err error)) heard ends is = cc (is)
held-goes-on None (Ok true) ends is = cc (is)
held-goes-on None (Ok false) ends is = cc (is)
held-goes-on None (Err end) ends is =
    subst (λ (r : Result Unit UpEnd). IfErr r EndsHearing) is ends

-- ---- what a turn of Says is

pub acts-says : (v w : SeatView) (says : List Event) (acted : Acted ReplyOrMemory)
    → (acts : ActsEach is_kept v says acted w) → Continues v acts.entries w
    → ActsSays v says acted.stop w
acts-says v w says acted acts goes =
    record { acts = acts.entries; goes = goes; by = acts.by }
