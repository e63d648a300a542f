-- Messages that are said, and the bytes that spell them.
use Rattle.std.proofs.Common.{◌≡◌, ℕ, ◌+◌}
use Rattle.std.proofs.Common.{List, [], ◌∷◌, ◌++◌, Option, refl, sym, ap, subst}
use Rattle.std.proofs.Common.{◌∙◌, inl, append_assoc}
use Rattle.std.specs.List.{flat_map}
use Rattle.std.specs.Io.KnownBytes.{IsAtEnd}
use Rattle.dp_frame.specs.Frames.{FrameParts, spelling}
use Rattle.dp_split.specs.Stream.{Stream}
use Rattle.dp_hall.specs.Laws.{Continues}
use Rattle.dp_messages.specs.declared.decoder.DecodeError.{DecodeError}
use Rattle.dp_messages.specs.declared.message.Msg.{Msg}
use Rattle.dp_messages.specs.declared.message.Entry.{Entry}
use Rattle.dp_messages.specs.Decoded.{Carries, IsPayloadRefused}
use Rattle.dp_entries.specs.Anywhere.{IsCauseAnywhere, StandsAnywhere}
use Rattle.dp_entries.specs.declared.ends.ReadEnd.{ReadEnd}
use Rattle.dp_entries.specs.declared.ends.ReadEnd.TheVariants as read
use Rattle.dp_entries.specs.Input.{StandFor}
use Rattle.dp_entries.specs.Onward.{BeginsBad, EndsOn, ReadOn, ReadOnTo, HaltsOn, counted_from}
use Rattle.dp_entries.specs.Reader.{Reader}
use Rattle.dp_entries.specs.Reading.{EndsWithInput, FaultMatchesReadEnd}
use Rattle.dp_epochs.specs.declared.event.Event.TheVariants.{Close}
use Rattle.dp_link.specs.declared.ends.UpEnd.{UpEnd}
use Rattle.dp_link.specs.declared.ends.UpEnd.TheVariants as up
use Rattle.dp_link.specs.Acts.{SeatView, ActsOnce}
use Rattle.dp_session_laws.specs.Logs.{ReplyOrMemory, LogEntry}
use Rattle.dp_link.specs.Bytes.{BeginsWithNoMessage}
use Rattle.dp_io.specs.Limits.{stream_limit}
use Rattle.dp_link.specs.Reading.{up_end_of}
use Rattle.dp_link.specs.Saying.{AreSaid, AreSaidTo, SaidBy, AreSpelled}
use Rattle.dp_link.specs.Saying.{SpellFirst, counted, RestBy, messages_of}
use Rattle.dp_link.specs.Saying.{FaultMatchesUp, SaidSoFar, SaidToEnd, SaysAll}

-- ---- frames

-- if each entry of a reader may stand anywhere, its frame spells its message
spelled-of : (n : ℕ) (frames : List FrameParts) (entries : List Entry)
    → StandFor StandsAnywhere n frames entries → AreSpelled frames (messages_of entries)
spelled-of n [] [] p = tt
spelled-of n [] (e ∷ entries) p = absurd p
spelled-of n (f ∷ frames) [] p = absurd p
spelled-of n (f ∷ frames) (e ∷ entries) p =
    (p.0.spelled, spelled-of (n + 1) frames entries p.1)

pub spelled-to : {P : List ℕ → List ℕ → Type 0} {left unread : Option (List ℕ)} {start : Stream}
    {entries : List Entry}
    → (h : ReadOnTo P StandsAnywhere stream_limit left unread start entries)
    → SpellFirst (counted start h.read) (messages_of entries) h.rest
spelled-to {entries = entries} h = record {
  frames = h.frames;
  each = h.each;
  spelled = spelled-of 0 h.frames entries h.stand;
  whole = h.whole;
}

pub spelled-so-far : {left unread : Option (List ℕ)} {start : Stream} {entries : List Entry}
    {link : Reader} → link.limit ≡ stream_limit
    → (h : ReadOn StandsAnywhere left unread start entries link)
    → SpellFirst (counted start h.read) (messages_of entries) link.stream.held
spelled-so-far {start = start} {entries = entries} {link = link} limit h = record {
  frames = h.follows.frames;
  each = h.follows.each;
  spelled = spelled-of 0 h.follows.frames entries h.follows.stand;
  whole =
      subst (λ (n : ℕ). counted_from n start h.read
      ≡ flat_map spelling h.follows.frames ++ link.stream.held) limit h.follows.whole;
}

pub messages-append : (entries more : List Entry)
    → messages_of (entries ++ more) ≡ messages_of entries ++ messages_of more
messages-append [] more = refl
messages-append (first ∷ entries) more =
    ap (λ ms. first.msg ∷ ms) (messages-append entries more)

-- the frame carries nothing if it is refused
pub no-message : (n : ℕ) (rest : List ℕ) (cause : DecodeError)
    → ((frame : FrameParts) (e : Entry) (f : DecodeError) → Carries frame e
    → IsPayloadRefused frame.kind frame.body f → ⊥)
    → BeginsBad IsCauseAnywhere n rest cause → BeginsWithNoMessage rest
no-message n rest cause either h = (
  h.frame,
  h.more,
  record { fits = h.fits; whole = h.whole },
  λ m spells.
      either h.frame (record { user = h.frame.user; msg = m }) cause
      (record { user = refl; spelled = spells }) h.why,
)

-- ---- Says

pub said-then : (conn : ℕ) (ms ns : List Msg) (xs ys : List LogEntry) → AreSaid conn ms xs
    → AreSaid conn ns ys → AreSaid conn (ms ++ ns) (xs ++ ys)
said-then conn [] ns [] ys p q = q
said-then conn [] ns (x ∷ xs) ys p q = absurd p
said-then conn (m ∷ ms) ns [] ys p q = absurd p
said-then conn (m ∷ ms) ns (x ∷ xs) ys p q = (p.0, said-then conn ms ns xs ys p.1 q)

pub said-to-then : (P : Msg → ReplyOrMemory → Type 0) (conn : ℕ) (ms ns : List Msg)
    (xs ys : List LogEntry)
    → AreSaid conn ms xs → AreSaidTo P conn ns ys → AreSaidTo P conn (ms ++ ns) (xs ++ ys)
said-to-then P conn ms ns xs ys p q = record {
  earlier = ms ++ q.earlier;
  before = xs ++ q.before;
  last = q.last;
  act = q.act;
  messages_are =
      ap (λ l. ms ++ l) q.messages_are ∙ sym (append_assoc ms q.earlier (q.last ∷ []));
  acts_are = ap (λ l. xs ++ l) q.acts_are ∙ sym (append_assoc xs q.before (q.act ∷ []));
  said = said-then conn ms q.earlier xs q.before p q.said;
  event_is = q.event_is;
  meets = q.meets;
}

-- ---- the whole link

-- calls of one seat add up, from these three views on
abbrev pub AddUp : SeatView → SeatView → SeatView → Type 0
AddUp u v w =
    (xs ys : List LogEntry) → Continues u xs v → Continues v ys w → Continues u (xs ++ ys) w

module _ (u v : SeatView) (left unread more : Option (List ℕ)) (start : Stream) (old : Reader)
    (conn : ℕ) (p : SaidSoFar u v left unread start old conn) where
  -- more was read
  pub so-far-filled : (new : Reader) → new.limit ≡ old.limit
      → ReadOn StandsAnywhere left more start p.entries new → SaidSoFar u v left more start new conn
  so-far-filled new limit given = record {
    entries = p.entries;
    says = p.says;
    given = given;
    limit = limit ∙ p.limit;
    goes = p.goes;
    said = p.said;
  }

  to-end : {P : List ℕ → List ℕ → Type 0} (end : UpEnd)
      → (h : ReadOnTo P StandsAnywhere stream_limit left more start p.entries)
      → SaidBy end conn (messages_of p.entries) p.says → RestBy end start h.read h.rest
      → SaidToEnd u v left more start conn end
  to-end end h said rests = record {
    read = h.read;
    messages = messages_of p.entries;
    rest = h.rest;
    says = p.says;
    read_is = h.read_is;
    heard = spelled-to h;
    goes = p.goes;
    said = said;
    rests = rests;
  }

  -- nothing was left to read
  pub so-far-end : EndsOn StandsAnywhere old.limit left more start p.entries
      → SaidToEnd u v left more start conn up.End
  so-far-end ends =
      let h = subst (λ (n : ℕ). EndsOn StandsAnywhere n left more start p.entries) p.limit ends in
      to-end up.End h p.said h.meets

  -- reading the link ended
  pub so-far-stops : (end : ReadEnd DecodeError) (held : List ℕ)
      → ((frame : FrameParts) (e : Entry) (f : DecodeError) → Carries frame e
      → IsPayloadRefused frame.kind frame.body f → ⊥)
      → HaltsOn StandsAnywhere IsCauseAnywhere old.limit left more start p.entries held end
      → SaidToEnd u v left more start conn (up_end_of end)
  so-far-stops end held either h =
      by_end end (subst (λ (n : ℕ). HaltsOn StandsAnywhere IsCauseAnywhere n left more start
      p.entries held end) p.limit h)
    where
      by_end : (end : ReadEnd DecodeError)
          → HaltsOn StandsAnywhere IsCauseAnywhere stream_limit left more start p.entries held end
          → SaidToEnd u v left more start conn (up_end_of end)
      by_end read.ReadFault h = to-end up.ReadFault h p.said h.meets
      by_end (read.Truncated n) h = to-end up.End h p.said h.meets
      by_end (read.BadMessage cause n) h =
          to-end (up.BadMessage n) h p.said
          (no-message _ h.rest cause either h.meets.0, h.meets.1)
      by_end read.Long h = to-end up.Long h p.said (h.meets.0, h.meets.1)
      by_end read.Memory h = to-end up.Memory h (inl p.said) tt

pub so-far-starts : (v : SeatView) (left : Option (List ℕ)) (start : Stream) (link : Reader)
    (conn : ℕ) → Continues v [] v → link.limit ≡ stream_limit
    → ReadOn StandsAnywhere left left start [] link → SaidSoFar v v left left start link conn
so-far-starts v left start link conn none limit given =
    record { entries = []; says = []; given = given; limit = limit; goes = none; said = tt }

-- and then the Close
pub says-all : (u v w : SeatView) (left unread : Option (List ℕ)) (stream : Stream) (conn : ℕ)
    (end : UpEnd) (outcome : ReplyOrMemory) → AddUp u v w
    → SaidToEnd u v left unread stream conn end
    → ActsOnce v (Close conn) outcome w → SaysAll u w left unread stream conn end outcome
says-all u v w left unread stream conn end outcome both p q = record {
  acts = p.says ++ q.act ∷ [];
  goes = both p.says (q.act ∷ []) p.goes q.goes;
  are = record {
    read = p.read;
    messages = p.messages;
    rest = p.rest;
    says = p.says;
    close = q.act;
    read_is = p.read_is;
    heard = p.heard;
    acts_are = refl;
    closes = q.is;
    said = p.said;
    rests = p.rests;
  };
}

-- ---- faults, and the end of the source

pub up-faults : (end : ReadEnd DecodeError) (before now : ℕ) → FaultMatchesReadEnd before now end
    → FaultMatchesUp (up_end_of end) before now
up-faults read.ReadFault before now h = h
up-faults (read.Truncated n) before now h = h
up-faults (read.BadMessage cause n) before now h = h
up-faults read.Long before now h = h
up-faults read.Memory before now h = h

pub up-ends : (end : ReadEnd DecodeError) (unread : Option (List ℕ)) → EndsWithInput unread end
    → up_end_of end ≡ up.End → IsAtEnd unread
up-ends read.ReadFault unread h e = cc (e)
up-ends (read.Truncated n) unread h e = h
up-ends (read.BadMessage cause n) unread h e = cc (e)
up-ends read.Long unread h e = cc (e)
up-ends read.Memory unread h e = cc (e)
