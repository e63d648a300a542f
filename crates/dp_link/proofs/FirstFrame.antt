-- What the first message of a link says.
use Rattle.std.proofs.Common.{◌≡◌, ℕ, ◌+◌, ◌<◌, ◌≤◌, List, [], ◌∷◌, ◌++◌, length, take, drop}
use Rattle.std.proofs.Common.{Option}
use Rattle.std.proofs.Common.{Result, Ok, Err, refl, sym, ap, subst, ◌∙◌, arith, append-nil}
use Rattle.std.proofs.Common.{append_assoc}
use Rattle.std.proofs.lemmas.List.{length-take, take-append-drop, take_all}
use Rattle.std.specs.Prelude.{◌-◌}
use Rattle.std.specs.List.{AllByRecursion, flat_map}
use Rattle.dp_frame.specs.Frames.{FrameParts, IsFrame, spelling, HoldsNoFrame}
use Rattle.dp_split.specs.Stream.{Stream}
use Rattle.dp_messages.specs.declared.decoder.DecodeError.{DecodeError}
use Rattle.dp_messages.specs.declared.message.Msg.TheVariants as msg
use Rattle.dp_messages.specs.declared.message.Entry.{Entry}
use Rattle.dp_messages.specs.Decoded.{Carries, IsPayloadRefused}
use Rattle.dp_msg_meta.specs.declared.message.Control.TheVariants.{Hello}
use Rattle.dp_messages.specs.Messages.{Spells}
use Rattle.dp_entries.proofs.Frames.{fed_length, none_held}
use Rattle.dp_entries.specs.Anywhere.{IsCauseAnywhere, StandsAnywhere}
use Rattle.dp_entries.specs.declared.ends.ReadEnd.{ReadEnd}
use Rattle.dp_entries.specs.declared.ends.ReadEnd.TheVariants as read
use Rattle.dp_entries.specs.Input.{StandFor}
use Rattle.dp_entries.specs.Onward.{EndsOn, ReachesFew, ReadOn, ReadOnTo, HaltsOn}
use Rattle.dp_entries.specs.Onward.{count_from, counted_from, most_in_piece}
use Rattle.dp_entries.specs.Reader.{Reader}
use Rattle.dp_io.specs.Limits.{stream_limit}
use Rattle.dp_link.specs.declared.ends.GreetEnd.{GreetEnd}
use Rattle.dp_link.specs.declared.ends.GreetEnd.TheVariants as greet
use Rattle.dp_link.specs.Hello.{NameOf, NamesBy, ReadsName}
use Rattle.dp_link.specs.Reading.{EndsGreeting}
use Rattle.dp_link.proofs.Hearing.{no-message}

-- a splitter before the first byte
abbrev pub fresh : Stream
fresh = record { held = []; at = 0 }

pub from-fresh : {left : Option (List ℕ)} {start : Stream} {link : Reader} → start ≡ fresh
    → ReadOn StandsAnywhere left left start [] link → ReadOn StandsAnywhere left left fresh [] link
from-fresh {left = left} {link = link} is h =
    subst (λ (s : Stream). ReadOn StandsAnywhere left left s [] link) is h

-- the first frame comes soon
pub few-first : (old new : Stream) → old ≡ fresh → ReachesFew old new
    → new.at + length new.held ≤ most_in_piece
few-first old new is few =
    subst (λ (s : Stream). ReachesFew s new) is few (λ k. omega arith) (none_held [] refl)

-- ---- a frame was read

-- the frame that stands for the one entry, and what is held after it
record FirstOf (bytes : List ℕ) (e : Entry) (held : List ℕ) : Type 0 where
  frame : FrameParts
  fits : IsFrame frame
  carries : Carries frame e
  whole : bytes ≡ spelling frame ++ held

first-of : (bytes held : List ℕ) (e : Entry) (frames : List FrameParts)
    → AllByRecursion IsFrame frames → StandFor StandsAnywhere 0 frames (e ∷ [])
    → bytes ≡ flat_map spelling frames ++ held → FirstOf bytes e held
first-of bytes held e [] each stand whole = absurd stand
first-of bytes held e (f ∷ []) each stand whole = record {
  frame = f;
  fits = each.0;
  carries = stand.0;
  whole = whole ∙ ap (λ (xs : List ℕ). xs ++ held) (append-nil (spelling f));
}
first-of bytes held e (f ∷ g ∷ frames) each stand whole = absurd stand.1

module _ {left unread : Option (List ℕ)} {e : Entry} {link : Reader}
    (h : ReadOn StandsAnywhere left unread fresh (e ∷ []) link) (limit : link.limit ≡ stream_limit)
    (few : link.stream.at + length link.stream.held ≤ most_in_piece) where
  -- all that was read counts
  all-read : counted_from link.limit fresh h.read ≡ h.read
  all-read =
      take_all (link.limit - 0) h.read
      (omega (
        arith,
        few,
        limit,
        fed_length h.follows,
        h.place,
        length-take (link.limit - 0) h.read,
      ))

  read-first : FirstOf h.read e link.stream.held
  read-first =
      first-of h.read link.stream.held e h.follows.frames h.follows.each h.follows.stand
      (sym all-read ∙ h.follows.whole)

  pub name-read : (result : Result (List ℕ) GreetEnd)
      → ((frame : FrameParts) (e f : Entry) → Carries frame e → Carries frame f → e ≡ f)
      → NameOf result e.msg → ReadsName left unread link.stream result
  name-read result one named =
      record { read = h.read; read_is = h.read_is; by = by_result result named }
    where
      by_result : (result : Result (List ℕ) GreetEnd) → NameOf result e.msg
          → NamesBy result h.read link.stream
      by_result (Ok name) is =
          let f = read-first in (
            (
              f.frame,
              record { fits = f.fits; whole = f.whole },
              subst (Spells f.frame.kind f.frame.body) is f.carries.spelled,
            ),
            omega (arith, fed_length h.follows, h.place, ap length all-read),
          )
      by_result (Err (greet.BadMessage at)) (place, other) =
          let f = read-first in (
            (
              f.frame,
              link.stream.held,
              record { fits = f.fits; whole = f.whole },
              λ name hello.
                  other name (ap (λ (x : Entry). x.msg) (one f.frame e
                  (record { user = f.frame.user; msg = msg.Control (Hello name) }) f.carries
                  (record { user = refl; spelled = hello }))),
            ),
            place,
          )
      by_result (Err greet.Memory) is = tt
      by_result (Err greet.ReadFault) is = absurd is
      by_result (Err greet.End) is = absurd is
      by_result (Err (greet.Refused reply)) is = absurd is
      by_result (Err greet.WriteFault) is = absurd is

-- ---- none was read

-- what was read so far gave no entry: of the bytes that count all are left
all-left : {P : List ℕ → List ℕ → Type 0} {left unread : Option (List ℕ)}
    → (h : ReadOnTo P StandsAnywhere stream_limit left unread fresh [])
    → counted_from stream_limit fresh h.read ≡ h.rest
all-left h = by_frames h.frames h.stand h.whole
  where
    by_frames : (frames : List FrameParts) → StandFor StandsAnywhere 0 frames []
        → counted_from stream_limit fresh h.read ≡ flat_map spelling frames ++ h.rest
        → counted_from stream_limit fresh h.read ≡ h.rest
    by_frames [] stand whole = whole
    by_frames (f ∷ frames) stand whole = absurd stand

-- if all bytes count
none-read : (read rest : List ℕ) → HoldsNoFrame rest → count_from fresh read ≤ stream_limit
    → counted_from stream_limit fresh read ≡ rest → HoldsNoFrame read
none-read read rest none few all =
    subst HoldsNoFrame (sym all ∙ take_all (stream_limit - 0) read (omega (arith, few))) none

pub name-ends : (left unread : Option (List ℕ)) (limit : ℕ) (stream : Stream)
    → limit ≡ stream_limit → EndsOn StandsAnywhere limit left unread fresh []
    → ReadsName left unread stream (Err greet.End)
name-ends left unread limit stream is ends =
    let h = subst (λ (n : ℕ). EndsOn StandsAnywhere n left unread fresh []) is ends in record {
      read = h.read;
      read_is = h.read_is;
      by = none-read h.read h.rest h.meets.0 h.meets.1 (all-left h);
    }

-- so few bytes aren't all that count
no-room : (limit at : ℕ) (read held : List ℕ) → most_in_piece < limit
    → at + length held ≤ most_in_piece → limit < 0 + length read → take limit read ≡ held → ⊥
no-room limit at read held big few more is =
    omega (arith, big, few, more, ap length is, length-take limit read)

-- the first frame comes before more bytes are read than count
pub not-long : (left unread : Option (List ℕ)) (limit : ℕ) (link : Stream)
    (end : ReadEnd DecodeError)
    → limit ≡ stream_limit → link.at + length link.held ≤ most_in_piece
    → HaltsOn StandsAnywhere IsCauseAnywhere limit left unread fresh [] link.held end
    → ¬ (end ≡ read.Long)
not-long left unread limit link end is few stops long =
    let h =
    subst (λ (n : ℕ). HaltsOn StandsAnywhere IsCauseAnywhere n left unread fresh [] link.held
    read.Long) is
    (subst (λ (x : ReadEnd DecodeError). HaltsOn StandsAnywhere IsCauseAnywhere limit left unread
    fresh [] link.held x) long stops) in
    no-room stream_limit link.at h.read link.held (omega arith) few h.meets.1
    (all-left h ∙ h.meets.2)

pub name-stops : (left unread : Option (List ℕ)) (limit : ℕ) (stream : Stream) (held : List ℕ)
    (end : ReadEnd DecodeError) (result : GreetEnd)
    → ((frame : FrameParts) (e : Entry) (f : DecodeError) → Carries frame e
    → IsPayloadRefused frame.kind frame.body f → ⊥)
    → limit ≡ stream_limit
    → HaltsOn StandsAnywhere IsCauseAnywhere limit left unread fresh [] held end
    → EndsGreeting end result → ReadsName left unread stream (Err result)
name-stops left unread limit stream held end result either is stops ends =
    by_end end (subst (λ (n : ℕ). HaltsOn StandsAnywhere IsCauseAnywhere n left unread fresh [] held
    end) is stops) ends
  where
    Reads : GreetEnd → Type 0
    Reads end = ReadsName left unread stream (Err end)

    by_end : (end : ReadEnd DecodeError)
        → HaltsOn StandsAnywhere IsCauseAnywhere stream_limit left unread fresh [] held end
        → EndsGreeting end result → Reads result
    by_end read.ReadFault h is = subst Reads (sym is) (record {
      read = h.read;
      read_is = h.read_is;
      by = none-read h.read h.rest h.meets.0 h.meets.1 (all-left h);
    })
    by_end (read.Truncated n) h is = subst Reads (sym is) (record {
      read = h.read;
      read_is = h.read_is;
      by = none-read h.read h.rest h.meets.0 h.meets.1 (all-left h);
    })
    by_end (read.BadMessage cause n) h is =
        let b = no-message _ h.rest cause either h.meets.0 in
        let later : List ℕ = drop stream_limit h.read in
        let whole : h.read ≡ spelling b.0 ++ (b.1 ++ later) =
        sym (take-append-drop stream_limit h.read)
        ∙ ap (λ (xs : List ℕ). xs ++ later) (all-left h ∙ b.2.whole)
        ∙ append_assoc (spelling b.0) b.1 later in
        subst Reads (sym is) (record {
          read = h.read;
          read_is = h.read_is;
          by = (
            (
              b.0,
              b.1 ++ later,
              record { fits = b.2.fits; whole = whole },
              λ name hello. b.3 (msg.Control (Hello name)) hello,
            ),
            omega (arith, h.meets.1, ap length (all-left h)),
          );
        })
    by_end read.Long h is = absurd is
    by_end read.Memory h is =
        subst Reads (sym is) (record { read = h.read; read_is = h.read_is; by = tt })
