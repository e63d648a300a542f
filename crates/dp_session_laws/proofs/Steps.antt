-- What one step of a session comes to.
use Rattle.std.proofs.Common.{◌≡◌, ◌⊎◌, ℕ, Bool, true, false, length, Option, None, Some}
use Rattle.std.proofs.Common.{Ok, Err, refl, ap, ◌∙◌, inl, inr}
use Rattle.std.specs.Prelude.{MatchBool}
use Rattle.std.specs.declared.alloc.AllocError.{AllocError}
use Rattle.dp_epochs.specs.declared.event.Event.{Event}
use Rattle.dp_epochs.specs.declared.event.Event.TheVariants as event
use Rattle.dp_epochs.specs.declared.event.Reply.{Reply}
use Rattle.dp_epochs.specs.declared.event.Reply.TheVariants as reply
use Rattle.dp_epochs.specs.Rows.{has_room}
use Rattle.dp_epochs.specs.Past.{Past, Step, Serves, Accepts, FailsFirst, Refuses, kept, refused}
use Rattle.dp_epochs.specs.Past.{quieted, shut_with, state_of, state_after, answer_to}
use Rattle.dp_epochs.specs.Laws.{shut_by}
use Rattle.dp_session_laws.specs.Logs.{ReplyOrMemory}
use Rattle.dp_session_laws.proofs.Growth.{EpochLaws}

-- the event was not kept, and counts among the closings that were refused if it is a Close
pub record HasRefused (old : Past) (e : Event) (new : Past) : Type 0 where
  pub journal : new.journal ≡ old.journal
  pub shut : new.shut ≡ shut_with (length old.journal) old.shut e
  pub quiet : new.quiet ≡ old.quiet

-- the event was kept, or the limits or the store refused it, or memory ran out
pub data Came (old : Past) (e : Event) (outcome : ReplyOrMemory) (new : Past) : Type 0 where
  WasKept : outcome ≡ Ok (answer_to old e) → new ≡ kept old e → Came old e outcome new
  WasEnded : outcome ≡ Ok reply.Ended → has_room old.journal e ≡ false → HasRefused old e new
      → Came old e outcome new
  WasFault : (count : ℕ) → outcome ≡ Ok (reply.StoreFault count) → HasRefused old e new
      → Came old e outcome new
  RanOut : (error : AllocError) → outcome ≡ Err error → new ≡ quieted old e
      → Came old e outcome new

is-refused : (old : Past) (e : Event) (new : Past) → new ≡ refused old e → HasRefused old e new
is-refused old e new is = record {
  journal = ap (λ (p : Past). p.journal) is;
  shut = ap (λ (p : Past). p.shut) is;
  quiet = ap (λ (p : Past). p.quiet) is;
}

served-came : (old : Past) (e : Event) (answer : Reply) (new : Past) (fault : Option ℕ)
    → Serves fault old e answer new → Came old e (Ok answer) new
served-came old e answer new (Some first) h =
    WasFault first (ap (λ (r : Reply). Ok r) h.reply) (is-refused old e new h.after)
served-came old e answer new None h = by_room (has_room old.journal e) refl h
  where
    by_room : (b : Bool) → has_room old.journal e ≡ b
        → MatchBool b (Accepts old e answer new ⊎ FailsFirst old e answer new)
        (Refuses old e reply.Ended answer new) → Came old e (Ok answer) new
    by_room true room (inl accepts) =
        WasKept (ap (λ (r : Reply). Ok r) accepts.reply) accepts.after
    by_room true room (inr fails) =
        WasFault fails.count (ap (λ (r : Reply). Ok r) fails.reply) (record {
          journal = ap (λ (p : Past). p.journal) fails.after;
          shut = ap (λ (p : Past). p.shut) fails.after;
          quiet = ap (λ (p : Past). p.quiet) fails.after;
        })
    by_room false room refuses =
        WasEnded (ap (λ (r : Reply). Ok r) refuses.reply) room
        (is-refused old e new refuses.after)

pub step-came : (old : Past) (e : Event) (outcome : ReplyOrMemory) (new : Past)
    → Step old e outcome new → Came old e outcome new
step-came old e (Ok answer) new h = served-came old e answer new old.first_fault h
step-came old e (Err error) new h = RanOut error refl h

-- where each of them leads
pub refused-leads : EpochLaws → (old : Past) (e : Event) (new : Past) → HasRefused old e new
    → state_of new ≡ shut_by (state_of old) e
refused-leads laws old e new h =
    ap (λ j. state_after j new.shut) h.journal
    ∙ ap (state_after old.journal) h.shut
    ∙ laws.refused_leads old e

pub quieted-leads : (old : Past) (e : Event) → state_of (quieted old e) ≡ state_of old
quieted-leads old (event.Open name registered) = refl
quieted-leads old (event.Say conn m) = refl
quieted-leads old (event.Close conn) = refl
