-- How reading a recording for a picture ends.
use Rattle.std.proofs.Common.{◌≡◌, ◌⊎◌, ℕ, ◌-◌, List, [], ◌∷◌, ◌++◌, refl, sym, ap, ◌∙◌, subst}
use Rattle.std.proofs.Common.{inl, inr, arith}
use Rattle.std.proofs.Math.Seq.{take-nil}
use Rattle.std.specs.Prelude.{Option, Some, None, IfSome, Result, Ok, Err, OnOk, is_err}
use Rattle.std.specs.Prelude.{Bool, true, false}
use Rattle.dp_messages.specs.declared.message.Entry.{Entry}
use Rattle.dp_lines.specs.declared.run_end.RunEnd.TheVariants as run
use Rattle.dp_recording.specs.declared.reader.Phase.{Phase}
use Rattle.dp_recording.specs.declared.reader.Phase.TheVariants.{New, Finished, Failed}
use Rattle.dp_recording.specs.declared.reader.RecError.{RecError}
use Rattle.dp_recording.specs.declared.reader.RecError.TheVariants.{BadHeader, Truncated, Message}
use Rattle.dp_recording.specs.declared.reader.RecError.TheVariants.{ReadFault, Long, Memory}
use Rattle.dp_recording.specs.Pulled.{IsOfCall}
use Rattle.dp_recording.specs.Recordings.{EndsRecording, EndsWithInput, FaultMatchesError, GoesOn}
use Rattle.dp_recording.specs.Recordings.{HasReadOf, end_of}
use Rattle.std.specs.Io.KnownBytes.{IsAtEnd}
use Rattle.dp_msg_draw.specs.declared.draw.Draw.{Draw}
use Rattle.dp_plain.specs.Board.{Board}
use Rattle.dp_trailing.specs.Trailing.{Trailing}
use Rattle.dp_viewer.specs.Reading.{ShowsFirst}
use Rattle.dp_viewer.specs.Ways.{first_of, play_way}
use Rattle.dp_viewer.specs.Reading.{AreDue, EndsReading, FaultMatchesWay, ReadsToEnd}
use Rattle.dp_viewer.specs.Reading.{TrailsShown}

-- what holds if a call answers `Ok`, if it didn't answer an error
pub on-no-error : {A E P : Type 0} (r : Result A E) (b : Bool) → b ≡ is_err r → b ≡ false
    → OnOk r P → P
on-no-error (Ok a) b is passed on = on
on-no-error (Err e) b is passed on = let f : true ≡ false = sym is ∙ passed in absurd cc

-- of no entries the first are none
none-first : (at : Option ℕ) → [] ≡ first_of at []
none-first None = refl
none-first (Some n) = sym (take-nil n)

-- before the first entry all are due
all-due : (at : Option ℕ) → AreDue at [] at
all-due None = refl
all-due (Some n) = let all : n ≡ n - 0 = omega arith in ap Some all

-- nothing is read yet
pub shows-first : (at : Option ℕ) (input : Option (List ℕ)) (board : Trailing Board Draw)
    (r : Phase) → TrailsShown board [] → r ≡ New → ShowsFirst at input input board at r
shows-first at None board r blank new = tt
shows-first at (Some bytes) board r blank new = (
  [],
  subst (HasReadOf bytes (Some bytes) []) (sym new) (refl, refl),
  subst (TrailsShown board) (none-first at) blank,
  all-due at,
)

-- one entry more
pub shows-further : (at : Option ℕ) (input left now : Option (List ℕ))
    (board later : Trailing Board Draw) (due less : Option ℕ) (entry : Entry) (old new : Phase)
    → ((bytes : List ℕ) (es : List Entry) → HasReadOf bytes left es old
    → HasReadOf bytes now (es ++ entry ∷ []) new)
    → ((at : Option ℕ) (all : List Entry) → AreDue at all due → TrailsShown board (first_of at all)
    → TrailsShown later (first_of at (all ++ entry ∷ [])))
    → ((at : Option ℕ) (all : List Entry) → AreDue at all due → AreDue at (all ++ entry ∷ []) less)
    → ShowsFirst at input left board due old → ShowsFirst at input now later less new
shows-further at None left now board later due less entry old new given more fewer told = tt
shows-further at (Some bytes) left now board later due less entry old new given more fewer
    (all, read, trails, are) = (
      all ++ entry ∷ [],
      given bytes all read,
      more at all are trails,
      fewer at all are,
    )

-- the recording came to its end
pub shows-done : (at : Option ℕ) (input left now : Option (List ℕ)) (board : Trailing Board Draw)
    (due : Option ℕ) (old : Phase)
    → ((bytes : List ℕ) (es : List Entry) → HasReadOf bytes left es old
    → HasReadOf bytes now es Finished)
    → ShowsFirst at input left board due old
    → IfSome input (λ bytes. EndsReading (play_way at) bytes now board run.Done)
shows-done at None left now board due old done told = tt
shows-done at (Some bytes) left now board due old done (all, read, trails, are) =
    (all, (done bytes all read).0, trails)

ends-of : (at : Option ℕ) (bytes : List ℕ) (left : Option (List ℕ)) (board : Trailing Board Draw)
    (all : List Entry) (error : RecError) → EndsRecording bytes left all error
    → TrailsShown board (first_of at all)
    → EndsReading (play_way at) bytes left board (end_of error)
ends-of at bytes left board all BadHeader ends trails = ((all, ends.0), ends.1)
ends-of at bytes left board all (Truncated n) ends trails = (all, ends.0, trails)
ends-of at bytes left board all (Message n why) ends trails = ((all, ends.0), ends.1)
ends-of at bytes left board all ReadFault ends trails = ends
ends-of at bytes left board all Long ends trails = ((all, ends.0), ends.1)
ends-of at bytes left board all Memory ends trails = tt

-- reading ended with this
pub shows-end : (at : Option ℕ) (input left now : Option (List ℕ)) (board : Trailing Board Draw)
    (due : Option ℕ) (old : Phase) (error : RecError)
    → ((bytes : List ℕ) (es : List Entry) → HasReadOf bytes left es old
    → EndsRecording bytes now es error)
    → ShowsFirst at input left board due old
    → IfSome input (λ bytes. EndsReading (play_way at) bytes now board (end_of error))
shows-end at None left now board due old error ends told = tt
shows-end at (Some bytes) left now board due old error ends (all, read, trails, are) =
    ends-of at bytes now board all error (ends bytes all read) trails

fault_matches-of : (at : Option ℕ) (before now : ℕ) (error : RecError)
    → FaultMatchesError before now error
    → FaultMatchesWay (play_way at) before now (end_of error)
fault_matches-of at before now BadHeader fault = (tt, fault)
fault_matches-of at before now (Truncated n) fault = fault
fault_matches-of at before now (Message n why) fault = fault
fault_matches-of at before now ReadFault fault = fault
fault_matches-of at before now Long fault = fault
fault_matches-of at before now Memory fault = fault

-- a reader that goes on blames what it answers
pub fault_matches-going : (at : Option ℕ) (now : Option (List ℕ)) (before after : ℕ) (old : Phase)
    (error : RecError) → GoesOn old → (old ≡ Failed error) ⊎ IsOfCall now before after error
    → FaultMatchesWay (play_way at) before after (end_of error)
fault_matches-going at now before after old error going (inl failed) =
    absurd (subst GoesOn failed going)
fault_matches-going at now before after old error going (inr cause) =
    fault_matches-of at before after error cause.fault

at_end-of : (now : Option (List ℕ)) (error : RecError) → EndsWithInput now error
    → ReadsToEnd (end_of error) → IsAtEnd now
at_end-of now BadHeader inside to_end = absurd to_end
at_end-of now (Truncated n) inside to_end = inside
at_end-of now (Message n why) inside to_end = absurd to_end
at_end-of now ReadFault inside to_end = absurd to_end
at_end-of now Long inside to_end = absurd to_end
at_end-of now Memory inside to_end = absurd to_end

-- and if it answers that the input ended inside a frame, it has read to its end
pub at_end-going : (now : Option (List ℕ)) (before after : ℕ) (old : Phase) (error : RecError)
    → GoesOn old → (old ≡ Failed error) ⊎ IsOfCall now before after error
    → ReadsToEnd (end_of error) → IsAtEnd now
at_end-going now before after old error going (inl failed) = absurd (subst GoesOn failed going)
at_end-going now before after old error going (inr cause) = at_end-of now error cause.inside
