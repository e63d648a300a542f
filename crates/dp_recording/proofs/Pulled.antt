-- What the calls of a reader say of themselves, put together.
use Rattle.std.proofs.Common.{◌≡◌, ◌⊎◌, ℕ, IsTrue, List, [], ◌∷◌, ◌++◌, Option, Some}
use Rattle.std.proofs.Common.{None, Ok, Err, IfOk, arith, inl, inr, subst, sym, ◌∙◌}
use Rattle.std.specs.Prelude.{Result}
use Rattle.dp_messages.specs.declared.message.Entry.{Entry}
use Rattle.dp_messages.specs.declared.decoder.DecodeError.{DecodeError}
use Rattle.dp_entries.specs.declared.ends.ReadEnd.{ReadEnd}
use Rattle.dp_entries.specs.declared.ends.ReadEnd.TheVariants as read
use Rattle.dp_entries.specs.Reader.{HasRead, Reader, SameSource}
use Rattle.dp_entries.specs.Reading.{EndsWithInput, FaultMatchesReadEnd}
use Rattle.dp_io.specs.Limits.{stream_limit}
use Rattle.dp_recording.specs.Headers.{IsHeader}
use Rattle.dp_recording.specs.declared.header.Profile.{Profile}
use Rattle.dp_recording.specs.declared.reader.Phase.{Phase}
use Rattle.dp_recording.specs.declared.reader.Phase.TheVariants.{New, Failed}
use Rattle.dp_recording.specs.declared.reader.RecError.{RecError}
use Rattle.dp_recording.specs.declared.reader.RecError.TheVariants.{BadHeader, Truncated}
use Rattle.dp_recording.specs.declared.reader.RecError.TheVariants.{ReadFault, Memory}
use Rattle.dp_recording.specs.Pulled.{AnswersAgain, BeginsReading, IsOfCall, PullsNext}
use Rattle.dp_recording.specs.Pulled.{StopsEarly, StopsReading}
use Rattle.dp_recording.specs.Recordings.{EndsEarly, EndsRecording, GoesOn, HasReadAfter}
use Rattle.dp_recording.specs.Recordings.{HasReadOf, IsReading, error_of, limit_of, stands_in}
use Rattle.dp_recording.proofs.Taken.{began}

-- ---- after the header

-- an entry more was read
pub reads-on : (profile : Profile) (input : List ℕ) (left now : Option (List ℕ))
    (entries : List Entry) (entry : Entry) (old new : Reader)
    → SameSource old new → ¬ IsTrue new.ended
    → (HasRead (stands_in profile) input left entries old
    → HasRead (stands_in profile) input now (entries ++ entry ∷ []) new)
    → HasReadAfter profile (stands_in profile) input left entries old
    → HasReadAfter profile (stands_in profile) input now (entries ++ entry ∷ []) new
reads-on profile input left now entries entry old new same going given h = (
  subst (IsHeader input profile) (sym same.first) h.0,
  same.limit ∙ h.1,
  going,
  given h.3,
)

-- reading ended with this, by this call
pub of-call : (now : Option (List ℕ)) (before after : ℕ) (end : ReadEnd DecodeError)
    → EndsWithInput now end → FaultMatchesReadEnd before after end
    → IsOfCall now before after (error_of end)
of-call now before after (read.Truncated at) inside fault =
    record { inside = inside; fault = fault }
of-call now before after _ inside fault = record { inside = tt; fault = fault }

-- ---- the header

pub begins-reading : (left now : Option (List ℕ)) (before after : ℕ) (r : Result Phase RecError)
    → IfOk r (λ new. (bytes : List ℕ) → left ≡ Some bytes → HasReadOf bytes now [] new)
    → IfOk r IsReading → IfOk r (λ new. limit_of new ≡ stream_limit) → IfOk r GoesOn
    → after ≡ before
    → IfOk r (BeginsReading left now before after)
begins-reading left now before after (Err error) begun reads limit going kept = tt
begins-reading left now before after (Ok new) begun reads limit going kept =
    record { read = begun; reading = reads; limit = limit; goes_on = going; kept = kept }

-- it needs memory
pub stops-by-memory : (left now : Option (List ℕ)) (before after : ℕ) (error : RecError)
    → after ≡ before → error ≡ Memory → StopsEarly left now before after error
stops-by-memory left now before after error kept is =
    subst (StopsEarly left now before after) (sym is)
    (record { ends = λ bytes e. tt; cause = record { inside = tt; fault = kept } })

-- ---- the header, and then an entry

cause-after : (reading : Phase) (now : Option (List ℕ)) (before between after : ℕ)
    (error : RecError) → IsReading reading → between ≡ before
    → (reading ≡ Failed error) ⊎ IsOfCall now between after error
    → (New ≡ Failed error) ⊎ IsOfCall now before after error
cause-after reading now before between after error reads kept (inl failed) =
    absurd (subst IsReading failed reads)
cause-after reading now before between after error reads kept (inr cause) =
    inr (subst (λ n. IsOfCall now n after error) kept cause)

-- what a call pulls that read the header first
pub pulls-after : (left between now : Option (List ℕ)) (before then after : ℕ)
    (reading new : Phase) (result : Result (Option Entry) RecError)
    → BeginsReading left between before then reading
    → PullsNext between now then after reading new result
    → PullsNext left now before after New new result
pulls-after left between now before then after reading new (Ok (Some entry)) begun pulled =
    record {
      read =
          λ bytes entries h. pulled.read bytes entries
          (began bytes left between entries reading begun.read h);
      further = omega (arith, pulled.within, begun.limit);
      within = omega (arith, pulled.within, begun.limit);
      goes_on = pulled.goes_on;
      kept = pulled.kept ∙ begun.kept;
    }
pulls-after left between now before then after reading new (Ok None) begun pulled = record {
  read =
      λ bytes entries h. pulled.read bytes entries
      (began bytes left between entries reading begun.read h);
  at_end = λ going. pulled.at_end begun.goes_on;
  finished = pulled.finished;
  kept = pulled.kept ∙ begun.kept;
}
pulls-after left between now before then after reading new (Err error) begun pulled = record {
  ends =
      λ bytes entries h. pulled.ends bytes entries
      (began bytes left between entries reading begun.read h);
  failed = pulled.failed;
  cause =
      cause-after reading now before then after error begun.reading begun.kept pulled.cause;
}

-- how reading ended before the header was whole
early-ends : (input : List ℕ) (left : Option (List ℕ)) (entries : List Entry) (error : RecError)
    → entries ≡ [] → EndsEarly input left error → EndsRecording input left entries error
early-ends input left entries BadHeader none ends = ((none, ends.0), inl ends.1)
early-ends input left entries ReadFault none ends = inl ends
early-ends input left entries Memory none ends = tt
early-ends input left entries _ none ends = absurd ends

-- it gives no entry then
pub stops-early : (left now : Option (List ℕ)) (before after : ℕ) (new : Phase)
    (error : RecError) → StopsEarly left now before after error → new ≡ Failed error
    → StopsReading left now before after New new error
stops-early left now before after new error stops failed = record {
  ends = λ bytes entries h. early-ends bytes now entries error h.1 (stops.ends bytes h.0);
  failed = failed;
  cause = inr stops.cause;
}

-- ---- a reader that has ended

pub again-new : (left now : Option (List ℕ)) (before after : ℕ)
    (result : Result (Option Entry) RecError) → AnswersAgain left now before after New result
again-new left now before after result = record {
  failed = λ error is. absurd (subst GoesOn is tt);
  finished = λ is. absurd (subst GoesOn is tt);
}

-- what is said of a reader's state holds if it is written otherwise
pub pulls-so : (left now : Option (List ℕ)) (before after : ℕ) (old is new : Phase)
    (result : Result (Option Entry) RecError) → old ≡ is
    → PullsNext left now before after old new result → PullsNext left now before after is new result
pulls-so left now before after old is new result same pulled =
    subst (λ p. PullsNext left now before after p new result) same pulled

pub again-so : (left now : Option (List ℕ)) (before after : ℕ) (old is : Phase)
    (result : Result (Option Entry) RecError) → old ≡ is
    → AnswersAgain left now before after old result → AnswersAgain left now before after is result
again-so left now before after old is result same again =
    subst (λ p. AnswersAgain left now before after p result) same again
