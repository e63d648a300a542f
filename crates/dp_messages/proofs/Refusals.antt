-- A payload has one answer, unless memory runs out.
use Rattle.std.proofs.Common.{◌≡◌, ◌⊎◌, ℕ, List, Result, Ok, Err, inl, inr, refl, ap}
use Rattle.dp_messages.specs.declared.message.Msg.{Msg}
use Rattle.dp_messages.specs.declared.decoder.DecodeError.{DecodeError}
use Rattle.dp_messages.specs.declared.decoder.DecodeError.TheVariants.{Unknown, Malformed, Memory}
use Rattle.dp_messages.specs.Messages.{Spells}
use Rattle.dp_messages.specs.Decoded.{IsPayloadRefused, Answers}
use Rattle.dp_messages.proofs.OneMessage.{OneMessage}

-- what is refused spells nothing
abbrev pub RefusedSpellsNothing : Type 0
RefusedSpellsNothing = (kind : ℕ) (payload : List ℕ) (m : Msg) (why : DecodeError)
    → Spells kind payload m → IsPayloadRefused kind payload why → ⊥

-- a payload is refused in one way
abbrev pub OneRefusal : Type 0
OneRefusal = (kind : ℕ) (payload : List ℕ) (e f : DecodeError) → IsPayloadRefused kind payload e
    → IsPayloadRefused kind payload f → e ≡ f

pub only_message : OneMessage → RefusedSpellsNothing → (kind : ℕ) (payload : List ℕ)
    (r : Result Msg DecodeError) → Answers kind payload r → (m : Msg) → Spells kind payload m
    → (r ≡ Ok m) ⊎ (r ≡ Err Memory)
only_message one nothing kind payload (Ok n) found m s = inl (ap Ok (one kind payload n m found s))
only_message one nothing kind payload (Err Memory) there m s = inr refl
only_message one nothing kind payload (Err (Unknown k)) why m s = absurd
    (nothing kind payload m (Unknown k) s why)
only_message one nothing kind payload (Err (Malformed k)) why m s = absurd
    (nothing kind payload m (Malformed k) s why)

pub only_refusal : OneRefusal → RefusedSpellsNothing → (kind : ℕ) (payload : List ℕ)
    (r : Result Msg DecodeError) → Answers kind payload r → (why : DecodeError)
    → IsPayloadRefused kind payload why → (r ≡ Err why) ⊎ (r ≡ Err Memory)
only_refusal one nothing kind payload (Ok n) found why s = absurd
    (nothing kind payload n why found s)
only_refusal one nothing kind payload (Err Memory) there why s = inr refl
only_refusal one nothing kind payload (Err (Unknown k)) refused why s = inl
    (ap Err (one kind payload (Unknown k) why refused s))
only_refusal one nothing kind payload (Err (Malformed k)) refused why s = inl
    (ap Err (one kind payload (Malformed k) why refused s))
