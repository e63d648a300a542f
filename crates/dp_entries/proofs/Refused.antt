-- Why a frame that isn't decoded gives no entry.
use Rattle.std.proofs.Common.{◌≡◌, ◌⊎◌, inl, inr, ℕ, List}
use Rattle.dp_messages.specs.declared.decoder.DecodeError.{DecodeError}
use Rattle.dp_messages.specs.declared.decoder.DecodeError.TheVariants as decode
use Rattle.dp_messages.specs.Decoded.{IsPayloadRefused}
use Rattle.dp_entries.specs.Anywhere.{refusal_of}
use Rattle.dp_entries.specs.Ends.{IfCause}

pub refused_for : (kind : ℕ) (body : List ℕ) (error : DecodeError)
    → (error ≡ decode.Memory) ⊎ IsPayloadRefused kind body error
    → IfCause (IsPayloadRefused kind body) (refusal_of error)
refused_for kind body (decode.Unknown k) (inl e) = cc (e)
refused_for kind body (decode.Unknown k) (inr refused) = refused
refused_for kind body (decode.Malformed k) (inl e) = cc (e)
refused_for kind body (decode.Malformed k) (inr refused) = refused
refused_for kind body decode.Memory why = tt
