use Rattle.std.proofs.Common.{◌≡◌, List, ℕ, Option, Some, None, Result, Ok, Err, ap, ◌∙◌, subst}
use Rattle.std.specs.Prelude.{IfOk, IfNone}
use Rattle.dp_lines.specs.Hexadecimal.{hex_bytes}
use Rattle.dp_messages.specs.declared.message.Msg.{Msg}
use Rattle.dp_schedule.specs.LineGrammar.{MaySay, HexSpells}
use Rattle.dp_schedule.proofs.parser.message_of.Goals as goal

-- if no message may be said by the bytes of the digits, the digits spell none
none_spelled : {E : Type 0} (digits bytes : List ℕ) (r : Result (Option Msg) E)
    → Some bytes ≡ hex_bytes digits
    → IfOk r (λ found. IfNone found ((m : Msg) → ¬ MaySay bytes m))
    → IfOk r (λ found. IfNone found ((m : Msg) → ¬ HexSpells digits m))
none_spelled digits bytes (Err e) is none = tt
none_spelled digits bytes (Ok (Some m)) is none = tt
none_spelled digits bytes (Ok None) is none =
    λ m spells.
    let digits_too = spells.digits in
    let same : spells.bytes ≡ bytes = cc in
    none m (subst (λ (b : List ℕ). MaySay b m) same spells.may)

pub returns-clause-none : goal.returns-clause-none
returns-clause-none c =
    none_spelled c.args.digits.now c.as_slice.result.now c.said_of.result
    (ap Some c.as_slice.ensures.value ∙ (rw c.in-Some.is at c.in_ok-bytes.ensures))
    c.said_of.ensures.none
