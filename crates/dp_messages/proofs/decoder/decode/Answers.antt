use Rattle.std.proofs.Common.{ℕ, List, Ok, inl, ap, subst}
use Rattle.dp_messages.specs.Messages.{Spells}
use Rattle.dp_messages.specs.Decoded.{Carries}
use Rattle.dp_messages.proofs.decoder.decode.Goals as goal

pub returns-clause-only : goal.returns-clause-only
returns-clause-only c = λ e carries.
    let here = subst (λ (kind : ℕ). Spells kind c.body.result.now c.in_ok-msg.msg)
    c.kind.ensures.value c.in_ok-msg.ensures.found in
    let spelled = subst (λ (body : List ℕ). Spells c.args.frame.now.kind body c.in_ok-msg.msg)
    c.body.ensures.value here in
    let found : Carries c.args.frame.now (record { user = c.user.result; msg = c.in_ok-msg.msg }) =
    record { user = c.user.ensures.value; spelled = spelled } in
    inl (ap Ok (c.one_answer.ensures.entry c.args.frame.now _ e found carries))
