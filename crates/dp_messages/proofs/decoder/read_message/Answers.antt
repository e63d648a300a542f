use Rattle.std.proofs.Common.{refl}
use Rattle.dp_messages.proofs.Refusals.{RefusedSpellsNothing, only_message, only_refusal}
use Rattle.dp_messages.proofs.decoder.read_message.Goals as goal

pub returns-clause-only : goal.returns-clause-only
returns-clause-only c =
    let nothing : RefusedSpellsNothing = λ kind payload m why s refused. c.one_answer.ensures.either
    (record { kind = kind; user = 0; body = payload }) (record { user = 0; msg = m }) why
    (record { user = refl; spelled = s }) refused in
    only_message c.one_message.ensures.message nothing c.args.kind c.args.payload.now
    c.read_by_kind.result c.read_by_kind.ensures

pub returns-clause-due : goal.returns-clause-due
returns-clause-due c =
    let nothing : RefusedSpellsNothing = λ kind payload m why s refused. c.one_answer.ensures.either
    (record { kind = kind; user = 0; body = payload }) (record { user = 0; msg = m }) why
    (record { user = refl; spelled = s }) refused in
    only_refusal c.one_answer.ensures.refusal nothing c.args.kind c.args.payload.now
    c.read_by_kind.result c.read_by_kind.ensures
