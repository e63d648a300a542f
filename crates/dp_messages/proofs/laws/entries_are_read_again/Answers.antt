use Rattle.std.proofs.Common.{refl, arith}
use Rattle.dp_messages.specs.Messages.{kind_of, payload_of}
use Rattle.dp_messages.proofs.laws.entries_are_read_again.Goals as goal

pub returns-clause-frame : goal.returns-clause-frame
returns-clause-frame c = λ e spelled.
    let short = c.one_message.ensures.short (kind_of e.msg) (payload_of e.msg) e.msg
    (record { kind = refl; payload = refl; spelled = spelled }) in
    omega (arith, short)

pub returns-clause-carries : goal.returns-clause-carries
returns-clause-carries c = λ e spelled. record {
  user = refl;
  spelled = record { kind = refl; payload = refl; spelled = spelled };
}
