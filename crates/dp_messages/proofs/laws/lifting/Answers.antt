use Rattle.std.proofs.Common.{sym, subst}
use Rattle.dp_messages.specs.Messages.{Spells}
use Rattle.dp_messages.proofs.KindSeventy.{is_opaque, opaque_is, other_kind}
use Rattle.dp_messages.proofs.laws.lifting.Goals as goal

pub returns-clause-depth : goal.returns-clause-depth
returns-clause-depth c = λ payload m. (
  is_opaque (record {
    control = c.one_control.ensures.kind;
    meta = c.one_meta.ensures.kind;
    draw = λ m kind payload s. c.one_draw.ensures.kind kind payload m s;
  }) payload m,
  opaque_is payload m,
)

pub returns-clause-other : goal.returns-clause-other
returns-clause-other c = λ kind payload m other. (
  subst (λ k. Spells k payload m) (other_kind kind other),
  subst (λ k. Spells k payload m) (sym (other_kind kind other)),
)
