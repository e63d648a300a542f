use Rattle.std.proofs.Common.{sym, ap, subst, length, ◌∙◌}
use Rattle.dp_msg_meta.specs.Fields.{RiseFrom}
use Rattle.dp_acl.specs.Carried.{carried}
use Rattle.dp_commit.proofs.opening.carry.Goals as goal

pub carry-requires : goal.carry-requires
carry-requires c = subst (RiseFrom 1) (sym c.in_ok-present.ensures) c.requires

pub returns-clause-users : goal.returns-clause-users
returns-clause-users c = ap length (c.as_slice.ensures.value ∙ c.in_ok-present.ensures)

pub returns-clause-metas : goal.returns-clause-metas
returns-clause-metas c = λ history stands.
    c.in_ok-metas.ensures history stands ∙ ap (carried history) c.in_ok-present.ensures
