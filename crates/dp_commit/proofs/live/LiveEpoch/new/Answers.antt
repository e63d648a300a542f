use Rattle.std.proofs.Common.{[], sym, subst, ◌∷◌}
use Rattle.dp_acl.specs.Table.{StandsFor}
use Rattle.dp_commit.proofs.live.LiveEpoch.new.Goals as goal

pub returns-clause-history : goal.returns-clause-history
returns-clause-history c = (c.in_ok-opening.ensures []).entries

pub returns-clause-said : goal.returns-clause-said
returns-clause-said c = (c.in_ok-opening.ensures []).said

pub returns-clause-stands : goal.returns-clause-stands
returns-clause-stands c =
    subst (λ r. StandsFor r (c.args.first ∷ [])) (sym c.into_inner.ensures)
    (c.in_ok-opening.ensures []).stands
