use Rattle.std.proofs.Common.{refl, sym, ◌∙◌}
use Rattle.std.proofs.lemmas.Bool.{false≢true}
use Rattle.dp_commit.proofs.handing.if_given.Goals as goal

pub returns-then-names_given : goal.returns-then-names_given
returns-then-names_given c = λ s same.
    (refl, (c.names_given.ensures s same).0 c.if-names_given.true)

pub returns-else-names_given : goal.returns-else-names_given
returns-else-names_given c = λ s same given.
    false≢true (sym c.if-names_given.false ∙ (c.names_given.ensures s same).1 given)
