use Rattle.std.proofs.Common.{◌≡◌, ◌++◌, sym, subst, ◌∙◌, append_assoc}
use Rattle.dp_acl.specs.Table.{StandsFor}
use Rattle.dp_commit.specs.Placed.{unboxed, IsWithSupply}
use Rattle.dp_commit.proofs.live.place.Goals as goal

pub returns-after-own-clause-stands : goal.returns-after-own-clause-stands
returns-after-own-clause-stands c = λ journal history next stands given.
    let first = unboxed c.in-Entries.first in
    let second = unboxed c.in-Entries.second in
    let is : next ≡ history ++ (first ++ second) =
    subst (λ p. IsWithSupply journal p history next) c.in-Entries.is given in
    subst (StandsFor c.place_server-in-Entries.new.rights)
    (append_assoc history first second ∙ sym is)
    (c.place_server-in-Entries.ensures.stands (history ++ first)
    (c.place_server.ensures.stands history stands))
