use Rattle.std.proofs.Common.{[], refl}
use Rattle.dp_hall.proofs.LawLemmas.{back-close}
use Rattle.dp_crew.proofs.CrewLemmas.{serves-all, serves-nothing}
use Rattle.dp_crew.proofs.laws.crews_add_up.Goals as goal

pub returns-clause-first : goal.returns-clause-first
returns-clause-first g c m = record {
  name = refl;
  mine = refl;
  olds = refl;
  back = λ n h. absurd h;
}

pub returns-clause-alone : goal.returns-clause-alone
returns-clause-alone g c see start most v old new reports flags h = back-close v h.name h.back

pub returns-clause-closed : goal.returns-clause-closed
returns-clause-closed g c see start last most v old new reports flags begins h closes =
    serves-all g.S.Reporting.rules g.M.Machine.may_step see start last most
    c.reports_go_on.ensures begins v old new reports flags h closes

pub returns-clause-nothing : goal.returns-clause-nothing
returns-clause-nothing g c see start most wires flags memory fault wire =
    serves-nothing g.S.Reporting.rules see start most g.M.Machine.may_step
    wires [] flags refl memory
    fault wire
