use Rattle.std.proofs.Common.{[]}
use Rattle.std.proofs.lemmas.List.Elements.{All-nil}
use Rattle.dp_lines.specs.Lines.{Lacks, newline}
use Rattle.dp_world.proofs.Due.{draws_by_due, grows_by_due}
use Rattle.dp_world.proofs.laws.reports_are_due.Goals as goal

pub returns-clause-report : goal.returns-clause-report
returns-clause-report c bytes left old now counters end leaves =
    grows_by_due c.one_action.ensures.one c.further_step.ensures.more c.further_step.ensures.none
    (record {
      lacks = c.whole_lines.ensures.rest;
      only = λ rest lacks. c.whole_lines.ensures.only [] rest (All-nil (Lacks newline)) lacks;
    })
    bytes old now counters left end leaves

pub returns-clause-draws : goal.returns-clause-draws
returns-clause-draws c bytes left old now counters end leaves =
    draws_by_due c.one_action.ensures.one c.further_step.ensures.more c.further_step.ensures.none
    (record {
      lacks = c.whole_lines.ensures.rest;
      only = λ rest lacks. c.whole_lines.ensures.only [] rest (All-nil (Lacks newline)) lacks;
    })
    bytes old now counters left end leaves
