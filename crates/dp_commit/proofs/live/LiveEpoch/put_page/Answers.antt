use Rattle.std.proofs.Common.{◌≡◌, None, map, take, sym, ap, subst, ◌∙◌}
use Rattle.dp_history.specs.Items.{entry_in}
use Rattle.dp_history.specs.Pages.{AnswersBy, IsPageOf}
use Rattle.dp_commit.specs.Pages.{answer_of}
use Rattle.dp_commit.proofs.ReadLemmas.{page-answers}
use Rattle.dp_commit.proofs.live.LiveEpoch.put_page.Goals as goal

pub returns-in_ok-count-in-Some-clause-page : goal.returns-in_ok-count-in-Some-clause-page
returns-in_ok-count-in-Some-clause-page c = λ s are.
    let J = c.args.journal.now in
    let due = c.in-Some.field-0 in
    let count = c.in_ok-count-in-Some.count in
    let same : take due.end (map (entry_in J) c.deref.result.now) ≡ take due.end s.live =
    ap (take due.end) (ap (map (entry_in J)) c.deref.ensures.value ∙ are.entries) in
    page-answers s.live _ c.due.result due count c.put_page.new.page
    (λ most. c.due.ensures s J most are) c.in-Some.is
    (subst (λ history. IsPageOf history due.at count c.put_page.new.page) same
    c.in_ok-count-in-Some.ensures.put)

pub returns-in-None-clause-page : goal.returns-in-None-clause-page
returns-in-None-clause-page c = λ s are. (
  0,
  subst (λ a. AnswersBy a None c.clear.new.self)
      (sym (c.due.ensures s c.args.journal.now 0 are ∙ ap (answer_of s.live 0) c.in-None.is))
      c.clear.ensures,
)
