-- The summary is that of the drill's history.
use Rattle.std.proofs.Common.{◌≡◌, ◌∙◌, ℕ, IfOk, List, subst}
use Rattle.dp_drill.proofs.Texts.{text-is}
use Rattle.dp_drill.proofs.run.drill_text.Goals as goal

pub returns-clause-text : goal.returns-clause-text
returns-clause-text g c =
    subst (λ (t : List ℕ). IfOk c.summary_of-text.result (λ text. text.items ≡ t))
    (text-is c.args.drill.seed c.args.drill.rounds c.as_slice.result.now
    (c.as_slice.ensures ∙ c.in_ok-entries.ensures))
    c.summary_of-text.ensures.text
