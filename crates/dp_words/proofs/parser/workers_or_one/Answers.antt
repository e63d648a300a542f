-- A word that is there is the number of workers.
use Rattle.std.proofs.Common.{◌∙◌, ap, option_map, sym}
use Rattle.dp_words.proofs.Asking.{some-or-one}
use Rattle.dp_words.proofs.parser.workers_or_one.Goals as goal

pub returns-in-Some-clause-none : goal.returns-in-Some-clause-none
returns-in-Some-clause-none c =
    some-or-one _ c.in-Some.field-0.now c.workers_of.result
    (sym c.value_of.ensures ∙ ap (option_map (λ s. s.now)) c.in-Some.is)
    c.workers_of.ensures.none
