use Rattle.std.proofs.Common.{◌==◌, rules, tests}
use Rattle.std.proofs.lemmas.Iterator.Consumers.{nth_from_yields_List}
use Rattle.std.proofs.lemmas.Iterator.Splits.{YieldsList-from_slice_split}
use Rattle.dp_schedule.proofs.parser.word_of.Goals as goal

-- the parts that the iterator gives are the words
pub returns : goal.returns
returns c =
    nth_from_yields_List c.nth.result _ c.args.k c.nth.ensures.ran
    (YieldsList-from_slice_split _ (λ byte. byte == 32) c.args.line.now
    c.split.ensures.rest c.split.ensures.done c.split.ensures.closure
    (λ x b q k. search (rules, tests)))
