use Rattle.std.proofs.Common.{◌==◌, ◌∙◌, rules, tests}
use Rattle.std.proofs.lemmas.Iterator.Consumers.{count_from_yields_List}
use Rattle.std.proofs.lemmas.Iterator.Splits.{YieldsList-from_slice_split}
use Rattle.dp_lines.proofs.words.word_count.Goals as goal

-- the parts that the iterator gives are the words
pub returns : goal.returns
returns c =
    count_from_yields_List c.split.result c.count.result c.count.ensures.ran
    (YieldsList-from_slice_split _ (λ byte. byte == 32) c.args.line.now.bytes
    (c.split.ensures.rest ∙ c.as_slice.ensures) c.split.ensures.done c.split.ensures.closure
    (λ x b q k. search (rules, tests)))
