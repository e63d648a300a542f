use Rattle.std.proofs.Common.{sym}
use Rattle.dp_lines.specs.Lines.{words}
use Rattle.dp_schedule.proofs.OneJoinAction.{found_alone, found_line, none_alone, none_line}
use Rattle.dp_schedule.proofs.OneJoinAction.{one_word}
use Rattle.dp_schedule.proofs.Words.{two_words, no_word}
use Rattle.dp_schedule.proofs.join_parser.read_join_action.Goals as goal

pub returns-in_default-word_of-clause-some : goal.returns-in_default-word_of-clause-some
returns-in_default-word_of-clause-some c =
    found_alone c.args.line.now _
    (one_word (words c.args.line.now) c.in-Some.first.now (sym c.in-Some.ensures)
    (sym c.in_default-word_of.ensures))
    c.read_one.result c.read_one.ensures.some

pub returns-in_default-word_of-clause-none : goal.returns-in_default-word_of-clause-none
returns-in_default-word_of-clause-none c =
    none_alone c.args.line.now _
    (one_word (words c.args.line.now) c.in-Some.first.now (sym c.in-Some.ensures)
    (sym c.in_default-word_of.ensures))
    c.read_one.result c.read_one.ensures.none

pub returns-clause-some : goal.returns-clause-some
returns-clause-some c =
    found_line c.args.line.now _
    (two_words (words c.args.line.now) c.in-Some.first.now c.in-Some-word_of.second.now
    (sym c.in-Some.ensures) (sym c.in-Some-word_of.ensures)
    (no_word c.word_of-3.result _ c.word_of-3.ensures c.if-is_some.ensures))
    c.read_pair.result c.read_pair.ensures.some

pub returns-clause-none : goal.returns-clause-none
returns-clause-none c =
    none_line c.args.line.now _
    (two_words (words c.args.line.now) c.in-Some.first.now c.in-Some-word_of.second.now
    (sym c.in-Some.ensures) (sym c.in-Some-word_of.ensures)
    (no_word c.word_of-3.result _ c.word_of-3.ensures c.if-is_some.ensures))
    c.read_pair.result c.read_pair.ensures.none
