use Rattle.std.proofs.Common.{sym}
use Rattle.dp_lines.specs.Lines.{words}
use Rattle.dp_schedule.proofs.Words.{two_words, three_words, no_word, found_asked, none_asked}
use Rattle.dp_schedule.proofs.parser.read_action.Goals as goal

pub returns-in_default-word_of-2-clause-some : goal.returns-in_default-word_of-2-clause-some
returns-in_default-word_of-2-clause-some c =
    found_asked c.args.line.now _
    (two_words (words c.args.line.now) c.in-Some.first.now c.in-Some-word_of.second.now
    (sym c.in-Some.ensures) (sym c.in-Some-word_of.ensures) (sym c.in_default-word_of-2.ensures))
    c.read_two.result c.read_two.ensures.some

pub returns-in_default-word_of-2-clause-none : goal.returns-in_default-word_of-2-clause-none
returns-in_default-word_of-2-clause-none c =
    none_asked c.args.line.now _
    (two_words (words c.args.line.now) c.in-Some.first.now c.in-Some-word_of.second.now
    (sym c.in-Some.ensures) (sym c.in-Some-word_of.ensures) (sym c.in_default-word_of-2.ensures))
    c.read_two.result c.read_two.ensures.none

pub returns-clause-some : goal.returns-clause-some
returns-clause-some c =
    found_asked c.args.line.now _
    (three_words (words c.args.line.now) c.in-Some.first.now c.in-Some-word_of.second.now
    c.in-Some-word_of-2.third.now (sym c.in-Some.ensures) (sym c.in-Some-word_of.ensures)
    (sym c.in-Some-word_of-2.ensures) (no_word c.word_of-4.result _ c.word_of-4.ensures
    c.if-is_some.ensures))
    c.read_three.result c.read_three.ensures.some

pub returns-clause-none : goal.returns-clause-none
returns-clause-none c =
    none_asked c.args.line.now _
    (three_words (words c.args.line.now) c.in-Some.first.now c.in-Some-word_of.second.now
    c.in-Some-word_of-2.third.now (sym c.in-Some.ensures) (sym c.in-Some-word_of.ensures)
    (sym c.in-Some-word_of-2.ensures) (no_word c.word_of-4.result _ c.word_of-4.ensures
    c.if-is_some.ensures))
    c.read_three.result c.read_three.ensures.none
