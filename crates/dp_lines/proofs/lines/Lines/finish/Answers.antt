use Rattle.std.proofs.Common.{◌≡◌, [], sym, ◌∙◌}
use Rattle.dp_lines.specs.Held.{lines_from, given}
use Rattle.dp_lines.proofs.Giving.{if_none_then, further_lines, lines_kept, long_kept, long_still}
use Rattle.dp_lines.proofs.Giving.{none_lines}
use Rattle.dp_lines.proofs.lines.Lines.finish.Goals as goal

-- the lines to come are the same before and after lines are passed over
pub returns-in-Some-clause-lines : goal.returns-in-Some-clause-lines
returns-in-Some-clause-lines c =
    lines_kept c.args.self.now c.pass_over.new.self c.pass_over.ensures.keeps
    ∙ further_lines (given c.take_ended.result) c.pass_over.new.self c.take_ended.new.self
    c.take_ended.ensures.lines c.take_ended.ensures.count c.take_ended.ensures.rest

pub returns-in-Some-clause-long : goal.returns-in-Some-clause-long
returns-in-Some-clause-long c n =
    let keeps = c.pass_over.ensures.keeps in
    let long = c.take_ended.ensures.long n in (
      λ err. long_kept c.args.self.now c.pass_over.new.self n keeps (long.0 err),
      λ next. long.1 (long_still c.args.self.now c.pass_over.new.self n keeps next),
    )

-- if an ended line is to come, a line is
pub returns-in-Some-clause-memory : goal.returns-in-Some-clause-memory
returns-in-Some-clause-memory c err none =
    c.take_ended.ensures.memory
    (none_lines c.pass_over.new.self (sym (lines_kept c.args.self.now c.pass_over.new.self
    c.pass_over.ensures.keeps) ∙ none))

pub returns-in-None-clause-lines : goal.returns-in-None-clause-lines
returns-in-None-clause-lines c =
    lines_kept c.args.self.now c.pass_over.new.self c.pass_over.ensures.keeps
    ∙ c.take_rest.ensures.lines

pub returns-in-None-clause-none : goal.returns-in-None-clause-none
returns-in-None-clause-none c =
    let kept = lines_kept c.args.self.now c.pass_over.new.self c.pass_over.ensures.keeps in
    if_none_then c.take_rest.result (λ (none : lines_from c.pass_over.new.self ≡ []). kept ∙ none)
    c.take_rest.ensures.none

pub returns-in-None-clause-long : goal.returns-in-None-clause-long
returns-in-None-clause-long c n =
    let keeps = c.pass_over.ensures.keeps in
    let long = c.take_rest.ensures.long n in (
      λ err. long_kept c.args.self.now c.pass_over.new.self n keeps (long.0 err),
      λ next. long.1 (long_still c.args.self.now c.pass_over.new.self n keeps next),
    )

pub returns-in-None-clause-memory : goal.returns-in-None-clause-memory
returns-in-None-clause-memory c err none =
    c.take_rest.ensures.memory err
    (sym (lines_kept c.args.self.now c.pass_over.new.self c.pass_over.ensures.keeps) ∙ none)
