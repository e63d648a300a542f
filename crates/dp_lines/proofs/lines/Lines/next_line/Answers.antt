use Rattle.std.proofs.Common.{sym, ◌∙◌}
use Rattle.dp_lines.proofs.Giving.{if_none, long_kept, long_still, none_ended}
use Rattle.dp_lines.proofs.lines.Lines.next_line.Goals as goal

-- the next line is the same before and after lines are passed over
pub returns-in-Some-clause-long : goal.returns-in-Some-clause-long
returns-in-Some-clause-long c n =
    let keeps = c.pass_over.ensures.keeps in
    let long = c.take_ended.ensures.long n in (
      λ err. long_kept c.args.self.now c.pass_over.new.self n keeps (long.0 err),
      λ next. long.1 (long_still c.args.self.now c.pass_over.new.self n keeps next),
    )

pub returns-in-None-clause-long : goal.returns-in-None-clause-long
returns-in-None-clause-long c n =
    let keeps = c.pass_over.ensures.keeps in
    let long = c.refuse_long_rest.ensures.long n in (
      λ err. long_kept c.args.self.now c.pass_over.new.self n keeps (long.0 err),
      λ next. long.1 (long_still c.args.self.now c.pass_over.new.self n keeps next),
    )

-- if no newline is held, no ended line is to come
pub returns-in-None-clause-none : goal.returns-in-None-clause-none
returns-in-None-clause-none c =
    if_none c.refuse_long_rest.result
    (sym c.pass_over.ensures.keeps.lines ∙ none_ended c.pass_over.new.self c.in-None.ensures.none)
