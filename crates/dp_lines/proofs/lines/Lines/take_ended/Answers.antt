use Rattle.std.proofs.Common.{length, ◌+◌, sym}
use Rattle.dp_lines.specs.Lines.{ended, open_rest}
use Rattle.dp_lines.specs.Held.{ended_from}
use Rattle.dp_lines.specs.Taken.{first_line, after_first}
use Rattle.dp_lines.proofs.Giving.{given_line, same_after, long_next, first_of_lines}
use Rattle.dp_lines.proofs.Numbering.{lines_after_kept, first_counted, rest_after}
use Rattle.dp_lines.proofs.lines.Lines.take_ended.Goals as goal

pub returns-clause-lines : goal.returns-clause-lines
returns-clause-lines c =
    given_line ended_from c.args.self.now c.take_line.new.self
    (after_first c.args.self.now (c.args.len + 1)) (first_line c.args.self.now c.args.len)
    c.take_line.result (lines_after_kept c.args.self.now c.args.len c.requires.end
    c.requires.first)
    c.take_line.ensures.line c.take_line.ensures.taken c.take_line.ensures.err

pub returns-clause-long : goal.returns-clause-long
returns-clause-long c =
    let first = first_of_lines c.args.self.now c.args.len c.requires.end c.requires.first in
    long_next c.args.self.now (first_line c.args.self.now c.args.len) first.0 c.take_line.result
    first.1
    c.take_line.ensures.long

pub returns-clause-memory : goal.returns-clause-memory
returns-clause-memory c none =
    let first = lines_after_kept c.args.self.now c.args.len c.requires.end c.requires.first in
    absurd (cc (first, none))

pub returns-clause-count : goal.returns-clause-count
returns-clause-count c =
    same_after (λ held. held.count + length (ended held.bytes)) c.args.self.now c.take_line.new.self
    (after_first c.args.self.now (c.args.len + 1)) c.take_line.result
    (first_counted c.args.self.now c.args.len c.requires.end) c.take_line.ensures.taken
    c.take_line.ensures.err

pub returns-clause-rest : goal.returns-clause-rest
returns-clause-rest c =
    same_after (λ held. open_rest held.bytes) c.args.self.now c.take_line.new.self
    (after_first c.args.self.now (c.args.len + 1)) c.take_line.result
    (sym (rest_after c.args.self.now.bytes c.args.len c.requires.end)) c.take_line.ensures.taken
    c.take_line.ensures.err
