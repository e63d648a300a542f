use Rattle.dp_lines.proofs.Seen.{given_seen, long_seen, cut_seen, whole_seen}
use Rattle.dp_lines.proofs.laws.lines_seen.Goals as goal

pub returns-clause-given : goal.returns-clause-given
returns-clause-given c = given_seen

pub returns-clause-long : goal.returns-clause-long
returns-clause-long c limit all more done held n left counts next =
    let s = long_seen limit all more done held n left counts next in
    (s.line, s.after, s.split, s.long, s.number)

pub returns-clause-cut : goal.returns-clause-cut
returns-clause-cut c = cut_seen

pub returns-clause-whole : goal.returns-clause-whole
returns-clause-whole c = whole_seen
