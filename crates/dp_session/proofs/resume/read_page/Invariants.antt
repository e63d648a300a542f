use Rattle.std.proofs.Common.{take, Ok}
use Rattle.dp_session.specs.Resuming.{ReadsPage}
use Rattle.dp_session.proofs.resume.read_page.Given as goal

-- the events of the rows so far were kept
abbrev pub invariant-loop-row : goal.invariant-loop-row
invariant-loop-row l = ReadsPage l.fn.tables (take l.row-index l.page) (Ok tt) l.tables
