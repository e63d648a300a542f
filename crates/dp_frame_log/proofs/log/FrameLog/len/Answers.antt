use Rattle.std.proofs.Common.{ap, ◌∙◌}
use Rattle.dp_frame_log.specs.Frames.{frame_count}
use Rattle.dp_frame_log.proofs.LogLemmas.{frames-count}
use Rattle.dp_frame_log.proofs.log.FrameLog.len.Goals as goal

pub returns-clause-entries : goal.returns-clause-entries
returns-clause-entries c = λ entries are.
    c.self.invariant ∙ ap frame_count c.self.view_is ∙ frames-count c.args.self.now entries are
