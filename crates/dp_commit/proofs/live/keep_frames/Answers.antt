use Rattle.std.proofs.Common.{map, sym, subst, arith}
use Rattle.dp_history.specs.Items.{entry_in}
use Rattle.dp_commit.specs.Placed.{AreFramesWith}
use Rattle.dp_commit.proofs.live.keep_frames.Goals as goal

pub returns-in-Opens : goal.returns-in-Opens
returns-in-Opens c =
    subst (λ s. AreFramesWith (map (entry_in c.args.journal.now) c.args.live.now) c.args.from s
    c.args.frames.now c.keep.new.self) (sym c.in-Opens.is)
    (λ before long. c.keep.ensures.made before
    (omega (arith, c.len.ensures, c.in-Opens.opening.live.ok.0, long)))
