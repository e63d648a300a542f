-- Each write appends the bytes after those that were written before.
use Rattle.std.proofs.Common.{◌∙◌, arith}
use Rattle.std.proofs.lemmas.Grind.{common_steps}
use Rattle.dp_io.proofs.WriteRuns.{appends_more}
use Rattle.dp_io.proofs.sink.put_all.Goals as goal

pub loop-at-preserved : goal.loop-at-preserved
loop-at-preserved g c = record {
  within = grind (arith, common_steps);
  written = appends_more _ _ _ _ _ _ c.loop-at.invariant.written c.in_ok-at.ensures.bytes;
  kept = c.in_ok-at.ensures.cause.kept ∙ c.loop-at.invariant.kept;
}
