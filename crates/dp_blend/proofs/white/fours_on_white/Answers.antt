use Rattle.std.proofs.Common.{◌*◌, ◌+◌, arith}
use Rattle.dp_blend.proofs.RowBytes.{put-all, put-four}
use Rattle.dp_blend.proofs.white.fours_on_white.Goals as goal

pub loop-k-preserved : goal.loop-k-preserved
loop-k-preserved c =
    put-four (4 * c.loop-k.k) (4 * (c.loop-k.k + 1)) c.args.pixels.now c.args.bytes.now
    c.loop-k.bytes _ (omega arith) (omega arith) c.four_on_white.ensures c.loop-k.invariant

pub returns : goal.returns
returns c =
    put-all (4 * c.loop-k.k) c.args.pixels.now c.args.bytes.now c.loop-k.bytes
    c.requires.same_length (omega arith) c.loop-k.invariant
