use Rattle.std.proofs.Common.{List, ℕ, set, ap, ◌∙◌, arith, refl}
use Rattle.dp_blend.specs.White.{rgb_on_white}
use Rattle.dp_blend.proofs.RowBytes.{put-all, put-more, read_at}
use Rattle.dp_blend.proofs.white.each_on_white.Goals as goal

pub loop-k-preserved : goal.loop-k-preserved
loop-k-preserved c =
    let k = c.loop-k.k in
    let pixels = c.args.pixels.now in
    let read = read_at pixels k _ c.index-pixels-k.is (omega arith) in
    put-more k _ pixels c.args.bytes.now c.loop-k.bytes _ (omega arith) refl
    (ap (λ (b : List ℕ). set c.loop-k.bytes k b)
    (c.rgb_on_white.ensures ∙ ap rgb_on_white read)) c.loop-k.invariant

pub returns : goal.returns
returns c =
    put-all c.loop-k.k c.args.pixels.now c.args.bytes.now c.loop-k.bytes c.requires.same_length
    (omega arith) c.loop-k.invariant
