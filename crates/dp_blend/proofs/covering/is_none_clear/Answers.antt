use Rattle.std.proofs.Common.{◌+◌, ◌*◌, min, slice_index, arith, ap, ◌∙◌, subst}
use Rattle.std.specs.Simd.Lanes.{zip2}
use Rattle.std.proofs.lemmas.Bool.{ltb-true}
use Rattle.std.proofs.lemmas.List.{take_all}
use Rattle.dp_blend.proofs.Least.{AreAtLeast, least-more}
use Rattle.dp_blend.proofs.covering.is_none_clear.Goals as goal

pub loop-k-preserved : goal.loop-k-preserved
loop-k-preserved c =
    least-more c.loop-k.least c.smaller_of-least.result c.args.sources.now (2 * c.loop-k.k)
    (2 * (c.loop-k.k + 1)) c.index-sources-k.result c.index-sources-k-in-loop-k.result
    c.loop-k.auto.least.0 (omega arith) (omega arith) c.index-sources-k.is
    c.index-sources-k-in-loop-k.is
    (c.smaller_of-least.ensures ∙ ap (zip2 min c.loop-k.least) c.lanes_of.ensures.value)
    c.loop-k.invariant

pub returns-then-first-gt0 : goal.returns-then-first-gt0
returns-then-first-gt0 c positive =
    let xs = c.args.sources.now in
    let all = subst (AreAtLeast c.loop-k.least) (take_all (2 * c.loop-k.k) xs (omega arith))
    c.loop-k.invariant in
    let second = ltb-true 0 (slice_index c.loop-k.least 7) positive in
    λ i d below. omega (arith, all i d below, c.if-first-gt0.true, second)
