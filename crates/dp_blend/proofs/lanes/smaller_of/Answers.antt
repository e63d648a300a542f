use Rattle.std.proofs.Common.{ap, ◌∙◌, ltb, w16}
use Rattle.std.specs.Simd.Lanes.{sel_l}
use Rattle.std.proofs.lemmas.Simd.{tops_compared}
use Rattle.dp_blend.proofs.LaneLemmas.{smaller_is}
use Rattle.dp_blend.proofs.lanes.smaller_of.Goals as goal

pub returns : goal.returns
returns c =
    let v = c.args.values in
    let w = c.args.limits in
    ap (λ m. sel_l m v w) (tops_compared w16 ltb v w) ∙ smaller_is v w
