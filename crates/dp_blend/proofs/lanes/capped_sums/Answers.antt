use Rattle.std.proofs.Common.{ℕ, ◌+◌, ◌-◌, ◌%◌, map, ap, ◌∙◌, ltb, w16, List}
use Rattle.std.specs.Simd.Lanes.{sel_l, zip2}
use Rattle.std.proofs.lemmas.Simd.{tops_compared}
use Rattle.dp_blend.proofs.LaneLemmas.{smaller_is, capped_is}
use Rattle.dp_blend.proofs.lanes.capped_sums.Goals as goal

pub returns : goal.returns
returns c =
    let v = c.args.values in
    let w = c.args.others in
    let room : List ℕ = map (λ x. 65535 - x) v in
    ap (λ m. zip2 (λ a b. (a + b) % 65536) v (sel_l m w room)) (tops_compared w16 ltb w room)
    ∙ ap (zip2 (λ a b. (a + b) % 65536) v) (smaller_is w room)
    ∙ capped_is v w c.fits-values.1
