use Rattle.std.proofs.Common.{ap, ◌∙◌, eqb, replicate, w16}
use Rattle.std.specs.Simd.Lanes.{sel_l}
use Rattle.std.proofs.lemmas.Simd.{zip2_splat, tops_compared}
use Rattle.dp_blend.proofs.LaneLemmas.{products_is}
use Rattle.dp_blend.proofs.lanes.products.Goals as goal

pub returns : goal.returns
returns c =
    let v = c.args.values in
    let f = c.args.factors in
    let ones = tops_compared w16 eqb f (replicate 8 32768)
    ∙ zip2_splat eqb f 8 32768 c.fits-factors.0 in
    ap (λ m. sel_l m v c.high_halves.result) ones ∙ ap (sel_l _ v) c.high_halves.ensures
    ∙ products_is v f c.requires
