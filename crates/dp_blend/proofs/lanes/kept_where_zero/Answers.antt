use Rattle.std.proofs.Common.{ap, ◌∙◌, eqb, replicate, w16}
use Rattle.std.specs.Simd.Lanes.{sel_l}
use Rattle.std.proofs.lemmas.Simd.{zip2_splat, tops_compared}
use Rattle.dp_blend.proofs.lanes.kept_where_zero.Goals as goal

pub returns : goal.returns
returns c =
    let zeros = tops_compared w16 eqb c.args.masks (replicate 8 0)
    ∙ zip2_splat eqb c.args.masks 8 0 c.fits-masks.0 in
    ap (λ m. sel_l m c.args.kept c.args.others) zeros
