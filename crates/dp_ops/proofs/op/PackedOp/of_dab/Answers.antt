use Rattle.std.proofs.Common.{Fits, SFits, refl, rules, w16, w8}
use Rattle.std.proofs.lemmas.Int.{to_z-of_z}
use Rattle.dp_ops.proofs.Ops.{dab_packed}
use Rattle.dp_ops.proofs.op.PackedOp.of_dab.Goals as goal

pub returns : goal.returns
returns c =
    let d = c.args.dab in
    let x : SFits w16 d.x = search rules in
    let y : SFits w16 d.y = search rules in
    let size : Fits w8 d.size = search rules in
    let opacity : Fits w8 d.opacity = search rules in
    dab_packed d _ _ c.raised.result c.raised-2.result c.shape_code.result c.code_of.result
    (rw (to_z-of_z w16 d.x x) at c.raised.ensures.value) c.raised.ensures.few
    (rw (to_z-of_z w16 d.y y) at c.raised-2.ensures.value) c.raised-2.ensures.few
    size.fits opacity.fits c.shape_code.ensures.value c.shape_code.ensures.few
    c.code_of.ensures.value
    c.code_of.ensures.few c.requires.4 refl refl
