use Rattle.std.proofs.Common.{◌≡◌, refl, arith}
use Rattle.std.proofs.lemmas.Result.{err_from_is_err_and}
use Rattle.dp_msg_draw.proofs.Forms.{fails, layer_create, layer_title, put_image, put_tile}
use Rattle.dp_msg_draw.proofs.Forms.{dabs_round, dabs_square}
use Rattle.dp_msg_draw.proofs.reader.read_listed.Goals as goal

pub returns-in_err-id-in-130 : goal.returns-in_err-id-in-130
returns-in_err-id-in-130 c =
    let p = err_from_is_err_and c.from_residual.result c.from_residual.ensures.1 in
    rw (p.1, p.2)
    (fails c.args.payload.now c.in-130.is layer_create (λ x v. record
    { kind = refl; payload = refl; spelled = (v.0.0, v.0.1.0, v.1) })
    c.in_err-id-in-130.field-0.0 c.in_err-id-in-130.ensures)

pub returns-in_err-id-in-132 : goal.returns-in_err-id-in-132
returns-in_err-id-in-132 c =
    let p = err_from_is_err_and c.from_residual-in_err-id-in-132.result
    c.from_residual-in_err-id-in-132.ensures.1 in
    rw (p.1, p.2)
    (fails c.args.payload.now c.in-132.is layer_title (λ x v. record
    { kind = refl; payload = refl; spelled = v }) c.in_err-id-in-132.field-0.0
    c.in_err-id-in-132.ensures)

pub returns-in_err-layer-in-136 : goal.returns-in_err-layer-in-136
returns-in_err-layer-in-136 c =
    let p = err_from_is_err_and c.from_residual-in_err-layer-in-136.result
    c.from_residual-in_err-layer-in-136.ensures.1 in
    rw (p.1, p.2)
    (fails c.args.payload.now c.in-136.is put_image (λ x v. record {
      kind = refl;
      payload = refl;
      spelled = (
        v.0.0.0,
        v.0.0.1,
        v.0.1.0,
        v.0.1.1,
        v.1.0,
        v.1.1,
        v.1.2,
      );
    }) c.in_err-layer-in-136.field-0.0 c.in_err-layer-in-136.ensures)

pub returns-in_err-layer-in-146 : goal.returns-in_err-layer-in-146
returns-in_err-layer-in-146 c =
    let p = err_from_is_err_and c.from_residual-in_err-layer-in-146.result
    c.from_residual-in_err-layer-in-146.ensures.1 in
    rw (p.1, p.2)
    (fails c.args.payload.now c.in-146.is put_tile (λ x v. record
    { kind = refl; payload = refl; spelled = (v.0.0.0, v.0.0.1.0, v.0.0.1.1, v.0.1, v.1) })
    c.in_err-layer-in-146.field-0.0 c.in_err-layer-in-146.ensures)

pub returns-in_err-layer-in-149 : goal.returns-in_err-layer-in-149
returns-in_err-layer-in-149 c =
    let p = err_from_is_err_and c.from_residual-in_err-layer-in-149.result
    c.from_residual-in_err-layer-in-149.ensures.1 in
    rw (p.1, p.2)
    (fails c.args.payload.now c.in-149.is dabs_round (λ x v. record {
      kind = refl;
      payload = refl;
      spelled = (
        v.0.0.0,
        v.0.0.1.0,
        v.0.0.1.1,
        v.0.1.0.0,
        v.0.1.0.1.0,
        v.0.1.0.1.1,
        v.0.1.1,
        v.1,
      );
    }) c.in_err-layer-in-149.field-0.0
    c.in_err-layer-in-149.ensures)

pub returns-in_err-layer-in_default : goal.returns-in_err-layer-in_default
returns-in_err-layer-in_default c =
    let p = err_from_is_err_and c.from_residual-in_err-layer-in_default.result
    c.from_residual-in_err-layer-in_default.ensures.1 in
    let kind : c.args.kind ≡ 150 = grind arith in
    rw (p.1, p.2)
    (fails c.args.payload.now kind dabs_square (λ x v. record {
      kind = refl;
      payload = refl;
      spelled = (
        v.0.0.0,
        v.0.0.1.0,
        v.0.0.1.1,
        v.0.1.0.0,
        v.0.1.0.1.0,
        v.0.1.0.1.1,
        v.0.1.1,
        v.1,
      );
    }) c.in_err-layer-in_default.field-0.0
    c.in_err-layer-in_default.ensures)
