use Rattle.std.proofs.Common.{◌≡◌, ◌∷◌, ap, ◌∙◌}
use Rattle.std.proofs.lemmas.Result.{err_from_is_err_and}
use Rattle.dp_msg_draw.proofs.Forms.{content_fails}
use Rattle.dp_msg_draw.proofs.tails.TileContentTail.read.Goals as goal

pub returns-in_err-read_pixels-in-Some-eq1-default :
    goal.returns-in_err-read_pixels-in-Some-eq1-default
returns-in_err-read_pixels-in-Some-eq1-default c =
    let p = err_from_is_err_and c.from_residual.result c.from_residual.ensures.1 in
    let form = c.in-Some-eq1-default in
    let bytes : c.args.bytes.now ≡ 1 ∷ form.rest.now = form.ensures.some.bytes_are
    ∙ ap (λ n. n ∷ form.rest.now) form.field-0-0-test in
    rw (p.1, p.2) (content_fails bytes c.in_err-read_pixels-in-Some-eq1-default.field-0.0
    c.in_err-read_pixels-in-Some-eq1-default.ensures)
