use Rattle.std.proofs.lemmas.Result.{err_from_is_err_and}
use Rattle.dp_msg_draw.proofs.Forms.{image_fails}
use Rattle.dp_msg_draw.proofs.tails.ImageTail.read.Goals as goal

pub returns-in_default : goal.returns-in_default
returns-in_default c = λ i s.
    c.in_default.ensures.none (i.w, i.h) _ (record {
      bytes_are = s.bytes_are;
      is_valid =
          (s.is_valid.0, s.is_valid.1);
    })

pub returns-in_err-read_items : goal.returns-in_err-read_items
returns-in_err-read_items c =
    let p = err_from_is_err_and c.from_residual.result c.from_residual.ensures.1 in
    let area = c.in-Some-area.ensures.some in
    rw (p.1, p.2) (image_fails c.in-Some.w c.in-Some.h c.in-Some-area.area c.in-Some.ensures.some
    area.0 area.1 area.2 area.3 c.in_err-read_items.field-0.0 c.in_err-read_items.ensures)
