use Rattle.std.proofs.Common.{◌∙◌, sym, arith}
use Rattle.dp_ops.proofs.Puts.{has_between, has_corner}
use Rattle.dp_ops.proofs.put.TileRun.has_all.Goals as goal

pub returns : goal.returns
returns c = λ is col after before.
    let r = c.args.self in
    let corner = has_corner r.width r.height r.col r.row r.repeat in
    let row = c.args.row in
    let on = c.is_on_canvas.ensures c.if-not-is_on_canvas.false in (
      corner col row
          ∙ has_between r.width r.height r.col r.row r.repeat c.args.left col c.args.last row after
          before (sym (corner c.args.left row) ∙ sym c.has.ensures ∙ c.if-not-has.false)
          (sym (corner c.args.last row) ∙ sym c.has-2.ensures ∙ is),
      omega (arith, on.0, before),
      on.1,
    )
