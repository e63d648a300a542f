use Rattle.std.proofs.Common.{ℤ, pos, if◌then◌else◌}
use Rattle.std.proofs.lemmas.Result.{on_ok_weaker}
use Rattle.dp_blend.specs.Blending.{blend}
use Rattle.dp_blend.specs.Color.{Channels, of_argb}
use Rattle.dp_pixels.specs.Rectangles.{is_in, rect_at}
use Rattle.dp_ops.specs.Lists.{StandsOn, filed_at}
use Rattle.dp_ops.proofs.Filed.{filed_drawn, put_filed}
use Rattle.dp_ops.proofs.filing.file.Goals as goal

pub returns-in-Some-clause-filed : goal.returns-in-Some-clause-filed
returns-in-Some-clause-filed c =
    let source = c.args.source.now in
    let op = source.command.now in
    let fill = c.in-Some.fill in
    on_ok_weaker c.put.result
    (λ puts.
    put_filed (StandsOn source.width source.height source.number op) op
    (λ (x y : ℤ) (old : Channels). if is_in (rect_at (pos fill.x) (pos fill.y) fill.w fill.h) x y
    then blend fill.mode (of_argb fill.color) old else old)
    (filed_at source.width source.height op) c.args.area c.args.lists.now c.put.new.self
    (c.is_one_cell.ensures.right c.if-is_one_cell.true)
    (c.is_one_cell.ensures.bottom c.if-is_one_cell.true)
    (filed_drawn source.width source.height source.number op)
    (c.in-Some.ensures.some source.width source.height) puts)
    c.put.ensures.put
