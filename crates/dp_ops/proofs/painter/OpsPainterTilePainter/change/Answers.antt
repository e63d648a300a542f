use Rattle.std.proofs.Common.{◌≡◌, ap, arith, rules, sym, ◌∙◌}
use Rattle.dp_ops.specs.Ops.{on_tile, tile_after}
use Rattle.dp_ops.proofs.Ops.{known_none}
use Rattle.dp_ops.proofs.Ops.{all_after, tile_becomes, tile_none}
use Rattle.dp_ops.proofs.painter.OpsPainterTilePainter.change.Goals as goal

pub returns-then-is_empty : goal.returns-then-is_empty
returns-then-is_empty c = λ pixels count colored.
    tile_none _ _ pixels
    (sym c.ops-ops.ensures
    ∙ known_none c.ops-ops.result.now c.is_empty.result c.is_empty.ensures c.if-is_empty.true)
    count

pub returns-then-eq : goal.returns-then-eq
returns-then-eq c = λ pixels count colored.
    let on = c.args.self.now.on in
    let t = on_tile on.width on.height on.commands.now c.args.col c.args.row in
    let ops = c.ops-ops.result.now in
    let before = c.in-Some.before in
    let after = c.color_after-done.result.1 in
    let same : after ≡ before = search rules in
    let plain = colored before c.in-Some.is in
    ap (λ ops. tile_after t ops pixels) (sym c.ops-ops.ensures)
    ∙ tile_becomes t ops before before pixels
    (λ x y in_x in_y.
    all_after t ops c.color_after-done.result.0 before after (omega (arith, c.if-done-ops.false))
    (c.color_after-done.ensures.color t) x y in_x in_y
    ∙ same) plain
    ∙ sym plain

pub returns-else-eq : goal.returns-else-eq
returns-else-eq c = λ pixels count colored.
    let on = c.args.self.now.on in
    let t = on_tile on.width on.height on.commands.now c.args.col c.args.row in
    let ops = c.ops-ops.result.now in
    let before = c.in-Some.before in
    let after = c.color_after-done.result.1 in
    ap (λ ops. tile_after t ops pixels) (sym c.ops-ops.ensures)
    ∙ tile_becomes t ops before after pixels
    (all_after t ops c.color_after-done.result.0 before after (omega (arith, c.if-done-ops.false))
    (c.color_after-done.ensures.color t))
    (colored before c.in-Some.is)
