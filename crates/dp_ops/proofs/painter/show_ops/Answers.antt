use Rattle.std.proofs.Common.{ap, arith, drop, length, refl, sym, take, List, ◌∙◌, ◌≡◌, ◌-◌}
use Rattle.std.proofs.lemmas.List.{length-drop, take_all}
use Rattle.dp_ops.specs.declared.op.TileOp.{TileOp}
use Rattle.dp_tile.specs.Tiles.{tile_of}
use Rattle.dp_ops.specs.Ops.{on_tile, tile_after}
use Rattle.dp_ops.proofs.Ops.{all_after, tile_becomes, tile_rest}
use Rattle.dp_ops.proofs.painter.show_ops.Goals as goal

pub returns-then-done-ops-clause-shown : goal.returns-then-done-ops-clause-shown
returns-then-done-ops-clause-shown c =
    let on = c.args.on.now in
    let t = on_tile on.width on.height on.commands.now c.args.col c.args.row in
    let ops = c.args.ops.now in
    let p = c.in-Some.p in
    let done = c.color_after-done.result.0 in
    let after = c.color_after-done.result.1 in
    rw c.in-Some.is
    (sym (tile_becomes t ops p after (tile_of p)
    (all_after t ops done p after (omega (arith, c.if-done-ops.true))
    (c.color_after-done.ensures.color t))
    refl))

pub returns-clause-shown : goal.returns-clause-shown
returns-clause-shown c =
    let on = c.args.on.now in
    let t = on_tile on.width on.height on.commands.now c.args.col c.args.row in
    let ops = c.args.ops.now in
    let done = c.color_after-done.result.0 in
    let rest : take (length ops - done) (drop done ops) ≡ drop done ops =
    take_all (length ops - done) (drop done ops) (omega (arith, length-drop done ops)) in
    rw c.in-Some.is
    (c.draw_ops-2.ensures
    ∙ ap (λ (l : List TileOp). tile_after t l c.fill_tile.new.pixels) rest
    ∙ ap (tile_after t (drop done ops)) c.fill_tile.ensures
    ∙ tile_rest t ops done c.in-Some.p c.color_after-done.result.1
    (c.color_after-done.ensures.color t))
