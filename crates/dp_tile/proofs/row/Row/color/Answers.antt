use Rattle.std.proofs.Common.{◌≡◌, ◌∙◌, length, replicate, subst, sym, arith}
use Rattle.std.proofs.lemmas.List.{ext_get_or, get_or-replicate, length-replicate}
use Rattle.dp_blend.specs.Color.{clear}
use Rattle.dp_tile.specs.Tiles.{tile_of}
use Rattle.dp_tile.proofs.row.Row.color.Goals as goal

pub returns : goal.returns
returns c =
    let items = c.as_slice-slots.result.now in
    let tile = tile_of c.in_ok-color.color in
    let are : items ≡ c.args.self.now = cc in
    subst (λ xs. xs ≡ replicate (length xs) tile) are
    (ext_get_or (tile_of clear) items (replicate (length items) tile)
    (sym (length-replicate (length items) tile))
    (λ k below. c.loop-slot.invariant k (omega arith)
    ∙ sym (get_or-replicate (length items) k tile (tile_of clear) below)))
