use Rattle.std.proofs.Common.{◌<◌, ◌∙◌, ◌++◌, ◌∷◌, [], List, ap, sym, arith, take, drop, length}
use Rattle.std.specs.List.{flat_map}
use Rattle.std.proofs.lemmas.List.{flat_map_more, take_at, take_more}
use Rattle.dp_msg_draw.specs.declared.draw.Draw.{Draw}
use Rattle.dp_layers.specs.declared.row.LayerRow.{LayerRow}
use Rattle.dp_snap.specs.Snapshot.{layer_puts}
use Rattle.dp_snap.proofs.board.put_layers.Goals as goal

pub loop-row-preserved : goal.loop-row-preserved
loop-row-preserved g c =
    let board = g.V.BoardView.board c.args.canvas.now in
    let rows = c.rows-row-items.result.now in
    let i = c.loop-row.row-index in
    let row = c.row-item.result in
    let old = c.args.commands.now in
    let items = c.loop-row.tile.items in
    let new = c.put_row.new.tile in
    let in_list : i < length rows = omega arith in
    record {
      whole = ap length (take_at new (drop (length new) items) c.loop-row.tile.len (omega arith))
          ∙ omega (arith, c.loop-row.invariant.whole);
      puts = c.in_ok-put_row.ensures
          ∙ ap (λ (ps : List Draw). ps ++ layer_puts board row) c.loop-row.invariant.puts
          ∙ flat_map_more (layer_puts board) old (take i rows) row
          ∙ ap (λ (rs : List LayerRow). old ++ flat_map (layer_puts board) rs)
          (sym (take_more rows i row in_list
          ∙ ap (λ (r : LayerRow). take i rows ++ r ∷ []) (sym c.row-item.is)));
    }
