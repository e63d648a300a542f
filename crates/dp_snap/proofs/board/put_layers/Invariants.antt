use Rattle.std.proofs.Common.{◌≡◌, ◌++◌, length, take}
use Rattle.std.specs.List.{flat_map}
use Rattle.dp_snap.specs.Snapshot.{layer_puts}
use Rattle.dp_snap.proofs.board.put_layers.Given as goal

-- the tiles of the rows before the place
abbrev pub invariant-loop-row : goal.invariant-loop-row
invariant-loop-row g l = record {
  whole : length l.tile.items ≡ 4096;
  puts : l.commands ≡ l.initial.commands
      ++ flat_map (layer_puts (g.V.BoardView.board l.canvas)) (take l.row-index l.row-items);
}
