use Rattle.std.proofs.Common.{◌≡◌, ◌+◌, ◌*◌, ◌≤◌, map, take}
use Rattle.std.specs.Prelude.{All}
use Rattle.std.specs.List.{filter_map}
use Rattle.dp_layers.specs.Rows.{content_of}
use Rattle.dp_pixels.specs.Resizes.{pixels_resized}
use Rattle.dp_layered.proofs.trees.resized_contents.Given as goal

-- the contents of the rows before the place are resized
abbrev pub invariant-loop-row : goal.invariant-loop-row
invariant-loop-row g l =
    record {
      fit : All (g.C.LayerPixels.fits l.change.new_width l.change.new_height) l.contents.items;
      pixels : map (g.C.LayerPixels.pixels l.change.new_width l.change.new_height) l.contents.items
          ≡ map (pixels_resized l.change) (map (g.C.LayerPixels.pixels l.change.width
          l.change.height)
          (filter_map (λ row. content_of l.tree row.id) (take l.row-index l.row-items)));
      rise : l.initial.tiles ≤ l.tiles;
      few : l.tiles ≤ l.initial.tiles + l.row-index * g.C.LayerPixels.resizing;
    }
