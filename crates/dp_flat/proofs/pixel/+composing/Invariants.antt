use Rattle.std.proofs.Common.{◌≡◌, ◌+◌, ◌*◌, ◌-◌, take}
use Rattle.dp_flat.specs.Composed.{composed_by}
use Rattle.dp_flat.proofs.pixel.+composing.Given as goal

abbrev pub decreases-compose_pixel : goal.decreases-compose_pixel
decreases-compose_pixel g l = 2 * l.depth

abbrev pub decreases-show_pixel : goal.decreases-show_pixel
decreases-show_pixel g l = 2 * l.depth + 1

-- the rows before the index are laid on the pixel
abbrev pub invariant-compose_pixel-loop-row : goal.invariant-compose_pixel-loop-row
invariant-compose_pixel-loop-row g l =
    l.under ≡ composed_by (g.V.BoardView.board l.board) (l.depth - 1) l.parent
    (take l.row-index l.row-items) l.place.0 l.place.1 l.fn.start
