-- The colour hides what it is laid on at each place.
use Rattle.std.proofs.Common.{◌≡◌, false, sym, ap, ◌∙◌}
use Rattle.dp_blend.specs.Color.{Channels, fade, from8}
use Rattle.dp_blend.specs.Blending.{blend}
use Rattle.dp_blend.specs.declared.modes.Mode.{Mode}
use Rattle.dp_pixels.specs.Tiles.{tile_x, tile_y}
use Rattle.dp_flat.specs.Composed.{laid_on, shown}
use Rattle.dp_flat.proofs.Composed.{shown_paint}
use Rattle.dp_flat.proofs.compose.hides_below.Goals as goal

pub returns-in-Some : goal.returns-in-Some
returns-in-Some g c = λ hidden depth k under other place.
    let board = g.V.BoardView.board c.args.board.now in
    let row = c.args.row.now in
    let x = tile_x c.args.tile.col k in
    let y = tile_y c.args.tile.row k in
    let paint : row.group ≡ false = cc in
    let faded : c.fade.result ≡ fade (shown board depth row x y) (from8 row.opacity) =
    c.fade.ensures.value ∙ ap (fade c.in-Some.color) c.from8.ensures.value
    ∙ ap (λ (p : Channels). fade p (from8 row.opacity))
    (c.in-Some.ensures k place.count place.across place.down
    ∙ shown_paint board depth row x y paint) in
    let laid : (p : Channels) → laid_on board depth x y p row ≡ c.fade.result = λ p.
    ap (λ (m : Mode). blend m (fade (shown board depth row x y) (from8 row.opacity)) p)
    (sym c.mode_of-mode.ensures)
    ∙ ap (λ (s : Channels). blend c.mode_of-mode.result s p) (sym faded)
    ∙ c.hides.ensures hidden p in
    laid under ∙ sym (laid other)
