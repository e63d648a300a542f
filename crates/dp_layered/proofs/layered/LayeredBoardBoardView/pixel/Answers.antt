use Rattle.std.proofs.Common.{◌≡◌, ◌∙◌, ap, sym, subst, Some, None, Option}
use Rattle.dp_blend.specs.Color.{Channels}
use Rattle.dp_blend.specs.Canvas.{pixel_at}
use Rattle.dp_layers.specs.Rows.{content_of, map_contents}
use Rattle.dp_plain.specs.Board.{Board}
use Rattle.dp_plain.specs.View.{pixel_in}
use Rattle.dp_plain.proofs.Holds.{fit_found}
use Rattle.dp_layered.proofs.Views.{content_seen, pixel_none, pixel_some}
use Rattle.dp_layered.proofs.layered.LayeredBoardBoardView.pixel.Goals as goal

pub returns-in_err-content : goal.returns-in_err-content
returns-in_err-content g c =
    let inside = c.self.inside in
    let view : Board = record {
      width = inside.width;
      height = inside.height;
      background = inside.background;
      rows = map_contents (g.C.LayerPixels.pixels inside.width inside.height) inside.tree;
    } in
    c.from_residual.ensures
    ∙ subst (λ (board : Board). None ≡ pixel_in board c.args.id c.args.x c.args.y) c.self.view_is
    (pixel_none view c.args.id c.args.x c.args.y
    (content_seen (g.C.LayerPixels.pixels inside.width inside.height) inside.tree c.args.id None
    (sym c.in_err-content.ensures.value)))

pub pixel-requires-clause-fits : goal.pixel-requires-clause-fits
pixel-requires-clause-fits g c =
    let inside = c.self.inside in
    fit_found (g.C.LayerPixels.fits inside.width inside.height) inside.tree c.args.id
    c.in_ok-content.content.now c.self.invariant.each
    (sym c.in_ok-content.ensures.value)

pub returns : goal.returns
returns g c =
    let inside = c.self.inside in
    let pixels = g.C.LayerPixels.pixels inside.width inside.height in
    let view : Board = record {
      width = inside.width;
      height = inside.height;
      background = inside.background;
      rows = map_contents pixels inside.tree;
    } in
    let found : content_of view.rows c.args.id ≡ Some (pixels c.in_ok-content.content.now) =
    content_seen pixels inside.tree c.args.id (Some c.in_ok-content.content.now)
    (sym c.in_ok-content.ensures.value) in
    let p : Channels = pixel_at inside.width (pixels c.in_ok-content.content.now) c.args.x c.args.y
    in
    let is : ◌≡◌ {A = Option Channels} (Some c.pixel.result) (Some p) = ap
    (λ (q : Channels). Some q) c.pixel.ensures in
    is
    ∙ subst
    (λ (board : Board). ◌≡◌ {A = Option Channels} (Some p)
    (pixel_in board c.args.id c.args.x c.args.y)) c.self.view_is
    (pixel_some view c.args.id c.args.x c.args.y (pixels c.in_ok-content.content.now) found
    c.if-x-self.false c.if-y-self.false)
