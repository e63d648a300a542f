use Rattle.dp_layered.proofs.Views.{at_error, paint_viewed}
use Rattle.dp_layered.proofs.layered.LayeredBoard.paint.Goals as goal

pub returns-in_err-paint_content-clause-memory : goal.returns-in_err-paint_content-clause-memory
returns-in_err-paint_content-clause-memory g c =
    let inside = c.self.inside in
    at_error c.from_residual.result
    (paint_viewed (g.C.LayerPixels.pixels inside.width inside.height) inside.width inside.height
    inside.background inside.tree c.args.id c.args.self.now
    c.self.view_is c.in_err-paint_content.ensures.memory)
