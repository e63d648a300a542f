use Rattle.std.proofs.Common.{◌∙◌, ap}
use Rattle.std.specs.List.{fold}
use Rattle.dp_savepoints.specs.Kept.{drawn_among}
use Rattle.dp_trailing.proofs.TrailingLemmas.{Trails-replay}
use Rattle.dp_trailing.proofs.trailing.TrailingBoard.finish.Goals as goal

pub returns-clause-replay : goal.returns-clause-replay
returns-clause-replay g c = λ blank depth acts trails.
    let draw = g.B.Board.drawn in
    c.in_ok-draw_kept.ensures.board
    ∙ ap (λ kept. fold draw c.self.inside.board (drawn_among kept)) c.deref.ensures.value
    ∙ ap (λ t. fold draw t.board (drawn_among t.kept)) c.self.view_is
    ∙ Trails-replay c.stroke_laws.ensures draw c.args.self blank depth acts trails
