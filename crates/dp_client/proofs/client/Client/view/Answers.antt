use Rattle.std.proofs.Common.{List, map, ap, ◌∙◌}
use Rattle.std.specs.List.{fold}
use Rattle.dp_board.specs.Replay.{replay}
use Rattle.dp_fork.specs.Fork.{commands_in}
use Rattle.dp_replay.specs.Replay.{undo_depth, user_act_of}
use Rattle.dp_client.specs.Client.{State, view_on}
use Rattle.dp_client.proofs.Drawing.{commands_same}
use Rattle.dp_client.proofs.client.Client.view.Goals as goal

pub returns : goal.returns
returns g c =
    let fields = c.self.inside in
    let acts = map user_act_of fields.taken.items in
    let blank = g.B.BlankBoard.blank in
    c.view.ensures blank undo_depth acts c.self.invariant.screen
    ∙ ap (fold g.B.Board.drawn (replay g.B.Board.drawn blank undo_depth acts))
    (ap commands_in c.self.invariant.pending ∙ commands_same fields.user fields.fork.items)
    ∙ ap (λ (s : State). view_on g.B.Board.drawn blank s) c.self.view_is
