use Rattle.std.proofs.Common.{map, ap, ◌∙◌}
use Rattle.dp_replay.specs.Replay.{undo_depth, user_act_of}
use Rattle.dp_client.specs.Client.{State, confirmed_on}
use Rattle.dp_client.proofs.client.Client.confirmed.Goals as goal

pub returns : goal.returns
returns g c =
    c.confirmed.ensures g.B.BlankBoard.blank undo_depth
    (map user_act_of c.self.inside.taken.items) c.self.invariant.screen
    ∙ ap (λ (s : State). confirmed_on g.B.Board.drawn g.B.BlankBoard.blank s) c.self.view_is
