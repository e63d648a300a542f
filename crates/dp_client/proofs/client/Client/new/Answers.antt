use Rattle.std.proofs.Common.{[], map, ap, sym}
use Rattle.dp_replay.specs.Replay.{user_act_of}
use Rattle.dp_client.proofs.Drawing.{drawn_anew}
use Rattle.dp_client.proofs.client.Client.new.Goals as goal

pub invariant_of-result : goal.invariant_of-result
invariant_of-result g c =
    drawn_anew g.B.Board.is_board g.B.Board.drawn g.B.BlankBoard.blank c.args.user
    c.new-2.result.items c.new-3.result.items c.in_ok-blank.blank [] c.in_ok-screen.screen
    c.in_ok-blank.ensures (sym (ap (map user_act_of) c.new-2.ensures.items))
    c.in_ok-screen.ensures.screen c.in_ok-screen.ensures.pending c.new-3.ensures.items
