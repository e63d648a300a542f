use Rattle.std.proofs.Common.{List, [], ◌∷◌, ◌++◌, ap, ◌∙◌, refl}
use Rattle.dp_messages.specs.declared.message.Msg.{Msg}
use Rattle.dp_replay.specs.Replay.{act_of_message}
use Rattle.dp_client.proofs.Drawing.{drawn_said}
use Rattle.dp_client.proofs.client.Client.say.Goals as goal

pub invariant_of-self-in-Ok : goal.invariant_of-self-in-Ok
invariant_of-self-in-Ok g c =
    drawn_said g.B.Board.is_board g.B.Board.drawn g.B.BlankBoard.blank c.self.inside.user
    c.self.inside.taken.items c.self.inside.fork.items c.push_back_reserved.new.self.items
    c.args.msg.now (act_of_message c.self.inside.user c.args.msg.now) c.self.inside.screen
    c.say_on.new.screen c.self.invariant c.in-Ok.ensures.screen c.in-Ok.ensures.pending refl
    (c.push_back_reserved.ensures.items
    ∙ ap (λ (xs : List Msg). xs ++ c.in_ok-copy.copy ∷ []) c.reserve.ensures.items
    ∙ ap (λ (m : Msg). c.self.inside.fork.items ++ m ∷ []) c.in_ok-copy.ensures)
