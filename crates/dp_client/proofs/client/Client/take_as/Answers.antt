use Rattle.std.proofs.Common.{List, [], ◌∷◌, ◌++◌, map, refl, sym, ap, ◌∙◌, subst}
use Rattle.dp_board.specs.Counts.{CountsFew}
use Rattle.dp_fork.specs.Fork.{Answers}
use Rattle.dp_messages.specs.declared.message.Entry.{Entry}
use Rattle.dp_replay.specs.Replay.{act_of, act_of_message, undo_depth, user_act_of}
use Rattle.dp_client.specs.Client.{State}
use Rattle.dp_client.specs.Due.{due_as}
use Rattle.dp_client.proofs.Drawing.{drawn_took}
use Rattle.dp_client.proofs.Few.{took_counts}
use Rattle.dp_client.proofs.client.Client.take_as.Goals as goal

pub returns-in-Ok-clause-counts : goal.returns-in-Ok-clause-counts
returns-in-Ok-clause-counts g c =
    let was = c.self.inside in
    let s : State = record {
      user = was.user;
      joined_epoch = was.joined_epoch;
      joined_at = was.joined_at;
      epoch = was.epoch;
      taken = was.taken.items;
      fork = was.fork.items;
    } in
    subst (λ (x : State). CountsFew g.B.Board.weight
    (due_as c.args.own g.B.Board.are_apart x c.args.entry.now) c.args.draws.now
    c.take_on.new.draws c.args.tiles.now c.take_on.new.tiles) c.self.view_is
    (took_counts g.B.Board.weight _ _ _ _ g.B.Board.are_apart s c.args.entry.now c.args.own
    was.screen.fork.acts c.self.invariant.pending
    (c.take_on.ensures.counts g.B.BlankBoard.blank undo_depth (map user_act_of was.taken.items)
    c.self.invariant.screen))

pub returns-in-Err-clause-counts : goal.returns-in-Err-clause-counts
returns-in-Err-clause-counts g c =
    let was = c.self.inside in
    let s : State = record {
      user = was.user;
      joined_epoch = was.joined_epoch;
      joined_at = was.joined_at;
      epoch = was.epoch;
      taken = was.taken.items;
      fork = was.fork.items;
    } in
    subst (λ (x : State). CountsFew g.B.Board.weight
    (due_as c.args.own g.B.Board.are_apart x c.args.entry.now) c.args.draws.now
    c.take_on.new.draws c.args.tiles.now c.take_on.new.tiles) c.self.view_is
    (took_counts g.B.Board.weight _ _ _ _ g.B.Board.are_apart s c.args.entry.now c.args.own
    was.screen.fork.acts c.self.invariant.pending
    (c.take_on.ensures.counts g.B.BlankBoard.blank undo_depth (map user_act_of was.taken.items)
    c.self.invariant.screen))

pub invariant_of-self-in-Ok : goal.invariant_of-self-in-Ok
invariant_of-self-in-Ok g c =
    drawn_took g.B.Board.is_board g.B.Board.drawn g.B.BlankBoard.blank c.self.inside.user
    c.self.inside.taken.items c.push_reserved.new.self.items c.self.inside.fork.items
    c.drop_answered.new.fork.items c.args.entry.now (user_act_of c.args.entry.now) c.args.own
    c.self.inside.screen c.take_on.new.screen c.self.invariant c.in-Ok.ensures.screen
    c.in-Ok.ensures.pending refl
    (subst (λ (x : State). Answers c.args.own (act_of c.args.entry.now)
    (map (act_of_message x.user) x.fork)) (sym c.self.view_is) c.requires)
    (c.push_reserved.ensures.items
    ∙ ap (λ (xs : List Entry). xs ++ c.in_ok-copy.copy ∷ []) c.reserve.ensures.items
    ∙ ap (λ (x : Entry). c.self.inside.taken.items ++ x ∷ []) c.in_ok-copy.ensures)
    c.drop_answered.ensures
