use Rattle.std.proofs.Common.{◌∙◌, ◌+◌, ap, subst, length, map, Bool, List}
use Rattle.std.specs.List.{fold}
use Rattle.dp_board.specs.Commands.{commands}
use Rattle.dp_board.specs.Counts.{CountsFew}
use Rattle.dp_replay.specs.Replay.{user_act_of}
use Rattle.dp_plain_replay.proofs.Replays.{flags_of_acts, flags_fit}
use Rattle.dp_plain_replay.proofs.replay.replay_on.Goals as goal

pub draw_flagged-requires : goal.draw_flagged-requires
draw_flagged-requires g c =
    flags_fit c.each_act_has_a_flag.ensures 30 c.args.entries.now c.deref-2.result.now
    (flags_of_acts c.commands_do_not_count.ensures 30 c.args.entries.now c.deref.result.now
    c.deref-2.result.now
    (c.deref.ensures.value ∙ c.in_ok-kinds.ensures) (c.deref-2.ensures.value
    ∙ c.in_ok-flags.ensures))

pub returns : goal.returns
returns g c =
    let acts = map user_act_of c.args.entries.now in
    let flagged = flags_of_acts c.commands_do_not_count.ensures 30 c.args.entries.now
    c.deref.result.now c.deref-2.result.now (c.deref.ensures.value ∙ c.in_ok-kinds.ensures)
    (c.deref-2.ensures.value ∙ c.in_ok-flags.ensures) in
    record {
      board = c.in_ok-draw_flagged.ensures.board
          ∙ ap (λ (flags : List Bool). fold g.B.Board.drawn c.args.board (commands acts flags))
          flagged;
      draws = c.in_ok-draw_flagged.ensures.draws
          ∙ ap (λ (flags : List Bool). c.args.draws.now + length (commands acts flags)) flagged;
      counts =
          subst (λ (flags : List Bool). CountsFew g.B.Board.weight (commands acts flags)
          c.args.draws.now c.draw_flagged.new.draws c.args.tiles.now c.draw_flagged.new.tiles)
          flagged c.draw_flagged.ensures.counts;
    }

pub returns-in_err-draw_flagged-clause-counts : goal.returns-in_err-draw_flagged-clause-counts
returns-in_err-draw_flagged-clause-counts g c =
    subst (λ (flags : List Bool). CountsFew g.B.Board.weight
    (commands (map user_act_of c.args.entries.now) flags) c.args.draws.now
    c.draw_flagged.new.draws c.args.tiles.now c.draw_flagged.new.tiles)
    (flags_of_acts c.commands_do_not_count.ensures 30 c.args.entries.now c.deref.result.now
    c.deref-2.result.now
    (c.deref.ensures.value ∙ c.in_ok-kinds.ensures) (c.deref-2.ensures.value
    ∙ c.in_ok-flags.ensures)) c.draw_flagged.ensures.counts
