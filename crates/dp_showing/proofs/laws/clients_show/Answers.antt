use Rattle.std.proofs.Common.{◌≡◌, ℕ, List, ap, subst, ◌∙◌, map, filter_map}
use Rattle.std.specs.List.{fold}
use Rattle.dp_board.specs.Commands.{drawn_commands}
use Rattle.dp_board.specs.Counts.{CountsFew}
use Rattle.dp_client.specs.Client.{State, confirmed, confirmed_on}
use Rattle.dp_client.specs.Due.{due_on}
use Rattle.dp_messages.specs.Properties.{command_of}
use Rattle.dp_msg_draw.specs.declared.draw.Draw.{Draw}
use Rattle.dp_pixels.specs.Feet.{are_apart, reach}
use Rattle.dp_plain.specs.Commands.{draw}
use Rattle.dp_replay.specs.Replay.{undo_depth, user_act_of}
use Rattle.dp_showing.proofs.Boards.{fold-shows}
use Rattle.dp_showing.proofs.laws.clients_show.Goals as goal

pub returns : goal.returns
returns g c =
    let show = g.B.BoardView.board in
    let on = g.B.Board.drawn in
    let each = c.shows.ensures.drawn in
    let weighed : (due : List Draw) (draws draws_now tiles tiles_now : ℕ)
    → CountsFew g.B.Board.weight due draws draws_now tiles tiles_now
    → CountsFew reach due draws draws_now tiles tiles_now =
    λ due draws draws_now tiles tiles_now counts.
    subst (λ weight. CountsFew weight due draws draws_now tiles tiles_now)
    c.shows.ensures.weight counts in
    let taken : (s : State) → show (confirmed_on on g.B.BlankBoard.blank s) ≡ confirmed s =
    λ s. fold-shows show on draw each
    (drawn_commands undo_depth (map user_act_of s.taken)) g.B.BlankBoard.blank
    ∙ ap (λ b. fold draw b (drawn_commands undo_depth (map user_act_of s.taken)))
    c.shows.ensures.blank in record {
      confirmed = taken;
      view = λ s. fold-shows show on draw each (filter_map command_of s.fork)
          (confirmed_on on g.B.BlankBoard.blank s)
          ∙ ap (λ b. fold draw b (filter_map command_of s.fork)) (taken s);
      counts = weighed;
      takes = λ s entry draws draws_now tiles tiles_now counts.
          weighed (due_on are_apart s entry) draws draws_now tiles tiles_now
          (subst (λ apart. CountsFew g.B.Board.weight (due_on apart s entry) draws draws_now tiles
          tiles_now) c.shows.ensures.apart counts);
    }
