use Rattle.std.proofs.Common.{◌∙◌, ℕ, List, [], ◌∷◌, ◌++◌, subst, sym}
use Rattle.dp_board.specs.declared.act.UserAct.{UserAct}
use Rattle.dp_msg_draw.specs.declared.draw.Draw.{Draw}
use Rattle.dp_plain.specs.Board.{Board}
use Rattle.dp_plain.specs.Commands.{draw}
use Rattle.dp_trailing.specs.Trailing.{Trails}
use Rattle.dp_player.specs.Ahead.{on_board}
use Rattle.dp_player.proofs.Batches.{on-own}
use Rattle.dp_viewer.proofs.Showing.{TrailsShown-entry, TrailsShown-mark}
use Rattle.dp_player.proofs.ahead.hold.Goals as goal

pub returns-in_ok-begin_anew : goal.returns-in_ok-begin_anew
returns-in_ok-begin_anew c = λ all on trails.
    let now = c.begin_anew.new.board in
    on-own now (all ++ c.args.entry ∷ [])
    (TrailsShown-mark now all c.args.entry
    (sym c.is_reset_mark.ensures ∙ c.if-is_reset_mark.true) c.in_ok-begin_anew.ensures)

pub returns-in_ok-hold : goal.returns-in_ok-hold
returns-in_ok-hold c = λ all on trails.
    let was = on_board on c.args.board.now in
    let now = on_board on c.hold.new.self in
    TrailsShown-entry was now all c.args.entry
    (sym c.is_reset_mark.ensures ∙ c.if-is_reset_mark.false)
    (subst (λ (a : UserAct Draw). (blank : Board) (depth : ℕ) (acts : List (UserAct Draw))
    → Trails draw blank depth acts was → Trails draw blank depth (acts ++ a ∷ []) now)
    c.act_of_entry-act.ensures
    (λ blank depth acts. c.in_ok-hold.ensures.apart on blank depth acts))
    trails
