use Rattle.std.proofs.Common.{ℕ, ◌∙◌, List, [], ◌∷◌, ◌++◌, subst, sym}
use Rattle.std.proofs.lemmas.Result.{on_ok_weaker}
use Rattle.dp_board.specs.declared.act.UserAct.{UserAct}
use Rattle.dp_msg_draw.specs.declared.draw.Draw.{Draw}
use Rattle.dp_plain.specs.Board.{Board}
use Rattle.dp_plain.specs.Commands.{draw}
use Rattle.dp_trailing.specs.Trailing.{Trails}
use Rattle.dp_viewer.proofs.Showing.{TrailsShown-entry, TrailsShown-mark}
use Rattle.dp_viewer.proofs.reading.show.Goals as goal

pub returns-then-is_reset_mark : goal.returns-then-is_reset_mark
returns-then-is_reset_mark g c =
    on_ok_weaker c.begin_anew.result (λ blank all trails.
    TrailsShown-mark c.begin_anew.new.board all c.args.entry
    (sym c.is_reset_mark.ensures ∙ c.if-is_reset_mark.true) blank)
    c.begin_anew.ensures

pub returns-else-is_reset_mark : goal.returns-else-is_reset_mark
returns-else-is_reset_mark g c =
    let old = c.args.board.now in
    let now = c.take.new.self in
    on_ok_weaker c.take.result (λ taken all trails. TrailsShown-entry old now all c.args.entry
    (sym c.is_reset_mark.ensures ∙ c.if-is_reset_mark.false)
    (subst (λ (a : UserAct Draw). (blank : Board) (depth : ℕ) (acts : List (UserAct Draw))
    → Trails draw blank depth acts old → Trails draw blank depth (acts ++ a ∷ []) now)
    c.act_of_entry.ensures taken) trails) c.take.ensures.trails
