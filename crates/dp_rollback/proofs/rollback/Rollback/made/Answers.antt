use Rattle.std.proofs.Common.{◌≡◌, ◌∙◌, ◌<◌, ◌≤◌, ap, subst, true}
use Rattle.std.specs.Option.{ForSome}
use Rattle.dp_board.specs.Counts.{CountsFew}
use Rattle.dp_board.specs.Strokes.{is_eligible}
use Rattle.dp_board.specs.Table.{oldest_in}
use Rattle.dp_rollback.specs.Moves.{due_in}
use Rattle.dp_savepoints.specs.Marks.{mark_in}
use Rattle.dp_savepoints.proofs.RunLemmas.{for-some}
use Rattle.dp_rollback.proofs.rollback.Rollback.made.Goals as goal

pub drawn-requires-clause-among : goal.drawn-requires-clause-among
drawn-requires-clause-among g c =
    let mark = c.mark_of-mark.result in
    subst (λ r. ForSome mark (λ m. is_eligible r.table.window m.group ≡ true)) c.self.view_is
    (for-some mark _ c.mark_of-mark.ensures.among)

pub drawn-requires-clause-reach : goal.drawn-requires-clause-reach
drawn-requires-clause-reach g c =
    let mark = c.mark_of-mark.result in
    subst (λ r. ForSome mark (λ m. oldest_in r.table ≤ m.group)) c.self.view_is
    (for-some mark _ c.mark_of-mark.ensures.reach)

pub drawn-requires-clause-before : goal.drawn-requires-clause-before
drawn-requires-clause-before g c =
    let mark = c.mark_of-mark.result in
    subst (λ r. ForSome mark (λ m. m.group < r.table.position)) c.self.view_is
    (for-some mark _ c.mark_of-mark.ensures.before)

pub returns-in_err-board-clause-counts : goal.returns-in_err-board-clause-counts
returns-in_err-board-clause-counts g c =
    let a = c.args.act in
    subst (λ m. CountsFew g.B.Board.weight (due_in c.args.self.now a.act m) c.args.draws.now
    c.drawn.new.draws c.args.tiles.now c.drawn.new.tiles)
    (c.mark_of-mark.ensures.value ∙ ap (λ r. mark_in r.table a) c.self.view_is)
    c.drawn.ensures.counts

pub returns-clause-counts : goal.returns-clause-counts
returns-clause-counts g c =
    let a = c.args.act in
    subst (λ m. CountsFew g.B.Board.weight (due_in c.args.self.now a.act m) c.args.draws.now
    c.drawn.new.draws c.args.tiles.now c.drawn.new.tiles)
    (c.mark_of-mark.ensures.value ∙ ap (λ r. mark_in r.table a) c.self.view_is)
    c.drawn.ensures.counts
