use Rattle.std.proofs.Common.{◌-◌, ◌∙◌, ap, arith, drop, map, refl, subst}
use Rattle.std.specs.Prelude.{slice_range}
use Rattle.std.specs.List.{fold}
use Rattle.dp_board.specs.Counts.{CountsFew}
use Rattle.dp_savepoints.specs.Kept.{marked, drawn_among, commands_among}
use Rattle.dp_savepoints.specs.Runs.{LeavesFew}
use Rattle.dp_savepoints.proofs.RunLemmas.{IsRun-more, LeavesFew-more, CountsFew-part}
use Rattle.dp_savepoints.proofs.run.Run.go_to.Goals as goal

pub overflow_sub-more : goal.overflow_sub-more
overflow_sub-more g c =
    omega (
      arith,
      c.requires.begun,
      c.requires.inside,
      c.requires.within,
      c.if-position-self.false,
      ap (λ r. r.start) c.self.view_is,
      ap (λ r. r.at) c.self.view_is,
    )

pub overflow_sub-more-2 : goal.overflow_sub-more-2
overflow_sub-more-2 g c =
    omega (
      arith,
      c.requires.begun,
      c.requires.inside,
      c.requires.within,
      c.if-position-self.false,
      ap (λ r. r.start) c.self.view_is,
      ap (λ r. r.at) c.self.view_is,
    )

pub slice_bounds-more-start : goal.slice_bounds-more-start
slice_bounds-more-start g c =
    omega (
      arith,
      c.requires.begun,
      c.requires.inside,
      c.requires.within,
      c.if-position-self.false,
      ap (λ r. r.start) c.self.view_is,
      ap (λ r. r.at) c.self.view_is,
    )

pub slice_bounds-more-end : goal.slice_bounds-more-end
slice_bounds-more-end g c =
    omega (
      arith,
      c.requires.begun,
      c.requires.inside,
      c.requires.within,
      c.if-position-self.false,
      ap (λ r. r.start) c.self.view_is,
      ap (λ r. r.at) c.self.view_is,
    )

pub returns-in_err-redraw-clause-counts : goal.returns-in_err-redraw-clause-counts
returns-in_err-redraw-clause-counts g c =
    let run = c.self.inside in
    let position = c.args.position in
    subst (λ r. CountsFew g.B.Board.weight
    (commands_among (drop (r.at - r.start) c.args.kept.now)) c.args.draws.now
    c.redraw.new.draws c.args.tiles.now c.redraw.new.tiles) c.self.view_is
    (CountsFew-part g.B.Board.weight c.args.kept.now (run.at - run.start) (position - run.start) _ _
    _ _ _ _ (omega (arith, c.if-position-self.false)) c.redraw.ensures.counts refl refl)

pub returns-clause-counts : goal.returns-clause-counts
returns-clause-counts g c =
    let run = c.self.inside in
    let position = c.args.position in
    subst (λ r. CountsFew g.B.Board.weight
    (commands_among (drop (r.at - r.start) c.args.kept.now)) c.args.draws.now
    c.redraw.new.draws c.args.tiles.now c.redraw.new.tiles) c.self.view_is
    (CountsFew-part g.B.Board.weight c.args.kept.now (run.at - run.start) (position - run.start) _ _
    _ _ _ _ (omega (arith, c.if-position-self.false)) c.redraw.ensures.counts refl refl)

pub returns-clause-run : goal.returns-clause-run
returns-clause-run g c = λ from is.
    let draw = g.B.Board.drawn in
    let run = c.self.inside in
    let position = c.args.position in
    let start = ap (λ r. r.start) c.self.view_is in
    let at = ap (λ r. r.at) c.self.view_is in
    IsRun-more draw c.args.kept.now c.args.mark c.args.self.now _ c.requires.begun
    (omega (arith, c.if-position-self.false, at)) start
    (omega (arith, c.requires.within))
    (c.in_ok-redraw.ensures.board
    ∙ ap (λ r. fold draw r.board (drawn_among (map (marked c.args.mark)
    (slice_range c.args.kept.now (r.at - r.start) (position - r.start))))) c.self.view_is) from is

pub returns-clause-left : goal.returns-clause-left
returns-clause-left g c =
    let run = c.self.inside in
    let position = c.args.position in
    subst (λ r. LeavesFew g.B.Board.weight c.args.kept.now (r.at - r.start) (position - run.start)
    c.args.draws.now c.redraw.new.draws c.args.tiles.now c.redraw.new.tiles) c.self.view_is
    (LeavesFew-more g.B.Board.weight c.args.kept.now (run.at - run.start) (position - run.start) _ _
    _ _ (omega (arith, c.if-position-self.false)) c.redraw.ensures.counts.few_draws
    c.redraw.ensures.counts.few_tiles)
