use Rattle.std.proofs.Common.{◌-◌, ◌∙◌, ap, arith, drop, length, map, refl}
use Rattle.std.specs.List.{fold}
use Rattle.std.proofs.lemmas.List.{length-drop, take_all}
use Rattle.dp_savepoints.specs.Kept.{marked, drawn_among}
use Rattle.dp_savepoints.proofs.RunLemmas.{run-rest, slice-from, CountsFew-rest}
use Rattle.dp_savepoints.proofs.run.Run.finish.Goals as goal

pub overflow_sub-more : goal.overflow_sub-more
overflow_sub-more g c =
    omega (
      arith,
      c.in_ok-saves.ensures.begun,
      c.in_ok-saves.ensures.inside,
      ap (λ r. r.start) c.self.view_is,
      ap (λ r. r.at) c.self.view_is,
    )

pub slice_bounds-more-start : goal.slice_bounds-more-start
slice_bounds-more-start g c =
    omega (
      arith,
      c.in_ok-saves.ensures.begun,
      c.in_ok-saves.ensures.inside,
      ap (λ r. r.start) c.self.view_is,
      ap (λ r. r.at) c.self.view_is,
    )

pub returns-clause-redrawn : goal.returns-clause-redrawn
returns-clause-redrawn g c = λ from is.
    let draw = g.B.Board.drawn in
    let kept = c.args.kept.now in
    let saves = c.in_ok-saves.ensures in
    let run = c.saves.new.self in
    let rest = c.self.inside in
    record {
      drawn = c.in_ok-redraw.ensures.board
          ∙ ap (λ xs. fold draw rest.board (drawn_among (map (marked c.args.mark) xs)))
          (take_all (length kept - (rest.at - rest.start)) (drop (rest.at - rest.start) kept)
          (omega (arith, length-drop (rest.at - rest.start) kept)))
          ∙ ap (λ r. fold draw r.board (drawn_among (map (marked c.args.mark)
          (drop (r.at - r.start) kept)))) c.self.view_is
          ∙ run-rest draw kept c.args.mark from run (saves.run from is);
      saves_are = saves.saves from is;
    }

pub returns-in_err-redraw-clause-counts : goal.returns-in_err-redraw-clause-counts
returns-in_err-redraw-clause-counts g c =
    let kept = c.args.kept.now in
    let run = c.saves.new.self in
    let rest = c.self.inside in
    let saves = c.in_ok-saves.ensures in
    CountsFew-rest g.B.Board.weight kept _ (run.at - run.start) c.args.draws.now _ _
    c.args.tiles.now _ _ saves.left saves.counts.draws_rise saves.counts.tiles_rise
    (slice-from kept kept (rest.at - rest.start) (run.at - run.start) refl
    (ap (λ r. r.at - r.start) c.self.view_is)) c.redraw.ensures.counts

pub returns-clause-counts : goal.returns-clause-counts
returns-clause-counts g c =
    let kept = c.args.kept.now in
    let run = c.saves.new.self in
    let rest = c.self.inside in
    let saves = c.in_ok-saves.ensures in
    CountsFew-rest g.B.Board.weight kept _ (run.at - run.start) c.args.draws.now _ _
    c.args.tiles.now _ _ saves.left saves.counts.draws_rise saves.counts.tiles_rise
    (slice-from kept kept (rest.at - rest.start) (run.at - run.start) refl
    (ap (λ r. r.at - r.start) c.self.view_is)) c.redraw.ensures.counts
