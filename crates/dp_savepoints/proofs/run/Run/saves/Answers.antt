use Rattle.std.proofs.Common.{◌≡◌, ◌∙◌, ◌++◌, ◌∷◌, [], ap, arith, map, sym}
use Rattle.std.proofs.lemmas.List.{get_or-map, length-map, take_all}
use Rattle.dp_savepoints.specs.Kept.{marked}
use Rattle.dp_savepoints.specs.Runs.{save_anew, saved_anew}
use Rattle.dp_savepoints.proofs.RunLemmas.{saved-run, saves-more}
use Rattle.dp_savepoints.proofs.run.Run.saves.Goals as goal

pub go_to-requires-clause-within : goal.go_to-requires-clause-within
go_to-requires-clause-within g c =
    let olds = c.args.old.now in
    let k = c.save-item.result in
    let i = c.loop-save.save-index in
    let at = get_or-map (λ s. s.point) olds i k k.point c.loop-save-test.true
    ∙ ap (λ s. s.point) (sym c.save-item.is) in
    omega (
      arith,
      ap (λ s. s.point) c.save.view_is,
      at,
      c.requires.within i k.point
          (omega (arith, c.loop-save-test.true, length-map olds (λ s. s.point))),
      c.loop-save.invariant.start,
    )

pub loop-save-preserved : goal.loop-save-preserved
loop-save-preserved g c =
    let draw = g.B.Board.drawn in
    let all = map (marked c.args.mark) c.args.kept.now in
    let olds = c.args.old.now in
    let k = c.save-item.result in
    let save = c.save.inside in
    let i = c.loop-save.save-index in
    let was = c.loop-save.invariant in
    let went = c.in_ok-go_to.ensures in
    let new = c.go_to.new.self in
    let shared = c.saved.ensures in
    let first = c.args.self.now.start in
    let inside = c.loop-save-test.true in
    let many = length-map olds (λ s. s.point) in
    let point = ap (λ s. s.point) c.save.view_is in
    let at = get_or-map (λ s. s.point) olds i k k.point inside
    ∙ ap (λ s. s.point) (sym c.save-item.is) in
    let within = c.requires.within i k.point (omega (arith, inside, many)) in
    let start : new.start ≡ first = went.start ∙ was.start in
    let near = was.next i k.point (omega arith) inside in
    record {
      start = start;
      begun = omega (arith, went.at, went.start, was.begun);
      inside = omega (arith, went.at, went.start, was.inside, was.start, within, point, at);
      next = λ j d later in_list. omega (
        arith,
        went.at,
        point,
        get_or-map (λ s. s.point) olds i k d inside ∙ ap (λ s. s.point) (sym c.save-item.is),
        was.next j d (omega (arith, later)) in_list,
        c.requires.rising i j d (omega (arith, later)) (omega (arith, in_list, many)),
      );
      run = λ from is. went.run from (was.run from is);
      saves = λ from is.
          c.in_ok-push.ensures.items
          ∙ ap (λ p. c.loop-save.saves.items
          ++ (record { point = p; board = c.in_ok-board.board.value }) ∷ []) point
          ∙ saves-more draw all first from olds c.loop-save.saves.items i k
          c.in_ok-board.board.value inside c.save-item.is (was.saves from is)
          (c.in_ok-board.ensures.saved
          ∙ saved-run draw all from save.board.value new save.point
          (went.run from (was.run from is))
          (λ later. omega (arith, later, went.at, went.start, was.start, point, at, near))
          ∙ ap (λ n. saved_anew draw all n from save.point save.board.value) start
          ∙ ap (λ s. saved_anew draw all first from s.point s.board) c.save.view_is);
      draws_rise = omega (arith, was.draws_rise, went.counts.draws_rise, shared.no_draw);
      few_draws = omega (arith, was.few_draws, went.left.few_draws, shared.no_draw);
      tiles_rise = omega (arith, was.tiles_rise, went.counts.tiles_rise, shared.no_tile);
      few_tiles = omega (arith, was.few_tiles, went.left.few_tiles, shared.no_tile);
    }

pub returns-clause-saves : goal.returns-clause-saves
returns-clause-saves g c = λ from is.
    let all = map (marked c.args.mark) c.args.kept.now in
    c.loop-save.invariant.saves from is
    ∙ ap (map (save_anew g.B.Board.drawn all c.args.self.now.start from))
    (take_all c.loop-save.save-index c.args.old.now (omega (arith, c.loop-save-test.false)))
