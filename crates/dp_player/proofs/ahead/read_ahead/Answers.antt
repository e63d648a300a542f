use Rattle.std.proofs.Common.{◌≡◌, ◌∙◌, Bool, [], refl, subst, sym}
use Rattle.std.specs.List.{fold}
use Rattle.dp_plain.specs.Commands.{draw}
use Rattle.dp_savepoints.specs.Kept.{drawn_among}
use Rattle.dp_lines.specs.declared.run_end.RunEnd.{RunEnd}
use Rattle.dp_player.specs.Ahead.{EndsAfter}
use Rattle.dp_viewer.specs.Reading.{FaultMatchesWay, ReadsToEnd}
use Rattle.dp_viewer.specs.Ways.{play_way}
use Rattle.dp_player.proofs.Batches.{ends-memory, fault-after, goes-marked, on-own, shows-next}
use Rattle.dp_player.proofs.Batches.{to_end-after, told-after}
use Rattle.dp_viewer.proofs.Recordings.{on-no-error, shows-first}
use Rattle.dp_player.proofs.ahead.read_ahead.Goals as goal

pub batches-init : goal.batches-init
batches-init g c = record {
  told =
      shows-first c.args.shown.due (g.I.Source.left c.args.input.now) _ c.new-reader.result
      (goes-marked c.args.shown.board c.put_board-first.new.self _ c.put_board-first.result _
      c.put_board-first.ensures.new c.put_board-first.ensures.old c.new-ready.ensures.items []
      (on-own c.args.shown.board [] c.requires)) c.new-reader.ensures;
  going = rw c.new-reader.ensures tt;
  kept = refl;
}

pub batches-preserved : goal.batches-preserved
batches-preserved g c =
    let on = fold draw c.batches.behind.board (drawn_among c.batches.behind.ready.items) in
    let reads = c.in-More.ensures.read in
    let goes = on-no-error c.go_on.result c.is_err.result c.is_err.ensures.value
    c.if-is_err.false c.go_on.ensures in
    record {
      told =
          shows-next c.args.shown.due (g.I.Source.left c.args.input.now)
          (g.I.Source.left c.batches.input) (g.I.Source.left c.read_beside.new.input) on _
          c.batches.ahead c.read_beside.new.ahead c.go_on.new.board c.in-More.marked reads.shown
          (λ entries trails. goes on entries c.in-More.ensures.drawn trails)
          c.batches.invariant.told;
      going = reads.goes_on;
      kept = reads.kept ∙ c.batches.invariant.kept;
    }

pub batches-smaller : goal.batches-smaller
batches-smaller g c = c.in-More.ensures.read.further

-- how playing ends after the last batch
ended : (drawn : Bool) (given made end : RunEnd) → EndsAfter drawn given made → end ≡ made
    → EndsAfter drawn given end
ended drawn given made end after is = subst (EndsAfter drawn given) (sym is) after

pub returns-in-Ended-clause-told : goal.returns-in-Ended-clause-told
returns-in-Ended-clause-told g c =
    let at = c.args.shown.due in
    let on = fold draw c.batches.behind.board (drawn_among c.batches.behind.ready.items) in
    let reads = c.in-Ended.ensures.read in
    told-after c.in-Ended.end c.put_back.result.end c.read_beside.new.behind.drawn (play_way at) _ _
    on c.read_beside.new.behind.board c.read_beside.new.ahead.board c.put_back.result.shown.board
    c.put_back.ensures.board c.in-Ended.ensures.drawn
    (ended _ _ _ _ c.end_after-end.ensures c.put_back.ensures.end)
    (reads.told at _ on c.batches.invariant.told)

pub returns-in-Ended-clause-fault : goal.returns-in-Ended-clause-fault
returns-in-Ended-clause-fault g c =
    let at = c.args.shown.due in
    let reads = c.in-Ended.ensures.read in
    let was = c.batches.invariant in
    fault-after c.in-Ended.end c.put_back.result.end c.read_beside.new.behind.drawn
    (play_way at) _ _
    (ended _ _ _ _ c.end_after-end.ensures c.put_back.ensures.end)
    (rw was.kept at (reads.fault at was.going))

pub returns-in-Ended-clause-to_end : goal.returns-in-Ended-clause-to_end
returns-in-Ended-clause-to_end g c =
    let reads = c.in-Ended.ensures.read in
    to_end-after c.in-Ended.end c.put_back.result.end c.read_beside.new.behind.drawn _
    (ended _ _ _ _ c.end_after-end.ensures c.put_back.ensures.end)
    (reads.to_end c.batches.invariant.going)

pub returns-then-is_err-clause-told : goal.returns-then-is_err-clause-told
returns-then-is_err-clause-told g c =
    rw c.put_back-then-is_err.ensures.end (ends-memory (play_way c.args.shown.due)
    (g.I.Source.left c.args.input.now) (g.I.Source.left c.read_beside.new.input)
    c.put_back-then-is_err.result.shown.board)

pub returns-then-is_err-clause-fault : goal.returns-then-is_err-clause-fault
returns-then-is_err-clause-fault g c =
    subst (λ (e : RunEnd). FaultMatchesWay (play_way c.args.shown.due)
    (g.I.Source.faults c.args.input.now) (g.I.Source.faults c.read_beside.new.input) e)
    (sym c.put_back-then-is_err.ensures.end)
    (c.in-More.ensures.read.kept ∙ c.batches.invariant.kept)

pub returns-then-is_err-clause-to_end : goal.returns-then-is_err-clause-to_end
returns-then-is_err-clause-to_end g c =
    λ to_end. absurd (subst ReadsToEnd c.put_back-then-is_err.ensures.end to_end)
