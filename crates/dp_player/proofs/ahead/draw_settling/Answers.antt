use Rattle.std.proofs.Common.{◌∙◌, ◌+◌, ap, arith, refl, sym}
use Rattle.std.proofs.lemmas.List.{drop_all}
use Rattle.std.specs.List.{fold}
use Rattle.dp_plain.specs.Commands.{draw}
use Rattle.dp_savepoints.specs.Kept.{drawn_among}
use Rattle.dp_player.proofs.Batches.{drawn-further}
use Rattle.dp_player.proofs.ahead.draw_settling.Goals as goal

pub loop-done-init : goal.loop-done-init
loop-done-init g c = record { inside = omega arith; drawn = refl }

pub loop-done-preserved : goal.loop-done-preserved
loop-done-preserved g c =
    let inv = c.loop-done.invariant in
    let done = c.loop-done.done in
    let next = done + c.min.result in
    record {
      inside = omega arith;
      drawn = drawn-further c.loop-done.board c.settle_half_full.new.board _ done next
          c.args.acts.now (omega arith)
          (c.settle_half_full.ensures.same ∙ c.in_ok-draw_kept.ensures.board) inv.drawn;
    }

pub returns : goal.returns
returns g c =
    let acts = c.args.acts.now in
    let done = c.loop-done.done in
    ap (λ xs. fold draw c.loop-done.board (drawn_among xs)) (sym (drop_all done acts (omega arith)))
    ∙ c.loop-done.invariant.drawn
