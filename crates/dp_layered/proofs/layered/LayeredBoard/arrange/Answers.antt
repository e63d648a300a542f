use Rattle.std.proofs.Common.{sym, true, None}
use Rattle.std.proofs.lemmas.Option.{none-some}
use Rattle.dp_plain.proofs.Holds.{held_after}
use Rattle.dp_layered.proofs.Views.{at_error, effect_viewed}
use Rattle.dp_layered.proofs.layered.LayeredBoard.arrange.Goals as goal

pub invariant_of-self-2 : goal.invariant_of-self-2
invariant_of-self-2 g c =
    let inside = c.self.inside in
    held_after g.C.LayerPixels.fits inside.width inside.height inside.tree c.arrange_rows.new.tree
    c.self.invariant
    c.trees_stay_trees.ensures.after c.args.command.now None (sym c.in_ok-arrange_rows.ensures.kind)
    (λ x is. absurd (none-some x is)) c.in_ok-arrange_rows.ensures.ok

pub returns-in_err-arrange_rows-clause-memory : goal.returns-in_err-arrange_rows-clause-memory
returns-in_err-arrange_rows-clause-memory g c =
    let inside = c.self.inside in
    at_error c.from_residual.result
    (effect_viewed (g.C.LayerPixels.pixels inside.width inside.height) inside.width inside.height
    inside.background inside.tree c.args.command.now true c.args.self.now
    c.self.view_is c.in_err-arrange_rows.ensures.memory)
