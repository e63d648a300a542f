use Rattle.std.proofs.Common.{◌∙◌, sym, true, false}
use Rattle.dp_layered.proofs.Views.{arranged_not, at_error, effect_viewed}
use Rattle.dp_layered.proofs.layered.LayeredBoard.create.Goals as goal

pub returns-then-not-accepts-clause-ok : goal.returns-then-not-accepts-clause-ok
returns-then-not-accepts-clause-ok g c =
    let inside = c.self.inside in
    arranged_not c.args.self.now c.args.command.now
    (effect_viewed (g.C.LayerPixels.pixels inside.width inside.height) inside.width inside.height
    inside.background inside.tree c.args.command.now false c.args.self.now
    c.self.view_is
    (sym c.accepts.ensures ∙ c.if-not-accepts.true))

pub returns-in_err-content-clause-memory : goal.returns-in_err-content-clause-memory
returns-in_err-content-clause-memory g c =
    let inside = c.self.inside in
    at_error c.from_residual.result
    (effect_viewed (g.C.LayerPixels.pixels inside.width inside.height) inside.width inside.height
    inside.background inside.tree c.args.command.now true c.args.self.now
    c.self.view_is
    (sym c.accepts.ensures ∙ c.if-not-accepts.false))

pub returns-in_err-_effect-clause-memory : goal.returns-in_err-_effect-clause-memory
returns-in_err-_effect-clause-memory g c =
    let inside = c.self.inside in
    at_error c.from_residual-in_err-_effect.result
    (effect_viewed (g.C.LayerPixels.pixels inside.width inside.height) inside.width inside.height
    inside.background inside.tree c.args.command.now true c.args.self.now
    c.self.view_is
    (sym c.accepts.ensures ∙ c.if-not-accepts.false))
