-- The user's Open was served, and there is one more uplink.
use Rattle.std.proofs.Common.{[], ◌∷◌, ◌++◌, ap, false, ◌∙◌}
use Rattle.dp_epochs.specs.declared.event.Event.TheVariants as event
use Rattle.dp_epochs.specs.Past.{sure_step}
use Rattle.dp_schedule.specs.declared.action.Action.TheVariants.{Join}
use Rattle.dp_drill.specs.Flow.{Flow, flow_after}
use Rattle.dp_drill.proofs.Uplinks.{joined-made}
use Rattle.dp_drill.proofs.flow.Flow.join.Goals as goal

pub returns-clause-ok : goal.returns-clause-ok
returns-clause-ok g c =
    let name = c.args.name.now in
    let before : Flow = record {
      past = g.S.SureSession.past c.self.inside.session;
      uplinks = c.self.inside.uplinks.items;
    } in
    joined-made before name (g.S.SureSession.past c.serve.new.session)
    c.push.new.self.items
    (c.in_ok-serve.ensures
    ∙ ap (λ bytes. sure_step (g.S.SureSession.past c.self.inside.session)
    (event.Open bytes false))
    (c.from_vec-name.ensures ∙ c.in_ok-from_slice.ensures.items))
    (c.in_ok-push.ensures.items ∙ ap (λ u. c.self.inside.uplinks.items ++ u ∷ []) c.new.ensures)
    ∙ ap (λ f. flow_after f (Join name false)) c.self.view_is
