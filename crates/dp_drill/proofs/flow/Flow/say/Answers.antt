-- The message joins the client's uplink, if there is such a client.
use Rattle.std.proofs.Common.{ap, arith, length, sym, ◌∙◌, is_some}
use Rattle.dp_lists.specs.Numbered.{numbered}
use Rattle.dp_schedule.specs.declared.action.Action.TheVariants.{Act}
use Rattle.dp_schedule.specs.declared.action.Instruction.TheVariants.{Say}
use Rattle.dp_drill.specs.Flow.{Flow, flow_after}
use Rattle.dp_drill.proofs.Uplinks.{absent, said-made, within}
use Rattle.dp_drill.proofs.flow.Flow.say.Goals as goal

pub returns-then-not-has-clause-ok : goal.returns-then-not-has-clause-ok
returns-then-not-has-clause-ok g c =
    sym (absent c.args.self.now c.args.client (Say c.args.msg)
    (sym c.has.ensures ∙ c.if-not-has.true))

pub index_mut-requires : goal.index_mut-requires
index_mut-requires g c =
    let inside = within c.args.self.now c.args.client (sym c.has.ensures ∙ c.if-not-has.false) in
    let long = ap (λ (f : Flow). length f.uplinks) c.self.view_is in
    omega (arith, inside, long, c.self.inside.uplinks.ok.0)

pub returns-clause-ok : goal.returns-clause-ok
returns-clause-ok g c =
    let before : Flow = record {
      past = g.S.SureSession.past c.self.inside.session;
      uplinks = c.self.inside.uplinks.items;
    } in
    let some = ap (λ (f : Flow). is_some (numbered f.uplinks c.args.client)) c.self.view_is
    ∙ sym c.has.ensures ∙ c.if-not-has.false in
    said-made before c.args.client some c.index_mut.result.now c.index_mut.ensures.value
    c.args.msg c.push.new.self c.in_ok-push.ensures
    ∙ ap (λ f. flow_after f (Act c.args.client (Say c.args.msg))) c.self.view_is
