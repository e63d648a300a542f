-- The session takes the first message of the client's uplink, if there is one.
use Rattle.std.proofs.Common.{ap, arith, length, sym, ◌∙◌, is_some}
use Rattle.dp_lists.specs.Numbered.{numbered}
use Rattle.dp_schedule.specs.declared.action.Action.TheVariants.{Act}
use Rattle.dp_schedule.specs.declared.action.Instruction.TheVariants.{Up}
use Rattle.dp_drill.specs.Flow.{Flow, flow_after}
use Rattle.dp_drill.proofs.Uplinks.{absent, none-made, sent-made, within}
use Rattle.dp_drill.proofs.flow.Flow.send.Goals as goal

pub returns-then-not-has-clause-ok : goal.returns-then-not-has-clause-ok
returns-then-not-has-clause-ok g c =
    sym (absent c.args.self.now c.args.client Up (sym c.has.ensures ∙ c.if-not-has.true))

pub index_mut-requires : goal.index_mut-requires
index_mut-requires g c =
    let inside = within c.args.self.now c.args.client (sym c.has.ensures ∙ c.if-not-has.false) in
    let long = ap (λ (f : Flow). length f.uplinks) c.self.view_is in
    omega (arith, inside, long, c.self.inside.uplinks.ok.0)

pub returns-in_default-clause-ok : goal.returns-in_default-clause-ok
returns-in_default-clause-ok g c =
    let before : Flow = record {
      past = g.S.SureSession.past c.self.inside.session;
      uplinks = c.self.inside.uplinks.items;
    } in
    let some = ap (λ (f : Flow). is_some (numbered f.uplinks c.args.client)) c.self.view_is
    ∙ sym c.has.ensures ∙ c.if-not-has.false in
    none-made before c.args.client some c.index_mut.result.now c.index_mut.ensures.value
    c.pop.new.self c.in_default.ensures.none.0 c.in_default.ensures.none.1
    ∙ ap (λ f. flow_after f (Act c.args.client Up)) c.self.view_is

pub returns-clause-ok : goal.returns-clause-ok
returns-clause-ok g c =
    let before : Flow = record {
      past = g.S.SureSession.past c.self.inside.session;
      uplinks = c.self.inside.uplinks.items;
    } in
    let some = ap (λ (f : Flow). is_some (numbered f.uplinks c.args.client)) c.self.view_is
    ∙ sym c.has.ensures ∙ c.if-not-has.false in
    sent-made before c.args.client some c.index_mut.result.now c.index_mut.ensures.value
    c.in-Some.msg c.pop.new.self (g.S.SureSession.past c.serve.new.session) c.in-Some.ensures.some
    c.in_ok-serve.ensures
    ∙ ap (λ f. flow_after f (Act c.args.client Up)) c.self.view_is
