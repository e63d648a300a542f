use Rattle.std.proofs.Common.{ap, ◌∙◌, sym, length}
use Rattle.dp_sim_world.proofs.CallLemmas.{pull-is, next-is}
use Rattle.dp_sim_world.proofs.participant.Participant.pull.Goals as goal

pub returns : goal.returns
returns g c =
    let past = g.S.SureSession.past c.args.session.now in
    let pulled = pull-is past c.args.self.now c.self.inside.conn c.epoch.result
    (length c.taken.result.now)
    c.in_ok-list.field-0 c.requires (ap (λ p. p.conn) c.self.view_is)
    (c.epoch.ensures ∙ ap (λ p. p.state.epoch) c.self.view_is)
    (ap length c.taken.ensures ∙ ap (λ p. length p.state.taken) c.self.view_is) c.in_ok-list.ensures
    in
    next-is past c.args.self.now c.in-Entries.epoch c.in-Entries.at c.in-Entries.list
    (sym c.in-Entries.is ∙ pulled)
