use Rattle.std.proofs.Common.{◌∙◌, ap, refl, length}
use Rattle.std.proofs.lemmas.Result.{err_from_is_err_and}
use Rattle.dp_client.specs.Client.{State}
use Rattle.dp_join_link.specs.declared.stops.JoinStop.TheVariants.{Memory}
use Rattle.dp_joiner.specs.Joining.{Joining, said_by}
use Rattle.dp_joiner.specs.Steps.{Linked}
use Rattle.dp_joiner.proofs.Moving.{anyhow, changes_last, drew_none, fails_first, says_adds}
use Rattle.dp_joiner.proofs.Moving.{says_leads}
use Rattle.dp_joiner.proofs.joiner.Joiner.say.Goals as goal

pub returns-in_err-send_message-clause-changes : goal.returns-in_err-send_message-clause-changes
returns-in_err-send_message-clause-changes g c =
    let p = err_from_is_err_and c.from_residual.result c.from_residual.ensures.1 in
    rw (p.1, p.2, ← c.self.view_is) (fails_first _ _
    (λ (j : Joining). said_by j c.args.msg.now) _ _ _
    (says_adds c.self.inside.client c.self.inside.chats c.args.msg.now c.user-user.result _
    c.user-user.ensures refl) (drew_none _ _ _) refl
    c.in_err-send_message.field-0.0 c.in_err-send_message.ensures.prefix refl refl
    c.in_err-send_message.ensures.fault)

pub returns-in_err-say-clause-changes : goal.returns-in_err-say-clause-changes
returns-in_err-say-clause-changes g c =
    let p = err_from_is_err_and c.from_residual-in_err-say.result
    c.from_residual-in_err-say.ensures.1 in
    rw (p.1, p.2, ← c.self.view_is) (fails_first _ _
    (λ (j : Joining). said_by j c.args.msg.now) _ _ _
    (says_adds c.self.inside.client c.self.inside.chats c.args.msg.now c.user-user.result _
    c.user-user.ensures refl) (c.clients_show.ensures.counts _ _ _ _ _ c.say.ensures.counts) refl
    Memory c.send_message.ensures.prefix refl refl c.in_ok-send_message.ensures.kept)

pub returns-clause-changes : goal.returns-clause-changes
returns-clause-changes g c =
    rw (← c.self.view_is) (changes_last _ _ (λ (j : Joining). said_by j c.args.msg.now) _ _ _
    (says_adds c.self.inside.client c.self.inside.chats c.args.msg.now c.user-user.result
    c.pending_len.result c.user-user.ensures
    (c.pending_len.ensures ∙ ap (λ (s : State). length s.fork) c.in_ok-say.ensures.ok))
    (c.clients_show.ensures.counts _ _ _ _ _ c.say.ensures.counts) refl c.print_line.result
    (says_leads c.self.inside.client c.self.inside.chats c.args.msg.now c.say.new.self
    c.in_ok-say.ensures.ok) c.in_ok-send_message.ensures.written c.in_ok-send_message.ensures.kept
    c.print_line.ensures.written c.print_line.ensures.prefix c.print_line.ensures.kept
    c.print_line.ensures.fault)

pub returns-clause-taken : goal.returns-clause-taken
returns-clause-taken g c =
    anyhow c.print_line.result (ap (λ (s : State). s.taken) c.in_ok-say.ensures.ok
    ∙ ap (λ (j : Linked). j.client.taken) c.self.view_is)
