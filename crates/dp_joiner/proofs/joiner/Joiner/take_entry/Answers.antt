use Rattle.std.proofs.Common.{refl}
use Rattle.std.proofs.lemmas.Result.{err_from_is_err_and}
use Rattle.dp_client.specs.Client.{taken_of}
use Rattle.dp_join_link.specs.declared.stops.JoinStop.TheVariants.{Memory}
use Rattle.dp_joiner.specs.Joining.{Joining, took_entry}
use Rattle.dp_joiner.proofs.Moving.{changes_last, fails_first, grows_not, takes_adds, takes_leads}
use Rattle.dp_joiner.proofs.joiner.Joiner.take_entry.Goals as goal

pub returns-in_err-taken-clause-changes : goal.returns-in_err-taken-clause-changes
returns-in_err-taken-clause-changes g c =
    let p = err_from_is_err_and c.from_residual.result c.from_residual.ensures.1 in
    rw (p.1, p.2, ← c.self.view_is) (fails_first _ _
    (λ (j : Joining). took_entry j c.args.entry.now) _ _ _
    (takes_adds c.self.inside.client c.self.inside.chats c.args.entry.now c.user-user.result
    (taken_of c.self.inside.client c.args.entry.now) c.user-user.ensures refl)
    (c.clients_show.ensures.takes c.self.inside.client c.args.entry.now _ _ _ _
    c.take.ensures.counts) refl Memory (grows_not _ _) refl refl refl)

pub returns-in_err-acknowledge-clause-changes : goal.returns-in_err-acknowledge-clause-changes
returns-in_err-acknowledge-clause-changes g c =
    let p = err_from_is_err_and c.from_residual-in_err-acknowledge.result
    c.from_residual-in_err-acknowledge.ensures.1 in
    rw (p.1, p.2, ← c.self.view_is) (fails_first _ _
    (λ (j : Joining). took_entry j c.args.entry.now) _ _ _
    (takes_adds c.self.inside.client c.self.inside.chats c.args.entry.now c.user-user.result
    c.in_ok-taken.taken c.user-user.ensures c.in_ok-taken.ensures.taken_of)
    (c.clients_show.ensures.takes c.self.inside.client c.args.entry.now _ _ _ _
    c.take.ensures.counts) refl c.in_err-acknowledge.field-0.0
    c.in_err-acknowledge.ensures.prefix refl refl c.in_err-acknowledge.ensures.fault)

pub returns-in_err-keep_chat-clause-changes : goal.returns-in_err-keep_chat-clause-changes
returns-in_err-keep_chat-clause-changes g c =
    let p = err_from_is_err_and c.from_residual-in_err-keep_chat.result
    c.from_residual-in_err-keep_chat.ensures.1 in
    rw (p.1, p.2, ← c.self.view_is) (fails_first _ _
    (λ (j : Joining). took_entry j c.args.entry.now) _ _ _
    (takes_adds c.self.inside.client c.self.inside.chats c.args.entry.now c.user-user.result
    c.in_ok-taken.taken c.user-user.ensures c.in_ok-taken.ensures.taken_of)
    (c.clients_show.ensures.takes c.self.inside.client c.args.entry.now _ _ _ _
    c.take.ensures.counts) refl Memory c.in_ok-acknowledge.ensures.prefix refl refl
    c.in_ok-acknowledge.ensures.kept)

pub returns-clause-changes : goal.returns-clause-changes
returns-clause-changes g c =
    rw (← c.self.view_is) (changes_last _ _ (λ (j : Joining). took_entry j c.args.entry.now) _ _ _
    (takes_adds c.self.inside.client c.self.inside.chats c.args.entry.now c.user-user.result
    c.in_ok-taken.taken c.user-user.ensures c.in_ok-taken.ensures.taken_of)
    (c.clients_show.ensures.takes c.self.inside.client c.args.entry.now _ _ _ _
    c.take.ensures.counts) refl c.print_line.result
    (takes_leads c.self.inside.client c.self.inside.chats c.args.entry.now c.take.new.self
    c.keep_chat.new.chats c.in_ok-taken.ensures.ok c.in_ok-keep_chat.ensures)
    c.in_ok-acknowledge.ensures.written c.in_ok-acknowledge.ensures.kept
    c.print_line.ensures.written c.print_line.ensures.prefix c.print_line.ensures.kept
    c.print_line.ensures.fault)
