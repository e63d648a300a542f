use Rattle.std.proofs.Common.{◌≡◌, ℕ, ◌∙◌, ap, sym, length}
use Rattle.std.specs.List.{flat_map}
use Rattle.dp_showing.proofs.Pieces.{appends_is, prefix_is}
use Rattle.dp_showing.specs.Resets.{client_reset}
use Rattle.dp_snap.specs.Resets.{reset_messages}
use Rattle.dp_snap.specs.Snapshot.{snapshot}
use Rattle.dp_join_link.specs.Sent.{sent_by}
use Rattle.dp_joiner.proofs.Moving.{grows_not}
use Rattle.dp_joiner.proofs.Resets.{reset_length, resets_are}
use Rattle.dp_joiner.proofs.reset.send_client.Goals as goal

pub returns-in_err-commands-clause-prefix : goal.returns-in_err-commands-clause-prefix
returns-in_err-commands-clause-prefix g c = grows_not _ _

pub returns-in_err-send_reset-clause-prefix : goal.returns-in_err-send_reset-clause-prefix
returns-in_err-send_reset-clause-prefix g c =
    let is : reset_messages c.reset_begin-begin.result c.as_slice-commands.result.now
    ≡ client_reset c.args.keeps c.args.client.now =
    resets_are c.args.keeps c.args.client.now _ _ (length c.taken.result.now)
    (ap length c.taken.ensures) c.reset_begin-begin.ensures
    (c.as_slice-commands.ensures ∙ c.in_ok-commands.ensures.snapshot
    ∙ ap (λ b. snapshot (g.B.BoardView.board b)) c.confirmed.ensures
    ∙ ap snapshot (c.clients_show.ensures.confirmed c.args.client.now)) in
    prefix_is _ _ _ _
    (ap (λ (u : ℕ). flat_map (sent_by u) (reset_messages c.reset_begin-begin.result
    c.as_slice-commands.result.now)) c.user-user.ensures
    ∙ ap (flat_map (sent_by c.args.client.now.user)) is)
    c.in_err-send_reset.ensures.prefix

pub returns-clause-count : goal.returns-clause-count
returns-clause-count g c =
    let is : reset_messages c.reset_begin-begin.result c.as_slice-commands.result.now
    ≡ client_reset c.args.keeps c.args.client.now =
    resets_are c.args.keeps c.args.client.now _ _ (length c.taken.result.now)
    (ap length c.taken.ensures) c.reset_begin-begin.ensures
    (c.as_slice-commands.ensures ∙ c.in_ok-commands.ensures.snapshot
    ∙ ap (λ b. snapshot (g.B.BoardView.board b)) c.confirmed.ensures
    ∙ ap snapshot (c.clients_show.ensures.confirmed c.args.client.now)) in
    sym (reset_length c.reset_begin-begin.result c.as_slice-commands.result.now) ∙ ap length is

pub returns-clause-written : goal.returns-clause-written
returns-clause-written g c =
    let is : reset_messages c.reset_begin-begin.result c.as_slice-commands.result.now
    ≡ client_reset c.args.keeps c.args.client.now =
    resets_are c.args.keeps c.args.client.now _ _ (length c.taken.result.now)
    (ap length c.taken.ensures) c.reset_begin-begin.ensures
    (c.as_slice-commands.ensures ∙ c.in_ok-commands.ensures.snapshot
    ∙ ap (λ b. snapshot (g.B.BoardView.board b)) c.confirmed.ensures
    ∙ ap snapshot (c.clients_show.ensures.confirmed c.args.client.now)) in
    appends_is _ _ _ _
    (ap (λ (u : ℕ). flat_map (sent_by u) (reset_messages c.reset_begin-begin.result
    c.as_slice-commands.result.now)) c.user-user.ensures
    ∙ ap (flat_map (sent_by c.args.client.now.user)) is)
    c.in_ok-send_reset.ensures.written

pub returns-clause-prefix : goal.returns-clause-prefix
returns-clause-prefix g c =
    let is : reset_messages c.reset_begin-begin.result c.as_slice-commands.result.now
    ≡ client_reset c.args.keeps c.args.client.now =
    resets_are c.args.keeps c.args.client.now _ _ (length c.taken.result.now)
    (ap length c.taken.ensures) c.reset_begin-begin.ensures
    (c.as_slice-commands.ensures ∙ c.in_ok-commands.ensures.snapshot
    ∙ ap (λ b. snapshot (g.B.BoardView.board b)) c.confirmed.ensures
    ∙ ap snapshot (c.clients_show.ensures.confirmed c.args.client.now)) in
    prefix_is _ _ _ _
    (ap (λ (u : ℕ). flat_map (sent_by u) (reset_messages c.reset_begin-begin.result
    c.as_slice-commands.result.now)) c.user-user.ensures
    ∙ ap (flat_map (sent_by c.args.client.now.user)) is)
    c.send_reset.ensures.prefix
