use Rattle.std.proofs.Common.{ap, sym, ◌∙◌}
use Rattle.dp_plain.specs.Picture.{p3}
use Rattle.dp_showing.specs.declared.showing.Shown.{Shown}
use Rattle.dp_showing.specs.Showing.{recording_text, shown_text, snapshot_text}
use Rattle.dp_showing.proofs.Pieces.{prefix_is, written_is}
use Rattle.dp_printing.proofs.showing.show.Goals as goal

pub returns-in-View-clause-written : goal.returns-in-View-clause-written
returns-in-View-clause-written g c =
    let show = g.B.BoardView.board in
    written_is c.write_picture.result _ _ (p3 (show c.view.result.now))
    (shown_text c.args.shown c.args.client.now)
    (ap (λ b. p3 (show b)) c.view.ensures
    ∙ ap p3 (c.clients_show.ensures.view c.args.client.now)
    ∙ ap (λ (s : Shown). shown_text s c.args.client.now) (sym c.in-View.is))
    c.write_picture.ensures.written

pub returns-in-View-clause-prefix : goal.returns-in-View-clause-prefix
returns-in-View-clause-prefix g c =
    let show = g.B.BoardView.board in
    prefix_is _ _ (p3 (show c.view.result.now)) (shown_text c.args.shown c.args.client.now)
    (ap (λ b. p3 (show b)) c.view.ensures
    ∙ ap p3 (c.clients_show.ensures.view c.args.client.now)
    ∙ ap (λ (s : Shown). shown_text s c.args.client.now) (sym c.in-View.is))
    c.write_picture.ensures.prefix

pub returns-in-Confirmed-clause-written :
    goal.returns-in-Confirmed-clause-written
returns-in-Confirmed-clause-written g c =
    let show = g.B.BoardView.board in
    written_is c.write_picture-in-Confirmed.result _ _ (p3 (show c.confirmed.result.now))
    (shown_text c.args.shown c.args.client.now)
    (ap (λ b. p3 (show b)) c.confirmed.ensures
    ∙ ap p3 (c.clients_show.ensures.confirmed c.args.client.now)
    ∙ ap (λ (s : Shown). shown_text s c.args.client.now) (sym c.in-Confirmed.is))
    c.write_picture-in-Confirmed.ensures.written

pub returns-in-Confirmed-clause-prefix :
    goal.returns-in-Confirmed-clause-prefix
returns-in-Confirmed-clause-prefix g c =
    let show = g.B.BoardView.board in
    prefix_is _ _ (p3 (show c.confirmed.result.now))
    (shown_text c.args.shown c.args.client.now)
    (ap (λ b. p3 (show b)) c.confirmed.ensures
    ∙ ap p3 (c.clients_show.ensures.confirmed c.args.client.now)
    ∙ ap (λ (s : Shown). shown_text s c.args.client.now) (sym c.in-Confirmed.is))
    c.write_picture-in-Confirmed.ensures.prefix

pub returns-in-Snapshot-clause-written : goal.returns-in-Snapshot-clause-written
returns-in-Snapshot-clause-written g c =
    let show = g.B.BoardView.board in
    written_is c.write_snapshot.result _ _ (snapshot_text (show c.confirmed-in-Snapshot.result.now))
    (shown_text c.args.shown c.args.client.now)
    (ap (λ b. snapshot_text (show b)) c.confirmed-in-Snapshot.ensures
    ∙ ap snapshot_text (c.clients_show.ensures.confirmed c.args.client.now)
    ∙ ap (λ (s : Shown). shown_text s c.args.client.now) (sym c.in-Snapshot.is))
    c.write_snapshot.ensures.written

pub returns-in-Snapshot-clause-prefix : goal.returns-in-Snapshot-clause-prefix
returns-in-Snapshot-clause-prefix g c =
    let show = g.B.BoardView.board in
    prefix_is _ _ (snapshot_text (show c.confirmed-in-Snapshot.result.now))
    (shown_text c.args.shown c.args.client.now)
    (ap (λ b. snapshot_text (show b)) c.confirmed-in-Snapshot.ensures
    ∙ ap snapshot_text (c.clients_show.ensures.confirmed c.args.client.now)
    ∙ ap (λ (s : Shown). shown_text s c.args.client.now) (sym c.in-Snapshot.is))
    c.write_snapshot.ensures.prefix

pub returns-in-Recording-clause-prefix : goal.returns-in-Recording-clause-prefix
returns-in-Recording-clause-prefix g c =
    prefix_is _ _ (recording_text c.taken.result.now)
    (shown_text c.args.shown c.args.client.now)
    (ap recording_text c.taken.ensures
    ∙ ap (λ (s : Shown). shown_text s c.args.client.now) (sym c.in-Recording.is))
    c.write_recording.ensures.prefix
