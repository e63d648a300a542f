use Rattle.std.proofs.Common.{◌∙◌, refl, []}
use Rattle.dp_link.specs.Sending.{session_of}
use Rattle.dp_link.proofs.SendLemmas.{seen-legal, sent-first, opened-later}
use Rattle.dp_link.proofs.down.pump_down.Goals as goal

pub pages-init : goal.pages-init
pages-init g c =
    let start = c.args.hall.now.start in
    let view = c.args.seat.now.view in
    let greeting = c.args.greeting.now in
    let legal = seen-legal start view c.requires.of.start c.seats_are_sound.ensures in
    record {
      of = c.requires.of;
      calls = c.calls_add_up.ensures.none view;
      opened = c.requires.opened;
      sent =
          sent-first (session_of start view) greeting.conn greeting.epoch
          (g.S.Sink.held c.args.tx.now) _
          (c.feeds_begin.ensures start view.seen greeting.conn greeting.user greeting.epoch
          greeting.at c.requires.start legal c.requires.opened)
          refl refl;
      conn = refl;
      kept = refl;
    }

pub pages-preserved : goal.pages-preserved
pages-preserved g c =
    let greeting = c.args.greeting.now in
    let before = c.pages.seat.view in
    let sent = c.send_more.new.seat.view in
    record {
      of = c.send_more.ensures.of;
      calls =
          c.calls_add_up.ensures.both c.args.seat.now.view before sent [] []
          c.pages.invariant.calls c.send_more.ensures.calls;
      opened =
          opened-later before.seen sent.seen greeting.conn greeting.user greeting.epoch
          greeting.at c.send_more.ensures.calls.seen c.pages.invariant.opened;
      sent = c.in-Ok.ensures.sends (g.S.Sink.held c.args.tx.now) c.pages.invariant.sent;
      conn = c.send_more.ensures.conn;
      kept = c.in-Ok.ensures.fault ∙ c.pages.invariant.kept;
    }
