use Rattle.std.proofs.Common.{[]}
use Rattle.dp_link.proofs.SendLemmas.{opened-same, known-goes, sent-same}
use Rattle.dp_link.proofs.down.send_more.Goals as goal

pub send_page-requires-clause-opened : goal.send_page-requires-clause-opened
send_page-requires-clause-opened g c =
    opened-same c.args.seat.now.view c.count-seen.new.seat.view c.count-seen.result
    c.args.greeting.now.conn c.args.greeting.now.user c.args.greeting.now.epoch
    c.args.greeting.now.at c.count-seen.ensures.view c.requires.opened

pub returns-in-Ok-true-clause-calls : goal.returns-in-Ok-true-clause-calls
returns-in-Ok-true-clause-calls g c =
    let start = c.args.hall.now.start in
    let before = c.args.seat.now.view in
    let counted = c.count-seen.new.seat.view in
    let sent = c.send_page.new.seat.view in
    c.calls_add_up.ensures.both before counted sent [] []
    (known-goes before counted c.count-seen.result c.count-seen.ensures.view
    (c.calls_add_up.ensures.count before c.count-seen.result c.count-seen.ensures.more))
    c.send_page.ensures.calls

pub returns-in-Ok-true-clause-sends : goal.returns-in-Ok-true-clause-sends
returns-in-Ok-true-clause-sends g c held h =
    let start = c.args.hall.now.start in
    let before = c.args.seat.now.view in
    let counted = c.count-seen.new.seat.view in
    let sent = c.send_page.new.seat.view in
    c.in-Ok-true.ensures.sends held
    (sent-same start before counted c.count-seen.result c.args.greeting.now.conn held
    (g.S.Sink.held c.args.tx.now) c.args.asked.now.cursor c.count-seen.ensures.view h)

pub returns-in-Ok-false-clause-calls : goal.returns-in-Ok-false-clause-calls
returns-in-Ok-false-clause-calls g c =
    let start = c.args.hall.now.start in
    let before = c.args.seat.now.view in
    let counted = c.count-seen.new.seat.view in
    let sent = c.send_page.new.seat.view in
    let waited = c.wait_past.new.seat.view in
    c.calls_add_up.ensures.both before sent waited [] []
    (c.calls_add_up.ensures.both before counted sent [] []
    (known-goes before counted c.count-seen.result c.count-seen.ensures.view
    (c.calls_add_up.ensures.count before c.count-seen.result c.count-seen.ensures.more))
    c.send_page.ensures.calls)
    (known-goes sent waited c.wait_past.result c.wait_past.ensures.view
    (c.calls_add_up.ensures.count sent c.wait_past.result c.wait_past.ensures.more))

pub returns-in-Ok-false-clause-sends : goal.returns-in-Ok-false-clause-sends
returns-in-Ok-false-clause-sends g c held h =
    let start = c.args.hall.now.start in
    let before = c.args.seat.now.view in
    let counted = c.count-seen.new.seat.view in
    let sent = c.send_page.new.seat.view in
    let waited = c.wait_past.new.seat.view in
    sent-same start sent waited c.wait_past.result c.args.greeting.now.conn held
    (g.S.Sink.held c.send_page.new.tx) c.send_page.new.asked.cursor c.wait_past.ensures.view
    (c.in-Ok-false.ensures.sends held
    (sent-same start before counted c.count-seen.result c.args.greeting.now.conn held
    (g.S.Sink.held c.args.tx.now) c.args.asked.now.cursor c.count-seen.ensures.view h))

pub returns-in-Err-clause-calls : goal.returns-in-Err-clause-calls
returns-in-Err-clause-calls g c =
    let start = c.args.hall.now.start in
    let before = c.args.seat.now.view in
    let counted = c.count-seen.new.seat.view in
    let sent = c.send_page.new.seat.view in
    c.calls_add_up.ensures.both before counted sent [] []
    (known-goes before counted c.count-seen.result c.count-seen.ensures.view
    (c.calls_add_up.ensures.count before c.count-seen.result c.count-seen.ensures.more))
    c.send_page.ensures.calls

pub returns-in-Err-clause-sends : goal.returns-in-Err-clause-sends
returns-in-Err-clause-sends g c held h =
    let start = c.args.hall.now.start in
    let before = c.args.seat.now.view in
    let counted = c.count-seen.new.seat.view in
    let sent = c.send_page.new.seat.view in
    c.in-Err.ensures.sends held
    (sent-same start before counted c.count-seen.result c.args.greeting.now.conn held
    (g.S.Sink.held c.args.tx.now) c.args.asked.now.cursor c.count-seen.ensures.view h)
