use Rattle.std.proofs.Common.{subst, ◌∙◌, Some, None}
use Rattle.dp_link.specs.Sending.{session_of}
use Rattle.dp_link.proofs.SendLemmas.{seen-legal, sent-later, PageAt, page-goes, page-gone}
use Rattle.dp_link.proofs.SendLemmas.{sends-so-far, opened-later}
use Rattle.dp_link.proofs.down.send_page.Goals as goal

pub returns-in-Ok-Some-clause-sends : goal.returns-in-Ok-Some-clause-sends
returns-in-Ok-Some-clause-sends g c held h =
    let start = c.args.hall.now.start in
    let legal =
    seen-legal start c.ask_page.new.seat.view c.ask_page.ensures.of.start
    c.ask_page.ensures.sound in
    let grows =
    c.sessions_go_on.ensures.grows start c.args.seat.now.view.seen c.ask_page.new.seat.view.seen
    c.requires.start legal c.ask_page.ensures.seen.longer in
    let past = session_of start c.ask_page.new.seat.view in
    let conn = c.args.greeting.now.conn in
    let taken = g.S.Sink.held c.args.tx.now in
    let cursor = c.args.asked.now.cursor in
    let now =
    sent-later (session_of start c.args.seat.now.view) past conn held taken cursor
    c.feeds_go_on.ensures grows h in
    let page = rw c.in-Ok-Some.field-0-is at c.in-Ok-Some.ensures.page in
    page-goes c.write_page.result past conn held taken (g.S.Sink.held c.write_page.new.tx) cursor
    c.write_page.new.cursor c.in-Ok-Some.page c.ask_page.new.asked.frames
    (λ earlier last most epoch at list.
    c.pulls_go_on.ensures past conn earlier last most epoch at list)
    now
    (subst (λ n. PageAt past n cursor (Some c.in-Ok-Some.page) c.ask_page.new.asked.frames)
    c.requires.conn page)
    (λ list count frames. c.write_page.ensures.writes list count
    (c.as_slice.ensures ∙ frames))

pub returns-in-Ok-None-clause-sends : goal.returns-in-Ok-None-clause-sends
returns-in-Ok-None-clause-sends g c held h =
    let start = c.args.hall.now.start in
    let legal =
    seen-legal start c.ask_page.new.seat.view c.ask_page.ensures.of.start
    c.ask_page.ensures.sound in
    let grows =
    c.sessions_go_on.ensures.grows start c.args.seat.now.view.seen c.ask_page.new.seat.view.seen
    c.requires.start legal c.ask_page.ensures.seen.longer in
    let past = session_of start c.ask_page.new.seat.view in
    let conn = c.args.greeting.now.conn in
    let taken = g.S.Sink.held c.args.tx.now in
    let cursor = c.args.asked.now.cursor in
    let now =
    sent-later (session_of start c.args.seat.now.view) past conn held taken cursor
    c.feeds_go_on.ensures grows h in
    let page = rw c.in-Ok-None.field-0-is at c.in-Ok-None.ensures.page in
    let opened =
    opened-later c.args.seat.now.view.seen c.ask_page.new.seat.view.seen conn
    c.args.greeting.now.user c.args.greeting.now.epoch c.args.greeting.now.at
    c.ask_page.ensures.seen.longer c.requires.opened in
    page-gone past conn held taken cursor c.ask_page.new.asked.frames
    (λ most earlier last feed gone.
    c.feeds_end.ensures start c.ask_page.new.seat.view.seen conn c.args.greeting.now.user
    c.args.greeting.now.epoch c.args.greeting.now.at most earlier last c.requires.start
    legal opened feed gone)
    now
    (subst (λ n. PageAt past n cursor None c.ask_page.new.asked.frames) c.requires.conn page)

pub returns-in-Err-clause-sends : goal.returns-in-Err-clause-sends
returns-in-Err-clause-sends g c held h =
    let start = c.args.hall.now.start in
    let legal =
    seen-legal start c.ask_page.new.seat.view c.ask_page.ensures.of.start
    c.ask_page.ensures.sound in
    let grows =
    c.sessions_go_on.ensures.grows start c.args.seat.now.view.seen c.ask_page.new.seat.view.seen
    c.requires.start legal c.ask_page.ensures.seen.longer in
    let past = session_of start c.ask_page.new.seat.view in
    let conn = c.args.greeting.now.conn in
    let taken = g.S.Sink.held c.args.tx.now in
    let cursor = c.args.asked.now.cursor in
    let now =
    sent-later (session_of start c.args.seat.now.view) past conn held taken cursor
    c.feeds_go_on.ensures grows h in
    sends-so-far past conn held taken cursor now
