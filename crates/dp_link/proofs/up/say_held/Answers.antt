use Rattle.dp_link.proofs.Turns.{says-heard, hears-by, held-faults, held-goes-on}
use Rattle.dp_link.proofs.up.say_held.Goals as goal

pub returns-clause-says : goal.returns-clause-says
returns-clause-says g c = λ v left unread start p.
    rw c.end_by.ensures
    (says-heard v c.args.seat.now.view c.say-stop.new.seat.view left unread start c.args.link.now
    c.hear-heard.new.link c.args.speaker.now.conn p
    (c.calls_add_up.ensures.both v c.args.seat.now.view c.say-stop.new.seat.view)
    c.say-stop.result c.hear-heard.result c.hear-heard.new.says.items c.hear-heard.ensures.limit
    (hears-by c.hear-heard.result left unread start p.entries c.args.speaker.now.conn
    c.hear-heard.new.says.items c.args.link.now c.hear-heard.new.link p.given
    c.hear-heard.ensures.more c.hear-heard.ensures.ended) c.say-stop.ensures.acts)

pub returns-clause-fault : goal.returns-clause-fault
returns-clause-fault g c = rw c.end_by.ensures
    (held-faults c.say-stop.result c.hear-heard.result c.hear-heard.ensures.ends)

pub returns-clause-not_end : goal.returns-clause-not_end
returns-clause-not_end g c = rw c.end_by.ensures
    (held-goes-on c.say-stop.result c.hear-heard.result c.hear-heard.ensures.ends)
