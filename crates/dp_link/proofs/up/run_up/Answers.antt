use Rattle.dp_link.proofs.Hearing.{says-all}
use Rattle.dp_link.proofs.up.run_up.Goals as goal

pub returns-clause-says : goal.returns-clause-says
returns-clause-says g c =
    says-all c.args.seat.now.view c.say_all-end.new.seat.view c.act_once-close.new.seat.view
    (g.R.Source.left c.args.rx.now) (g.R.Source.left c.say_all-end.new.rx) c.args.split.now
    c.args.conn c.say_all-end.result c.act_once-close.result
    (c.calls_add_up.ensures.both c.args.seat.now.view c.say_all-end.new.seat.view
    c.act_once-close.new.seat.view)
    c.say_all-end.ensures.says c.act_once-close.ensures.acts
