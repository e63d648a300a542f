use Rattle.std.proofs.Common.{refl}
use Rattle.dp_link.proofs.Hearing.{so-far-starts}
use Rattle.dp_link.proofs.up.say_all.Goals as goal

pub messages-init : goal.messages-init
messages-init g c = record {
  of = c.requires.of;
  said =
      so-far-starts c.args.seat.now.view (g.R.Source.left c.args.rx.now) c.args.split.now
      c.reader_of-link.result c.args.speaker.now.conn
      (c.calls_add_up.ensures.none c.args.seat.now.view) c.reader_of-link.ensures.limit
      (c.reader_of-link.ensures.begun (g.R.Source.left c.args.rx.now));
  conn = refl;
  within = c.reader_of-link.ensures.within;
  limit = c.reader_of-link.ensures.limit;
  kept = refl;
}
