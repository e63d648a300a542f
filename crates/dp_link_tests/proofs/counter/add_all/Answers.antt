use Rattle.std.proofs.Common.{[], refl}
use Rattle.dp_link_tests.proofs.counter.add_all.Goals as goal

pub bytes-init : goal.bytes-init
bytes-init g c = record {
  of = c.requires;
  count = refl;
  adds = record {
    acts = [];
    goes = c.calls_add_up.ensures.none c.args.seat.now.view;
    count_is = refl;
    memory_is = refl;
  };
}
