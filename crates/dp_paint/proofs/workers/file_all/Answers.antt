use Rattle.std.proofs.Common.{ap, arith, refl}
use Rattle.std.proofs.lemmas.List.Sums.{sum_by_more}
use Rattle.dp_pixels.specs.Feet.{reach}
use Rattle.dp_ops.specs.Lists.{Lists}
use Rattle.dp_paint.proofs.Layers.{no_lists}
use Rattle.dp_paint.proofs.Bands.{after_more, empty_counts, empty_waits}
use Rattle.dp_paint.proofs.workers.file_all.Goals as goal

pub loop-command-init : goal.loop-command-init
loop-command-init c =
    let on = c.args.on in
    let none = ap (λ (l : Lists). l.lists) c.requires.none in record {
      number = refl;
      first = ap (λ (l : Lists). l.first) c.requires.none;
      counts = empty_counts c.args.lists.now none;
      pixels = no_lists on.width on.height on.commands.now c.args.lists.now c.args.grid.now none;
      few = omega (arith, empty_waits c.args.lists.now none 4096);
    }

pub loop-command-preserved : goal.loop-command-preserved
loop-command-preserved c =
    let on = c.args.on in
    let inv = c.loop-command.invariant in
    let k = c.loop-command.command-index in
    let commands = on.commands.now in
    let filed = c.in_ok-file_command.ensures in record {
      number = omega (arith, inv.number);
      first = filed.first;
      counts = filed.counts;
      pixels = after_more on.width on.height commands k c.command-item.result _ _ _
          c.loop-command-test.true c.command-item.is inv.pixels filed.pixels;
      few = omega (
        arith,
        inv.few,
        filed.few,
        sum_by_more reach commands k c.command-item.result c.loop-command-test.true,
        ap reach c.command-item.is,
      );
    }
