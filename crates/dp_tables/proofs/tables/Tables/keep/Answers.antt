use Rattle.std.proofs.Common.{ap, arith, length}
use Rattle.dp_tables.proofs.tables.Tables.keep.Goals as goal

pub take-requires-clause-made : goal.take-requires-clause-made
take-requires-clause-made c =
    let is = c.requires.ready in
    record {
      does = is.effect;
      places = is.supply;
      long = omega (arith, ap length c.as_slice.ensures, ap (λ r. length r.bytes) is.row);
      room = is.room;
    }

pub returns-clause-reply : goal.returns-clause-reply
returns-clause-reply c = c.reply-reply.ensures c.args.ready.made.event c.requires.ready.effect
