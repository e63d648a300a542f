use Rattle.std.proofs.Common.{arith, ap, ◌∙◌}
use Rattle.dp_hall.proofs.SeatLemmas.{joins, confirms}
use Rattle.dp_hall.proofs.ViewLemmas.{joined_views}
use Rattle.dp_hall.proofs.turn.join.Goals as goal

pub join_seat-requires : goal.join_seat-requires
join_seat-requires g c =
    let t = c.requires.table in let one = c.requires.idle.0 in let two = c.requires.idle.1 in (
      t.0.same,
      t.1.same,
      two.0,
      omega (arith, t.0.words),
      joins g.M.Machine.may_step
          c.args.table.now.key.value _ _ _ _ one.1 two.1 one.2 two.2,
    )

pub load-requires : goal.load-requires
load-requires g c =
    let t = c.requires.table.0 in let e = c.join_seat.ensures in (
      e.0 ∙ t.same,
      omega (arith, t.words),
      confirms g.M.Machine.may_step c.args.table.now.key.value
          _ _ _ (ap (λ m. m.0.live) e.2 ∙ c.requires.idle.0.1),
    )

pub returns-clause-views : goal.returns-clause-views
returns-clause-views g c =
    let e = c.load.ensures.2 in
    (joined_views g.M.Machine.may_step c.args.token.now.me.0 c.args.other.me.0 _ _
    c.requires.sound.0 (ap (λ m. m.0) c.join_seat.ensures.2) e.0 e.2).0

pub returns-clause-sound : goal.returns-clause-sound
returns-clause-sound g c =
    let e = c.load.ensures.2 in
    (joined_views g.M.Machine.may_step c.args.token.now.me.0 c.args.other.me.0 _ _
    c.requires.sound.0 (ap (λ m. m.0) c.join_seat.ensures.2) e.0 e.2).1
