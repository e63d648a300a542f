use Rattle.std.proofs.Common.{arith, ap, ◌∙◌}
use Rattle.dp_hall.proofs.SeatLemmas.{splits, confirms}
use Rattle.dp_hall.proofs.ViewLemmas.{split_views}
use Rattle.dp_hall.proofs.turn.split.Goals as goal

pub split_seat-other-requires : goal.split_seat-other-requires
split_seat-other-requires g c =
    let t = c.requires.table in (
      t.same,
      omega (arith, t.words),
      splits g.M.Machine.may_step c.args.table.now.key.value _ _
          c.requires.idle.1,
    )

pub load-requires : goal.load-requires
load-requires g c =
    let t = c.requires.table in let e = c.split_seat-other.ensures in (
      e.3 ∙ t.same,
      omega (arith, t.words),
      confirms g.M.Machine.may_step c.args.table.now.key.value
          _ _ _ (ap (λ m. m.0.live) e.4),
    )

pub returns-clause-views : goal.returns-clause-views
returns-clause-views g c =
    let s = c.split_seat-other.ensures in let e = c.load.ensures.2 in
    (split_views g.M.Machine.may_step _ _ _ _ c.requires.sound (ap (λ m. m.0) s.2)
    (ap (λ m. m.0) s.4) e.0 e.2).0

pub returns-clause-sound : goal.returns-clause-sound
returns-clause-sound g c =
    let s = c.split_seat-other.ensures in let e = c.load.ensures.2 in
    let t = split_views g.M.Machine.may_step _ _ _ _ c.requires.sound (ap (λ m. m.0) s.2)
    (ap (λ m. m.0) s.4) e.0 e.2 in
    (t.1, t.2)
