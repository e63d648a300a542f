use Rattle.std.proofs.Common.{◌∷◌, arith, ap, sym, ◌∙◌, Some}
use Rattle.atomic_table.specs.Table.{rest}
use Rattle.dp_hall.proofs.StepLemmas.{takes_turn}
use Rattle.dp_hall.proofs.turn.take.Goals as goal

pub compare_exchange-requires : goal.compare_exchange-requires
compare_exchange-requires g c =
    let t = c.requires.table in let idle = c.requires.idle in let i = c.loop.invariant in (
      i.0 ∙ t.same,
      omega (arith, t.words),
      takes_turn g.M.Machine.may_step c.args.table.now.key.value _ _ _ (i.2 ∙ idle.0)
          (ap (λ v. v.live) i.1 ∙ idle.1) (ap (λ v. v.holds) i.1 ∙ idle.2),
    )

pub exchange-requires : goal.exchange-requires
exchange-requires g c =
    let e = c.compare_exchange.ensures in let t = e.2.0 c.if-compare_exchange-eq0.true in (
      e.0 ∙ (c.loop.invariant.0 ∙ c.requires.table.same),
      (Some t.0, t.1 ∙ ap (λ cs. (0, Some t.0) ∷ rest cs) (sym t.1)),
    )
