use Rattle.std.proofs.Common.{◌∷◌, ap, sym, ◌∙◌, Some}
use Rattle.atomic_table.specs.Table.{rest}
use Rattle.dp_hall.proofs.turn.take_out.Goals as goal

pub exchange-requires : goal.exchange-requires
exchange-requires g c =
    let h = c.requires.hand in (
      c.requires.table.same,
      (Some h.0, h.1 ∙ ap (λ cs. (0, Some h.0) ∷ rest cs) (sym h.1)),
    )
