use Rattle.std.proofs.Common.{◌≡◌, ◌≤◌, ◌+◌, ◌∷◌, ◌∙◌, length, subst, sym, ap, refl}
use Rattle.std.proofs.Common.{arith}
use Rattle.std.specs.Prelude.{All}
use Rattle.std.proofs.lemmas.Result.{MatchResult-weaker}
use Rattle.std.proofs.lemmas.List.Elements.{All-head, All-tail}
use Rattle.dp_tile.specs.Areas.{cells_painted, part}
use Rattle.dp_tile.proofs.Became.{either_way, cells_became, part_became, rows_became}
use Rattle.dp_tile.proofs.area.+painting.Goals as goal

pub paint_rows-paint_row-requires : goal.paint_rows-paint_row-requires
paint_rows-paint_row-requires g t c κs within =
    let first = c.in-Some.first.now in
    let below = c.in-Some.below.now in
    let cases : c.args.rows.now ≡ first ∷ below = c.in-Some.ensures.cases.0 in
    let long : length below + 1 ≡ length c.args.rows.now =
    c.in-Some.ensures.cases.1 in
    let wide = subst (All (λ row. c.args.work.now.right ≤ length row)) cases c.requires.wide in (
      omega (arith, long, c.decreases),
      (
        within.0,
        (
          within.1,
          (
            omega (arith, long, c.requires.rows),
            (
              All-head (λ row. c.args.work.now.right ≤ length row) first below wide,
              All-tail (λ row. c.args.work.now.right ≤ length row) first below wide,
            ),
          ),
        ),
      ),
    )

pub paint_cells-returns-in-Some-clause-slots : goal.paint_cells-returns-in-Some-clause-slots
paint_cells-returns-in-Some-clause-slots g t c =
    let first = c.in-Some.first.now in
    let others = c.in-Some.others.now in
    let cases : c.args.slots.now ≡ first ∷ others = c.in-Some.ensures.cases.0 in
    cells_became c.paint_first.result (g.P.TilePainter.painted c.args.work.now.painter.now)
    c.args.cell.col c.args.cell.row c.args.slots.now first c.paint_first.new.first others
    c.paint_first.new.others cases c.paint_first.ensures.first c.paint_first.ensures.others

pub paint_rows-returns-in-Some-clause-rows : goal.paint_rows-returns-in-Some-clause-rows
paint_rows-returns-in-Some-clause-rows g t c =
    let first = c.in-Some.first.now in
    let below = c.in-Some.below.now in
    let cases : c.args.rows.now ≡ first ∷ below = c.in-Some.ensures.cases.0 in
    rows_became c.paint_row.result (g.P.TilePainter.painted c.args.work.now.painter.now)
    c.args.work.now.left c.args.work.now.right c.args.row c.args.rows.now first
    c.paint_row.new.first below c.paint_row.new.below cases c.paint_row.ensures.first
    c.paint_row.ensures.below

pub paint_row-returns-in-Some-clause-first : goal.paint_row-returns-in-Some-clause-first
paint_row-returns-in-Some-clause-first g t c =
    MatchResult-weaker c.replace_row.result c.replace_row.ensures.first
    (λ _ is. is ∙ sym c.in-Some.ensures.painted) (λ _ stays. stays)

pub paint_first-returns-in-Stays-clause-first : goal.paint_first-returns-in-Stays-clause-first
paint_first-returns-in-Stays-clause-first g t c =
    either_way c.paint_cells.result
    (sym (c.in-Stays.ensures c.args.first.now c.known.ensures c.color.ensures)) refl

pub paint_first-returns-in_ok-slot-in-Becomes-clause-first
    : goal.paint_first-returns-in_ok-slot-in-Becomes-clause-first
paint_first-returns-in_ok-slot-in-Becomes-clause-first g t c =
    MatchResult-weaker c.paint_cells-done.result c.put_if_ok.ensures
    (λ _ put. put ∙ c.in_ok-slot-in-Becomes.ensures.plain
    ∙ sym (c.in-Becomes.ensures c.args.first.now c.known.ensures c.color.ensures))
    (λ _ stays. stays)

pub replace_row-returns-clause-first : goal.replace_row-returns-clause-first
replace_row-returns-clause-first g t c =
    MatchResult-weaker c.paint_rows-done.result c.put_if_ok.ensures
    (λ _ put. put ∙ c.in_ok-plain.ensures.plain) (λ _ stays. stays)

pub paint_first-returns-in_ok-slot-in-Unknown-2-clause-first
    : goal.paint_first-returns-in_ok-slot-in-Unknown-2-clause-first
paint_first-returns-in_ok-slot-in-Unknown-2-clause-first g t c =
    let painted = g.P.TilePainter.painted c.args.work.now.painter.now in
    MatchResult-weaker c.paint_cells-done-in-Unknown-2.result c.put_if_ok-in-Unknown-2.ensures
    (λ _ put. put ∙ c.in_ok-slot-in-Unknown-2.ensures.painted
    ∙ ap (painted c.args.cell.col c.args.cell.row) c.is_sole.ensures)
    (λ _ stays. stays ∙ c.is_sole.ensures)

pub paint_columns-returns-clause-slots : goal.paint_columns-returns-clause-slots
paint_columns-returns-clause-slots g t c =
    part_became c.paint_cells.result c.args.work.now.left c.args.work.now.right c.args.slots.now
    c.paint_cells.new.slots
    (cells_painted (g.P.TilePainter.painted c.args.work.now.painter.now) c.args.work.now.left
    c.args.row (part c.args.work.now.left c.args.work.now.right c.args.slots.now))
    c.paint_cells.ensures.slots
