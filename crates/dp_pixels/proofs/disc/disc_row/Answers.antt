use Rattle.dp_pixels.proofs.Discs.{disc_cells}
use Rattle.dp_pixels.proofs.disc.disc_row.Goals as goal

pub returns-clause-cells : goal.returns-clause-cells
returns-clause-cells c = λ i in_size.
    let ends = disc_cells c.args.size i c.args.j c.abs_diff-down.result c.root-across.result
    in_size c.requires c.abs_diff-down.ensures
    c.root-across.ensures.square_le c.root-across.ensures.next_square_gt in (
      λ inside. let both = ends.0 inside in record { start = both.0; end = both.1 },
      λ span. ends.1
          (span.start, span.end),
    )
