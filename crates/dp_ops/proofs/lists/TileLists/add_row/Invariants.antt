use Rattle.std.proofs.Common.{◌≡◌, length}
use Rattle.dp_ops.specs.Lists.{AddsMore, HaveSame, IsChangedOn, StayOutside, row_to}
use Rattle.dp_ops.proofs.lists.TileLists.add_row.Given as goal

-- it was added on the tiles before the column
abbrev pub invariant-loop-col : goal.invariant-loop-col
invariant-loop-col g l =
    record {
      first : l.self.first ≡ l.initial.self.first;
      len : length l.self.lists ≡ length l.initial.self.lists;
      same : HaveSame l.initial.self l.self;
      others : StayOutside (row_to l.row l.left l.right) l.initial.self l.self;
      added : IsChangedOn (row_to l.row l.left l.col) (AddsMore (g.S.TileSource.among l.source)
          (g.S.TileSource.change l.source))
          l.initial.self l.self;
    }
