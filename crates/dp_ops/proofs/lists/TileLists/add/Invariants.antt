use Rattle.std.proofs.Common.{◌≡◌, length}
use Rattle.dp_ops.specs.Lists.{AddsMore, HaveSame, IsChangedOn, StayOutside}
use Rattle.dp_ops.proofs.Waits.{rows_to}
use Rattle.dp_ops.proofs.lists.TileLists.add.Given as goal

-- it was added in the rows before this one
abbrev pub invariant-loop-row : goal.invariant-loop-row
invariant-loop-row g l =
    record {
      first : l.self.first ≡ l.fn.self.first;
      len : length l.self.lists ≡ length l.fn.self.lists;
      same : HaveSame l.fn.self l.self;
      others : StayOutside (l.area) l.fn.self l.self;
      added : IsChangedOn (rows_to l.area l.row) (AddsMore (g.S.TileSource.among l.source)
          (g.S.TileSource.change l.source))
          l.fn.self l.self;
    }
