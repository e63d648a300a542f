use Rattle.std.proofs.Common.{◌≡◌, ℕ, ◌+◌, ◌-◌, ◌<◌, ◌≤◌, length, map, take, drop, max, get_or}
use Rattle.std.specs.List.{sum_by}
use Rattle.dp_savepoints.specs.Kept.{marked, commands_among}
use Rattle.dp_savepoints.specs.Saves.{points_of}
use Rattle.dp_savepoints.specs.Runs.{IsRunning, save_anew}
use Rattle.dp_savepoints.proofs.run.Run.saves.Given as goal

-- the savepoints so far, and what is left to draw
abbrev pub invariant-loop-save : goal.invariant-loop-save
invariant-loop-save g l = record {
  start : l.self.start ≡ l.fn.self.start;
  begun : l.self.start ≤ l.self.at;
  inside : l.self.at - l.self.start ≤ length l.kept;
  next : (j d : ℕ) → l.save-index ≤ j → j < length l.old
      → l.self.at ≤ max l.fn.self.start (get_or (points_of l.old) j d);
  run : (from : g.row.B.Denot)
      → IsRunning g.B.Board.drawn (map (marked l.mark) l.kept) from l.fn.self
      → IsRunning g.B.Board.drawn (map (marked l.mark) l.kept) from l.self;
  saves : (from : g.row.B.Denot)
      → IsRunning g.B.Board.drawn (map (marked l.mark) l.kept) from l.fn.self
      → l.saves.items ≡ map (save_anew g.B.Board.drawn (map (marked l.mark) l.kept)
      l.fn.self.start from) (take l.save-index l.old);
  draws_rise : l.fn.draws ≤ l.draws;
  few_draws : l.draws + length (commands_among (drop (l.self.at - l.self.start) l.kept))
      ≤ l.fn.draws + length (commands_among l.kept);
  tiles_rise : l.fn.tiles ≤ l.tiles;
  few_tiles : l.tiles + sum_by g.B.Board.weight
      (commands_among (drop (l.self.at - l.self.start) l.kept))
      ≤ l.fn.tiles + sum_by g.B.Board.weight (commands_among l.kept);
}
