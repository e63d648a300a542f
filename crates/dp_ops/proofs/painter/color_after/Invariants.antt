use Rattle.std.proofs.Common.{◌≡◌, ℕ, ◌<◌, take}
use Rattle.dp_ops.specs.Ops.{OnTile, ops_at}
use Rattle.dp_ops.proofs.painter.color_after.Given as goal

-- the operations before the index make the tile of this colour
abbrev pub invariant-loop-op : goal.invariant-loop-op
invariant-loop-op l =
    record {
      done : l.done ≡ l.op-index;
      color : (t : OnTile) (x y : ℕ) → x < 64 → y < 64
          → ops_at t (take l.op-index l.ops) x y l.initial.color ≡ l.color;
    }
