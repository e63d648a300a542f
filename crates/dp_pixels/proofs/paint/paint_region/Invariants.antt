use Rattle.std.proofs.Common.{◌+◌, pos}
use Rattle.dp_pixels.specs.Regions.{IsPainted, on_canvas}
use Rattle.dp_pixels.proofs.Regions.{above}
use Rattle.dp_pixels.proofs.paint.paint_region.Given as goal

-- the rows above row j are painted
abbrev pub invariant-loop-j : goal.invariant-loop-j
invariant-loop-j g l =
    IsPainted l.region l.stride (above (pos (l.region.y + l.j))
    (on_canvas l.region (g.P.Paint.change l.paint))) l.initial.pixels l.pixels
