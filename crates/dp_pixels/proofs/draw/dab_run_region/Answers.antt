use Rattle.std.proofs.Common.{ℤ, List, Option, ◌∙◌, sym, subst, arith}
use Rattle.std.specs.Option.{option_map_or}
use Rattle.std.proofs.lemmas.List.{take_all}
use Rattle.dp_blend.specs.Color.{Channels}
use Rattle.dp_blend.specs.declared.modes.Mode.{Mode}
use Rattle.dp_pixels.specs.declared.dabs.PlacedDab.{PlacedDab}
use Rattle.dp_pixels.specs.Dabs.{placed_dabs}
use Rattle.dp_pixels.specs.Commands.{dabs_blended}
use Rattle.dp_pixels.specs.Regions.{IsPainted, on_canvas}
use Rattle.dp_pixels.proofs.Strokes.{next_is, dabs_more, length-placed_dabs}
use Rattle.dp_pixels.proofs.draw.dab_run_region.Goals as goal

pub loop-dab-preserved : goal.loop-dab-preserved
loop-dab-preserved c =
    let s = c.args.run in
    let made = c.placed_after-placed.ensures in
    let next = next_is s.at.x s.at.y s.dabs.now c.loop-dab.dab-index c.loop-dab.last
    c.placed_after-placed.result c.loop-dab-test.true made.value made.near_x made.near_y
    c.loop-dab.invariant.last in
    record {
      last = next.last;
      drawn = dabs_more c.args.region.now c.args.stride s.shape c.in-Some.mode c.args.color
          (placed_dabs s.at.x s.at.y s.dabs.now) c.loop-dab.dab-index c.placed_after-placed.result
          c.args.pixels.now c.loop-dab.pixels c.draw_dab.new.pixels next.within next.is
          c.loop-dab.invariant.drawn c.draw_dab.ensures;
    }

pub returns : goal.returns
returns c =
    let s = c.args.run in
    let w = c.args.region.now in
    let dabs = placed_dabs s.at.x s.at.y s.dabs.now in
    let mode_is = c.from_u8.ensures.value in
    let some = c.in-Some.is in
    let drawn = subst (λ (l : List PlacedDab). IsPainted w c.args.stride
    (on_canvas w (dabs_blended s.shape c.in-Some.mode c.args.color l)) c.args.pixels.now
    c.loop-dab.pixels)
    (take_all c.loop-dab.dab-index dabs (omega (
      arith,
      c.loop-dab-test.false,
      length-placed_dabs
          s.at.x s.at.y s.dabs.now,
    ))) c.loop-dab.invariant.drawn in
    subst (λ (o : Option Mode). IsPainted w c.args.stride
    (on_canvas w (λ (x y : ℤ) (p : Channels). option_map_or
    (λ m. dabs_blended s.shape m c.args.color dabs x y p) o p)) c.args.pixels.now
    c.loop-dab.pixels)
    (sym some ∙ mode_is) drawn
