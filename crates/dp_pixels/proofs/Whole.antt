-- The region that is a whole canvas.
use Rattle.std.proofs.Common.{◌≡◌, ℕ, ◌+◌, ◌*◌, ◌<◌, List, length, ◌∙◌, ap, subst, arith}
use Rattle.std.specs.Prelude.{ℤ, pos}
use Rattle.dp_blend.specs.Color.{Channels, clear}
use Rattle.dp_blend.specs.Canvas.{canvas_of, pixel_at}
use Rattle.dp_pixels.specs.declared.region.Region.{Region}
use Rattle.dp_pixels.specs.Regions.{IsPainted}

-- the region of all places of a canvas
abbrev pub whole_window : ℕ → ℕ → Region
whole_window width height =
    record {
      x = 0;
      y = 0;
      width = width;
      height = height;
      canvas_width = width;
      canvas_height =
          height;
    }

-- a list of a canvas's length that has a pixel of f at each place is the canvas of f
abbrev pub CanvasLaw : Type 0
CanvasLaw = (width height : ℕ) (f : ℕ → ℕ → Channels) (pixels : List Channels)
    → length pixels ≡ width * height
    → ((x y : ℕ) → x < width → y < height → pixel_at width pixels x y ≡ f x y)
    → pixels ≡ canvas_of width height f

-- the pixel at a place of a painted canvas
pub whole_at : (width height : ℕ) (region : Region) (change : ℤ → ℤ → Channels → Channels)
    (old new : List Channels) → region ≡ whole_window width height
    → IsPainted region width change old new → (x y : ℕ) → x < width → y < height
    → pixel_at width new x y ≡ change (pos x) (pos y) (pixel_at width old x y)
whole_at width height region change old new is painted x y in_x in_y =
    let all = subst (λ (w : Region). IsPainted w width change old new) is painted in
    let column : 0 + x ≡ x = omega arith in
    let row : 0 + y ≡ y = omega arith in
    all.inside x y clear in_x in_y
    ∙ (ap (λ (n : ℕ). change (pos n) (pos (0 + y)) (pixel_at width old x y)) column
    ∙ ap (λ (n : ℕ). change (pos x) (pos n) (pixel_at width old x y)) row)

-- a painted canvas, as a list
pub whole_painted : CanvasLaw → (width height : ℕ) (region : Region)
    (change : ℤ → ℤ → Channels → Channels) (old new : List Channels)
    → region ≡ whole_window width height
    → length old ≡ width * height → IsPainted region width change old new
    → new ≡ canvas_of width height (λ x y. change (pos x) (pos y) (pixel_at width old x y))
whole_painted law width height region change old new is len painted =
    law width height _ new (painted.len ∙ len) (whole_at width height region change old new is
    painted)
