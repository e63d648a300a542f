-- All pixels of a layer after a command.
use Rattle.std.proofs.Common.{◌≡◌, ℕ, ◌<◌, List, refl, sym, ◌∙◌, ap, Result, Ok, Err}
use Rattle.std.specs.Prelude.{ℤ, pos, OnOk}
use Rattle.std.proofs.lemmas.Bool.{cond-true}
use Rattle.dp_blend.specs.Color.{Channels}
use Rattle.dp_blend.specs.Canvas.{canvas_of, pixel_at}
use Rattle.dp_msg_draw.specs.declared.draw.Draw.{Draw}
use Rattle.dp_msg_draw.specs.declared.draw.Draw.TheVariants as op
use Rattle.dp_pixels.specs.Rectangles.{canvas_rect, is_in}
use Rattle.dp_pixels.specs.Commands.{drawn, moved, pixel_drawn, pixel_of, pixels_after}
use Rattle.dp_pixels.specs.Commands.{pixels_drawn, pixels_moved}
use Rattle.dp_pixels.proofs.Moves.{old_pixel, on_whole}

-- what holds with a value goes on to what follows from it
pub OnOk-map : {T E : Type 0} (r : Result T E) (P Q : Type 0) → (P → Q) → OnOk r P → OnOk r Q
OnOk-map (Ok x) P Q f p = f p
OnOk-map (Err e) P Q f p = p

-- the command is no MoveRect
abbrev pub IsNoMove : Draw → Type 0
IsNoMove d = (layer sx sy w h : ℕ) (tx ty : ℤ) → d ≡ op.MoveRect layer sx sy w h tx ty → ⊥

-- a command other than MoveRect goes by the old pixel at the place alone
pub drawn_other : (width height : ℕ) (d : Draw) (old : ℤ → ℤ → Channels) (x y : ℤ) → IsNoMove d
    → drawn width height d old x y ≡ pixel_drawn width height d x y (old x y)
drawn_other width height (op.MoveRect layer sx sy w h tx ty) old x y other = absurd
    (other layer sx sy w h tx ty refl)
drawn_other width height _ old x y other = refl

-- canvases that are made with the same pixel at each place are equal
abbrev pub SameLaw : Type 0
SameLaw = (width height : ℕ) (f g : ℕ → ℕ → Channels) → ((x y : ℕ) → x < width → y < height
    → f x y ≡ g x y) → canvas_of width height f ≡ canvas_of width height g

pub after_other : SameLaw → (width height : ℕ) (d : Draw) (pixels : List Channels) → IsNoMove d
    → pixels_drawn width height d pixels ≡ pixels_after width height d pixels
after_other law width height d pixels other =
    law width height (λ x y. pixel_drawn width height d (pos x) (pos y) (pixel_at width pixels x y))
    (λ x y. drawn width height d (pixel_of width height pixels) (pos x) (pos y))
    (λ x y in_x in_y.
    ap (pixel_drawn width height d (pos x) (pos y)) (sym
    (old_pixel width height x y pixels in_x in_y))
    ∙ sym (drawn_other width height d (pixel_of width height pixels) (pos x) (pos y) other))

pub after_move : SameLaw → (width height layer sx sy w h : ℕ) (tx ty : ℤ) (pixels : List Channels)
    → pixels_moved width height sx sy w h tx ty pixels ≡ pixels_after width height
    (op.MoveRect layer sx sy w h tx ty) pixels
after_move law width height layer sx sy w h tx ty pixels =
    let old = pixel_of width height pixels in
    law width height (λ x y. moved width height sx sy w h tx ty old (pos x) (pos y))
    (λ x y. drawn width height (op.MoveRect layer sx sy w h tx ty) old (pos x) (pos y))
    (λ x y in_x in_y.
    sym (cond-true (is_in (canvas_rect width height) (pos x) (pos y))
    (moved width height sx sy w h tx ty old (pos x) (pos y)) (old (pos x) (pos y))
    (on_whole width height x y in_x in_y)))
