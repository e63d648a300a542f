-- Pixels stay pixels: on every board that a command with a spelling is drawn on.
use Rattle.std.proofs.Common.{◌≡◌, ℕ, ◌+◌, ◌*◌, ◌<◌, ◌≤◌, Bool, true, false, cond, ◌&&◌, List, []}
use Rattle.std.proofs.Common.{◌∷◌, ◌++◌, length, get_or, take, map, Option, None, Some, sym, subst}
use Rattle.std.proofs.Common.{⊎_elim, refl, ap, ◌∙◌, arith, ◌==◌, ◌^◌}
use Rattle.std.specs.Prelude.{ℤ, pos, negsuc, ◌+ℤ◌, ◌-ℤ◌, IsTrue, nat_lt, option_map, All}
use Rattle.std.specs.Option.{ForSome}
use Rattle.std.specs.List.{flat_map}
use Rattle.std.proofs.lemmas.Bool.{cond_both, cases_lt}
use Rattle.std.proofs.lemmas.Option.{none-some, same_Some}
use Rattle.std.proofs.lemmas.List.{get_or_past, take_at}
use Rattle.std.proofs.lemmas.List.Elements.{All-nil, All-append, All-map, All-weaker}
use Rattle.dp_blend.specs.Color.{Channels, IsPixel, clear}
use Rattle.dp_blend.specs.Canvas.{below, canvas_of, pixel_at}
use Rattle.dp_msg_draw.specs.declared.draw.Draw.{Draw}
use Rattle.dp_msg_draw.specs.declared.draw.Draw.TheVariants as draws
use Rattle.dp_msg_draw.specs.declared.lists.Dab.{Dab}
use Rattle.dp_msg_draw.specs.Payloads.{DrawHasSpelling, IsDab}
use Rattle.dp_layers.specs.Rows.{Row, map_content, map_contents}
use Rattle.dp_layers.specs.Changes.{makes_paint_row}
use Rattle.dp_pixels.specs.Rectangles.{is_in, canvas_rect}
use Rattle.dp_pixels.specs.Colors.{FitsColors}
use Rattle.dp_pixels.specs.Commands.{drawn, pixel_of, pixels_after}
use Rattle.dp_plain.specs.Board.{Board, HasPixels}
use Rattle.dp_pixels.specs.Resizes.{is_side, side, pixels_shifted}
use Rattle.dp_plain.specs.Commands.{with_sides, resized, new_content, arranged}
use Rattle.dp_plain.specs.Commands.{with_change, painted, draw}
use Rattle.dp_blend.proofs.Canvas.{length-canvas_of}
use Rattle.dp_plain.proofs.Holds.{fit_after}

-- ---- the pixels of a canvas

clear_is_pixel : IsPixel clear
clear_is_pixel = record { r = omega arith; g = omega arith; b = omega arith; a = omega arith }

-- a canvas of pixels
pub canvas_of-All : (w h : ℕ) (f : ℕ → ℕ → Channels) → ((x y : ℕ) → IsPixel (f x y))
    → All IsPixel (canvas_of w h f)
canvas_of-All w h f each = rows (below h)
  where
    rows : (ys : List ℕ) → All IsPixel (flat_map (λ y. map (λ x. f x y) (below w)) ys)
    rows [] = All-nil IsPixel
    rows (y ∷ ys) = All-append IsPixel (map (λ x. f x y) (below w))
        (flat_map (λ z. map (λ x. f x z) (below w)) ys)
        (All-map IsPixel (λ x. f x y) (below w) (λ k d in_list. each (get_or (below w) k d) y))
        (rows ys)

pub clear_canvas-All : (w h : ℕ) → All IsPixel (canvas_of w h (λ x y. clear))
clear_canvas-All w h = canvas_of-All w h (λ x y. clear) (λ x y. clear_is_pixel)

-- a place of a canvas of pixels, or past it
pub pixel_of-IsPixel : (w h : ℕ) (pixels : List Channels) → All IsPixel pixels → (x y : ℤ)
    → IsPixel (pixel_of w h pixels x y)
pixel_of-IsPixel w h pixels each (pos x) (pos y) =
    cond_both (nat_lt x w && nat_lt y h) (pixel_at w pixels x y) clear IsPixel
    (λ _. listed (y * w + x)) (λ _. clear_is_pixel)
  where
    listed : (k : ℕ) → IsPixel (get_or pixels k clear)
    listed k = ⊎_elim (λ (inside : k < length pixels). each k clear inside)
        (λ (past : length pixels ≤ k).
        subst IsPixel (sym (get_or_past pixels k clear past)) clear_is_pixel)
        (cases_lt k (length pixels))
pixel_of-IsPixel w h pixels each (pos x) (negsuc y) = clear_is_pixel
pixel_of-IsPixel w h pixels each (negsuc x) y = clear_is_pixel

-- on a canvas of other sides
pub pixels_shifted-All : (w h : ℕ) (pixels : List Channels) (new_w new_h : ℕ) (left top : ℤ)
    → All IsPixel pixels → All IsPixel (pixels_shifted w h pixels new_w new_h left top)
pixels_shifted-All w h pixels new_w new_h left top each =
    canvas_of-All new_w new_h (λ x y. pixel_of w h pixels (pos x -ℤ left) (pos y -ℤ top))
    (λ x y. pixel_of-IsPixel w h pixels each (pos x -ℤ left) (pos y -ℤ top))

-- ---- what a command makes of pixels

-- the law of the pixel commands
abbrev pub PixelsStay : Type 0
PixelsStay = (width height : ℕ) (op : Draw) (old : ℤ → ℤ → Channels) (x y : ℤ) → FitsColors op
    → IsPixel (old x y)
    → ((v w : ℤ) → IsTrue (is_in (canvas_rect width height) v w) → IsPixel (old v w))
    → IsPixel (drawn width height op old x y)

pub pixels_after-All : PixelsStay → (w h : ℕ) (op : Draw) (pixels : List Channels) → FitsColors op
    → All IsPixel pixels → All IsPixel (pixels_after w h op pixels)
pixels_after-All law w h op pixels fits each =
    let old = pixel_of-IsPixel w h pixels each in
    canvas_of-All w h (λ x y. drawn w h op (pixel_of w h pixels) (pos x) (pos y))
    (λ x y. law w h op (pixel_of w h pixels) (pos x) (pos y) fits (old (pos x) (pos y))
    (λ v u _. old v u))

-- the colours of a command that has a spelling fit
colors_fit : (op : Draw) → DrawHasSpelling op → FitsColors op
colors_fit (draws.FillRect layer mode x y w h color) spelled = spelled.6
colors_fit (draws.PutImage layer mode x y w h colors) spelled = spelled.6.0
colors_fit (draws.DabsRound layer x y r g b mode dabs) spelled = record {
  red = spelled.3;
  green = spelled.4;
  blue = spelled.5;
  opacity = All-weaker IsDab (λ (dab : Dab). dab.opacity < 2 ^ 8) (λ dab is. is.4) dabs spelled.7.0;
}
colors_fit (draws.DabsSquare layer x y r g b mode dabs) spelled = record {
  red = spelled.3;
  green = spelled.4;
  blue = spelled.5;
  opacity = All-weaker IsDab (λ (dab : Dab). dab.opacity < 2 ^ 8) (λ dab is. is.4) dabs spelled.7.0;
}
colors_fit _ spelled = tt

-- ---- what a command makes of a board that has pixels

some_changed : {X Y : Type 0} (P : X → Type 0) (Q : Y → Type 0) (f : X → Y)
    → ((x : X) → P x → Q (f x)) → (o : Option X) → ForSome o P → ForSome (option_map f o) Q
some_changed P Q f keeps None each = λ y is. absurd (none-some y is)
some_changed P Q f keeps (Some x) each = λ y is.
    subst Q (same_Some (f x) y is) (keeps x (each x refl))

-- contents that are pixels, seen through f
pub contents-All : {C : Type 0} (fits : C → Type 0) (f : C → List Channels) (rows : List (Row C))
    → ((content : C) → fits content → All IsPixel (f content))
    → All (λ row. ForSome row.content fits) rows
    → All (λ row. ForSome row.content (All IsPixel)) (map_contents f rows)
contents-All fits f rows law each =
    All-map (λ (row : Row (List Channels)). ForSome row.content (All IsPixel)) (map_content f) rows
    (λ k d in_list. some_changed fits (All IsPixel) f law (get_or rows k d).content
    (each k d in_list))

module _ (law : PixelsStay) (board : Board) (has : HasPixels board) where
  painted-HasPixels : (op : Draw) (id : ℕ) → FitsColors op → HasPixels (painted board op id)
  painted-HasPixels op id fits =
      let change = pixels_after board.width board.height op in
      let Has : Row (List Channels) → Type 0 = λ row. ForSome row.content (All IsPixel) in
      All-map Has (with_change id change) board.rows (λ k d in_list.
      let row = get_or board.rows k d in
      cond_both (row.layer.id == id) (record row { content = option_map change row.content }) row
      Has
      (λ _. some_changed (All IsPixel) (All IsPixel) change
      (λ pixels each. pixels_after-All law board.width board.height op pixels fits each) row.content
      (has k d in_list))
      (λ _. has k d in_list))

  resized-HasPixels : (top right bottom left : ℤ)
      → HasPixels (resized board top right bottom left)
  resized-HasPixels top right bottom left =
      let w : ℤ = pos board.width +ℤ left +ℤ right in
      let h : ℤ = pos board.height +ℤ top +ℤ bottom in
      let change : List Channels
      → List Channels = λ pixels. pixels_shifted board.width board.height pixels (side w)
      (side h) left top in
      cond_both (is_side w && is_side h) (with_sides board (side w) (side h) change) board HasPixels
      (λ _. contents-All (All IsPixel) change board.rows
      (λ pixels each. pixels_shifted-All board.width board.height pixels (side w) (side h) left top
      each) has)
      (λ _. has)

  arranged-HasPixels : (op : Draw) → HasPixels (arranged board op)
  arranged-HasPixels op =
      let pixels : List Channels = canvas_of board.width board.height (λ x y. clear) in
      fit_after (All IsPixel) board.rows op (new_content board op) has
      (new (makes_paint_row op) pixels (clear_canvas-All board.width board.height))
    where
      new : (b : Bool) (pixels : List Channels) → All IsPixel pixels
          → ForSome (cond b (Some pixels) None) (All IsPixel)
      new true pixels each = λ ps is. subst (All IsPixel) (same_Some pixels ps is) each
      new false pixels each = λ ps is. absurd (none-some ps is)

  pub drawn-HasPixels : (op : Draw) → DrawHasSpelling op → HasPixels (draw board op)
  drawn-HasPixels (draws.CanvasResize top right bottom left) spelled =
      resized-HasPixels top right bottom left
  drawn-HasPixels (draws.Background color) spelled = has
  drawn-HasPixels (draws.PutImage layer mode x y w h colors) spelled =
      let op = draws.PutImage layer mode x y w h colors in
      painted-HasPixels op layer (colors_fit op spelled)
  drawn-HasPixels (draws.FillRect layer mode x y w h color) spelled =
      let op = draws.FillRect layer mode x y w h color in
      painted-HasPixels op layer (colors_fit op spelled)
  drawn-HasPixels (draws.PutTile layer col row repeat content) spelled =
      painted-HasPixels (draws.PutTile layer col row repeat content) layer tt
  drawn-HasPixels (draws.DabsRound layer x y r g b mode dabs) spelled =
      let op = draws.DabsRound layer x y r g b mode dabs in
      painted-HasPixels op layer (colors_fit op spelled)
  drawn-HasPixels (draws.DabsSquare layer x y r g b mode dabs) spelled =
      let op = draws.DabsSquare layer x y r g b mode dabs in
      painted-HasPixels op layer (colors_fit op spelled)
  drawn-HasPixels (draws.MoveRect layer sx sy w h tx ty) spelled =
      painted-HasPixels (draws.MoveRect layer sx sy w h tx ty) layer tt
  drawn-HasPixels (draws.LayerCreate id parent group title) spelled =
      arranged-HasPixels (draws.LayerCreate id parent group title)
  drawn-HasPixels (draws.LayerAttr id opacity mode hidden) spelled =
      arranged-HasPixels (draws.LayerAttr id opacity mode hidden)
  drawn-HasPixels (draws.LayerTitle id title) spelled =
      arranged-HasPixels (draws.LayerTitle id title)
  drawn-HasPixels (draws.LayerMove id parent above) spelled =
      arranged-HasPixels (draws.LayerMove id parent above)
  drawn-HasPixels (draws.LayerDelete id) spelled = arranged-HasPixels (draws.LayerDelete id)

-- what a plain list of pixels keeps to after a command, written back into a vector
pub painted_fits : PixelsStay → (w h : ℕ) (op : Draw) (pixels new rest : List Channels) (n : ℕ)
    → n ≡ length new → FitsColors op → All IsPixel pixels → new ≡ pixels_after w h op pixels
    → (length (take n (new ++ rest)) ≡ w * h) × All IsPixel (take n (new ++ rest))
painted_fits law w h op pixels new rest n long fits each is =
    let back : take n (new ++ rest) ≡ new = take_at new rest n (sym long) in
    let all : take n (new ++ rest) ≡ pixels_after w h op pixels = back ∙ is in (
      ap length all ∙ length-canvas_of w h _,
      subst (All IsPixel) (sym all) (pixels_after-All law w h op pixels fits each),
    )
