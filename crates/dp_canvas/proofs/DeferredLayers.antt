-- Layers on which fills wait, as the pixels of a layer.
use Rattle.std.proofs.Common.{◌≡◌, ℕ, ◌*◌, List, length, ap, sym, ◌∙◌, subst}
use Rattle.std.specs.Prelude.{All, pos}
use Rattle.dp_blend.specs.Color.{Channels, IsPixel, clear}
use Rattle.dp_blend.specs.Canvas.{canvas_of}
use Rattle.dp_blend.proofs.Canvas.{length-canvas_of}
use Rattle.dp_msg_draw.specs.declared.draw.Draw.{Draw}
use Rattle.dp_pixels.specs.Colors.{FitsColors}
use Rattle.dp_pixels.specs.Commands.{drawn, pixel_of, pixels_after}
use Rattle.dp_pixels.specs.Resizes.{pixels_resized}
use Rattle.dp_pixels.specs.declared.resize.Resize.{Resize}
use Rattle.dp_plain.proofs.Pixels.{PixelsStay, clear_canvas-All, pixels_after-All}
use Rattle.dp_plain.proofs.Pixels.{pixels_shifted-All}
use Rattle.dp_paint.specs.Layers.{LayerOf}

-- the layer belongs to a canvas of these sides
abbrev pub Fits : ℕ → ℕ → LayerOf → Type 0
Fits width height layer =
    (layer.width ≡ width) × (layer.height ≡ height)
    × (length layer.pixels ≡ width * height) × All IsPixel layer.pixels

-- what a call makes of it, on a canvas of these sides
abbrev pub Becomes : ℕ → ℕ → LayerOf → List Channels → Type 0
Becomes width height layer pixels = Fits width height layer × (layer.pixels ≡ pixels)

-- the layer of a canvas that nothing is painted on
pub clear_layer : (w h : ℕ) (layer : LayerOf)
    → layer ≡ record { width = w; height = h; pixels = canvas_of w h (λ x y. clear) }
    → Becomes w h layer (canvas_of w h (λ x y. clear))
clear_layer w h layer is =
    let pixels : layer.pixels ≡ canvas_of w h (λ x y. clear) =
    ap (λ (l : LayerOf). l.pixels) is in (
      (
        ap (λ (l : LayerOf). l.width) is,
        ap (λ (l : LayerOf). l.height) is,
        ap length pixels ∙ length-canvas_of w h (λ x y. clear),
        subst (All IsPixel) (sym pixels) (clear_canvas-All w h),
      ),
      pixels,
    )

-- a layer after a command
pub painted_layer : PixelsStay → (w h : ℕ) (op : Draw) → FitsColors op → (old new : LayerOf)
    → Fits w h old
    → new ≡ record old { pixels = pixels_after old.width old.height op old.pixels }
    → Becomes w h new (pixels_after w h op old.pixels)
painted_layer law w h op colors old new fits is =
    let pixels : new.pixels ≡ pixels_after w h op old.pixels =
    ap (λ (l : LayerOf). l.pixels) is
    ∙ ap (λ (n : ℕ). pixels_after n old.height op old.pixels) fits.0
    ∙ ap (λ (n : ℕ). pixels_after w n op old.pixels) fits.1 in (
      (
        ap (λ (l : LayerOf). l.width) is ∙ fits.0,
        ap (λ (l : LayerOf). l.height) is ∙ fits.1,
        ap length pixels
            ∙ length-canvas_of w h (λ x y. drawn w h op (pixel_of w h old.pixels) (pos x) (pos y)),
        subst (All IsPixel) (sym pixels) (pixels_after-All law w h op old.pixels colors fits.3),
      ),
      pixels,
    )

-- a layer on new sides
pub resized_layer : (r : Resize) (old new : LayerOf) → Fits r.width r.height old
    → new ≡ record {
      width = r.new_width;
      height = r.new_height;
      pixels = pixels_resized r old.pixels;
    }
    → Becomes r.new_width r.new_height new (pixels_resized r old.pixels)
resized_layer r old new fits is =
    let pixels : new.pixels ≡ pixels_resized r old.pixels = ap (λ (l : LayerOf). l.pixels) is in (
      (
        ap (λ (l : LayerOf). l.width) is,
        ap (λ (l : LayerOf). l.height) is,
        ap length pixels ∙ length-canvas_of r.new_width r.new_height _,
        subst (All IsPixel) (sym pixels)
            (pixels_shifted-All r.width r.height old.pixels r.new_width r.new_height r.left r.top
            fits.3),
      ),
      pixels,
    )
