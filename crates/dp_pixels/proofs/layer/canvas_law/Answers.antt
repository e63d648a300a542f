use Rattle.std.proofs.Common.{◌∙◌, sym}
use Rattle.dp_blend.specs.Canvas.{canvas_of}
use Rattle.dp_pixels.proofs.layer.canvas_law.Goals as goal

pub returns : goal.returns
returns c = λ width height f pixels len same.
    c.equal_pixels_at_each_place.ensures width height pixels (canvas_of width height f) len
    (c.length_of_canvas.ensures width height f)
    (λ x y in_x in_y. same x y in_x in_y ∙ sym (c.pixel_of_canvas.ensures width height f x y in_x
    in_y))
