-- Two messages that compare as equal, field by field, are equal, and no others do.
use Rattle.std.proofs.Common.{◌≡◌, List, refl, arith}
use Rattle.std.specs.Bool.{Decides}
use Rattle.std.specs.Cmp.Lexicographic.{pointwise}
use Rattle.std.proofs.lemmas.Bool.{false≢true}
use Rattle.std.proofs.lemmas.Bool.Decides.{Decides-int_eq}
use Rattle.std.proofs.lemmas.Slice.Eq.{slice_eq-Decides, bytes_eq-Decides}
use Rattle.dp_msg_draw.specs.declared.lists.Dab.{Dab}
use Rattle.dp_msg_draw.specs.declared.lists.TilePixel.{TilePixel}
use Rattle.dp_msg_draw.specs.declared.draw.TileContent.{TileContent}
use Rattle.dp_msg_draw.specs.declared.draw.TileContent.TheVariants.{Solid, Pixels}
use Rattle.dp_msg_draw.specs.declared.draw.Draw.{Draw}
use Rattle.dp_msg_draw.specs.declared.draw.Draw.TheVariants.{CanvasResize, LayerCreate, LayerAttr}
use Rattle.dp_msg_draw.specs.declared.draw.Draw.TheVariants.{LayerTitle, LayerMove, LayerDelete}
use Rattle.dp_msg_draw.specs.declared.draw.Draw.TheVariants.{PutImage, FillRect, PutTile}
use Rattle.dp_msg_draw.specs.declared.draw.Draw.TheVariants.{Background, DabsRound, DabsSquare}
use Rattle.dp_msg_draw.specs.declared.draw.Draw.TheVariants.{MoveRect}
use Rattle.dp_msg_draw.specs.contracts.lists.DabPartialEq.TheImpl as dab
use Rattle.dp_msg_draw.specs.contracts.lists.TilePixelPartialEq.TheImpl as pixel
use Rattle.dp_msg_draw.specs.contracts.draw.TileContentPartialEq.TheImpl as content
use Rattle.dp_msg_draw.specs.contracts.draw.DrawPartialEq.TheImpl as draw

dab_compare : (a b : Dab) → Decides (dab.ghosts.eq a b) (a ≡ b)
dab_compare a b = grind arith

dabs_compare : (xs ys : List Dab) → Decides (pointwise dab.ghosts.eq xs ys) (xs ≡ ys)
dabs_compare xs ys = slice_eq-Decides dab_compare xs ys _ refl

pixel_compare : (a b : TilePixel) → Decides (pixel.ghosts.eq a b) (a ≡ b)
pixel_compare a b = grind arith

pixels_compare : (xs ys : List TilePixel) → Decides (pointwise pixel.ghosts.eq xs ys) (xs ≡ ys)
pixels_compare xs ys = slice_eq-Decides pixel_compare xs ys _ refl

contents_compare : (a b : TileContent) → Decides (content.ghosts.eq a b) (a ≡ b)
contents_compare (Solid p) (Solid q) = grind (arith, pixel_compare p q)
contents_compare (Pixels ps) (Pixels qs) = grind (arith, pixels_compare ps qs)
contents_compare a b = (λ e. absurd (false≢true e), λ e. absurd (cc))

pub draws_compare : (a b : Draw) → Decides (draw.ghosts.eq a b) (a ≡ b)
draws_compare (CanvasResize top right bottom left) (CanvasResize top' right' bottom' left') = grind
    (arith, Decides-int_eq)
draws_compare (LayerCreate id parent group title) (LayerCreate id' parent' group' title') =
    grind (arith, bytes_eq-Decides title title')
draws_compare (LayerAttr id opacity mode hidden) (LayerAttr id' opacity' mode' hidden') =
    grind arith
draws_compare (LayerTitle id title) (LayerTitle id' title') = grind
    (arith, bytes_eq-Decides title title')
draws_compare (LayerMove id parent above) (LayerMove id' parent' above') = grind arith
draws_compare (LayerDelete id) (LayerDelete id') = grind arith
draws_compare (PutImage layer mode x y w h colors) (PutImage layer' mode' x' y' w' h' colors') =
    grind (arith, bytes_eq-Decides colors colors')
draws_compare (FillRect layer mode x y w h color) (FillRect layer' mode' x' y' w' h' color') = grind
    arith
draws_compare (PutTile layer col row repeat content) (PutTile layer' col' row' repeat' content') =
    grind (arith, contents_compare content content')
draws_compare (Background color) (Background color') = grind arith
draws_compare (DabsRound layer x y r g b mode dabs) (DabsRound layer' x' y' r' g' b' mode' dabs') =
    grind (arith, Decides-int_eq, dabs_compare dabs dabs')
draws_compare (DabsSquare layer x y r g b mode dabs) (DabsSquare layer' x' y' r' g' b' mode' dabs')
    =
    grind (arith, Decides-int_eq, dabs_compare dabs dabs')
draws_compare (MoveRect layer sx sy w h tx ty) (MoveRect layer' sx' sy' w' h' tx' ty') = grind
    (arith, Decides-int_eq)
draws_compare a b = (λ e. absurd (false≢true e), λ e. absurd (cc))
