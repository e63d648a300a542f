-- Commands on grids of tiles.
use Rattle.std.specs.Prelude.{ℕ, List, Option, Some, None, fold, ⊤}
use Rattle.dp_blend.specs.Color.{Channels}
use Rattle.dp_msg_draw.specs.declared.draw.Draw.{Draw}
use Rattle.dp_msg_draw.specs.declared.draw.Draw.TheVariants.{FillRect, PutImage, PutTile, DabsRound}
use Rattle.dp_msg_draw.specs.declared.draw.Draw.TheVariants.{DabsSquare, MoveRect}
use Rattle.dp_pixels.specs.declared.rect.Rect.{Rect}
use Rattle.dp_pixels.specs.Commands.{pixels_after}
use Rattle.dp_pixels.specs.declared.feet.Footprint.{Footprint}
use Rattle.dp_pixels.specs.declared.feet.Footprint.TheVariants.{Area}

-- a command that changes each pixel of a layer from the old one at its place
abbrev pub IsPainting : Draw → Type 0
IsPainting (FillRect layer mode x y w h color) = ⊤
IsPainting (PutImage layer mode x y w h colors) = ⊤
IsPainting (PutTile layer col row repeat content) = ⊤
IsPainting (DabsRound layer x y r g b mode dabs) = ⊤
IsPainting (DabsSquare layer x y r g b mode dabs) = ⊤
IsPainting _ = ⊥

-- a command that changes pixels of a layer
abbrev pub ChangesPixels : Draw → Type 0
ChangesPixels (MoveRect layer sx sy w h tx ty) = ⊤
ChangesPixels command = IsPainting command

-- the pixels of a layer after commands, one after the other
abbrev pub pixels_after_all : ℕ → ℕ → List Draw → List Channels → List Channels
pixels_after_all width height commands pixels =
    fold (λ old command. pixels_after width height command old) pixels commands

-- the rectangle of a foot that is one
abbrev pub foot_area : Footprint → Option Rect
foot_area (Area layer rect) = Some rect
foot_area _ = None
