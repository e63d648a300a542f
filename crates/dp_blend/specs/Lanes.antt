-- Two pixels in the eight lanes of a vector.
use Rattle.std.specs.Prelude.{◌≡◌, ℕ, List, [], ◌∷◌, slice_index}
use Rattle.dp_blend.specs.Color.{Channels, IsPixel}
use Rattle.dp_blend.specs.Blending.{blend}
use Rattle.dp_blend.specs.declared.modes.Mode.{Mode}

-- the lanes of two pixels: of each the channels and then the alpha
abbrev pub lanes : Channels → Channels → List ℕ
lanes p q = p.r ∷ p.g ∷ p.b ∷ p.a ∷ q.r ∷ q.g ∷ q.b ∷ q.a ∷ []

-- one number in each lane of the first pixel, and one in each of the second
abbrev pub fours : ℕ → ℕ → List ℕ
fours x y = x ∷ x ∷ x ∷ x ∷ y ∷ y ∷ y ∷ y ∷ []

-- the lanes of the channels from v, and those of the alphas from w
abbrev pub with_alphas : List ℕ → List ℕ → List ℕ
with_alphas v w =
    slice_index v 0 ∷ slice_index v 1 ∷ slice_index v 2 ∷ slice_index w 3
    ∷ slice_index v 4 ∷ slice_index v 5 ∷ slice_index v 6 ∷ slice_index w 7 ∷ []

-- the lanes are those of two pixels
pub record ArePixels (v : List ℕ) : Type 0 where
  pub first : Channels
  pub second : Channels
  pub is : v ≡ lanes first second
  pub first_pixel : IsPixel first
  pub second_pixel : IsPixel second

-- the pixel in the first four lanes, and that in the last four
abbrev pub first_of : List ℕ → Channels
first_of v =
    record { r = slice_index v 0; g = slice_index v 1; b = slice_index v 2; a = slice_index v 3 }

abbrev pub second_of : List ℕ → Channels
second_of v =
    record { r = slice_index v 4; g = slice_index v 5; b = slice_index v 6; a = slice_index v 7 }

-- the lanes of two sources, each blended with the pixel at its place
abbrev pub blended_lanes : Mode → List ℕ → List ℕ → List ℕ
blended_lanes mode v w =
    lanes (blend mode (first_of v) (first_of w)) (blend mode (second_of v) (second_of w))
