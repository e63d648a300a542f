-- Places so near that sums of their numbers fit in 64 bits.
use Rattle.std.specs.Prelude.{ℕ, ◌<◌, unsigned_abs}
use Rattle.dp_pixels.specs.declared.rect.Place.{Place}

-- both numbers of a place are below a bound, either way
pub record IsPlaceNear (bound : ℕ) (place : Place) : Type 0 where
  pub x : unsigned_abs place.x < bound
  pub y : unsigned_abs place.y < bound
