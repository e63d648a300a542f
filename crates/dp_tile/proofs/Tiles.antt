-- Tiles of one colour, and grids of them.
use Rattle.std.proofs.Common.{◌≡◌, ℕ, ◌-◌, ◌<◌, List, [], ◌++◌, length, take, replicate}
use Rattle.std.proofs.Common.{refl}
use Rattle.std.proofs.Common.{slice_index_or}
use Rattle.std.proofs.lemmas.List.{length-replicate, get_or-replicate}
use Rattle.dp_blend.specs.Color.{Channels, clear}
use Rattle.dp_tile.specs.Tiles.{tile_of}

-- they are 4096
pub length-tile_of : (p : Channels) → length (tile_of p) ≡ 4096
unfolding tile_of
length-tile_of p = length-replicate 4096 p

-- each of them is that colour
pub pixel-tile_of : (p : Channels) (k : ℕ) → k < 4096 → slice_index_or (tile_of p) k clear ≡ p
unfolding tile_of
pixel-tile_of p k below = get_or-replicate 4096 k p clear below

-- a list that was empty and was filled up is such a tile
pub filled-tile_of : (p : Channels) (old new : List Channels) (count : ℕ) → old ≡ [] → count ≡ 0
    → new ≡ take 4096 old ++ replicate (4096 - count) p → new ≡ tile_of p
unfolding tile_of
filled-tile_of p old new count empty none filled = rw (filled, empty, none) refl
