-- How many bytes lists of colours, dabs and pixels have.
use Rattle.std.proofs.Common.{◌≡◌, ℕ, ◌*◌, List, length, refl}
use Rattle.std.specs.List.{flat_map}
use Rattle.dp_fields.specs.Fields.{four_bytes}
use Rattle.dp_fields.specs.Sequences.{length_of_items}
use Rattle.dp_msg_draw.specs.declared.lists.Dab.{Dab}
use Rattle.dp_msg_draw.specs.declared.lists.TilePixel.{TilePixel}
use Rattle.dp_msg_draw.specs.Payloads.{dab_bytes, pixel_bytes}

pub length_of_colors : (colors : List ℕ) → length (flat_map four_bytes colors) ≡ 4 * length colors
length_of_colors = length_of_items four_bytes 4 (λ x. refl)

pub length_of_dabs : (dabs : List Dab) → length (flat_map dab_bytes dabs) ≡ 4 * length dabs
length_of_dabs = length_of_items dab_bytes 4 (λ x. refl)

pub length_of_pixels : (pixels : List TilePixel) → length (flat_map pixel_bytes pixels)
    ≡ 8 * length pixels
length_of_pixels = length_of_items pixel_bytes 8 (λ x. refl)
