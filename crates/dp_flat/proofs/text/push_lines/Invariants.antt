use Rattle.std.proofs.Common.{◌≡◌, ◌+◌, ◌*◌, ◌≤◌, ◌++◌, take}
use Rattle.std.specs.List.{flat_map}
use Rattle.arrayvec.specs.ArrayVec.{array_vec_len}
use Rattle.dp_flat.specs.declared.text.TheConstants.{PIXEL_BYTES}
use Rattle.dp_flat.specs.declared.text.Format.TheVariants.{P3}
use Rattle.dp_flat.specs.Bands.{rgb_text}
use Rattle.dp_flat.proofs.text.push_lines.Given as goal

-- the lines of the pixels before the index are added
abbrev pub invariant-loop-pixel : goal.invariant-loop-pixel
invariant-loop-pixel l = record {
  text : l.piece.items ≡ l.initial.piece.items ++ flat_map (rgb_text P3)
      (take l.pixel-index l.pixels);
  short : array_vec_len l.piece ≤ array_vec_len l.initial.piece + PIXEL_BYTES * l.pixel-index;
}
