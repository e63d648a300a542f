use Rattle.std.proofs.Common.{◌≡◌, ◌+◌, ◌*◌, ◌≤◌, ◌++◌, replicate}
use Rattle.std.specs.List.{flat_map}
use Rattle.arrayvec.specs.ArrayVec.{array_vec_len}
use Rattle.dp_flat.specs.declared.text.TheConstants.{PIXEL_BYTES}
use Rattle.dp_flat.proofs.text.push_copies.Given as goal

-- as many copies as were counted are added
abbrev pub invariant-loop : goal.invariant-loop
invariant-loop g l = record {
  text : l.piece.items ≡ l.initial.piece.items ++ flat_map (λ copy. copy)
      (replicate l.counter l.bytes);
  short : array_vec_len l.piece ≤ array_vec_len l.initial.piece + l.counter * PIXEL_BYTES;
}
