use Rattle.std.proofs.Common.{◌≡◌, ◌++◌, take}
use Rattle.dp_flat.proofs.text.push_few.Given as goal

-- the bytes before the index are added
abbrev pub invariant-loop-byte : goal.invariant-loop-byte
invariant-loop-byte g l = l.piece.items ≡ l.initial.piece.items ++ take l.byte-index l.bytes
