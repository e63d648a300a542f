-- What was taken of an input that is read in pieces.
use Rattle.std.proofs.Common.{ℕ, ◌++◌, List, [], sym, ap, ◌∙◌, append_assoc, arith, Some}
use Rattle.std.specs.Prelude.{Option}
use Rattle.dp_io.specs.Pieces.{TookPieces}
use Rattle.dp_io.proofs.Pieces.{parts_of}
use Rattle.dp_lines.specs.TakenParts.{TookWithin}

-- but for the last piece, it meets P
pub took_last : (P : List ℕ → Type 0) {limit : ℕ} {bytes : List ℕ} {left : Option (List ℕ)}
    {earlier counted cut : List ℕ}
    → TookPieces limit (Some bytes) left earlier counted cut → P earlier
    → TookWithin P 4096 bytes left
took_last P {earlier = earlier} {counted = counted} {cut = cut} h meets =
    let p = parts_of h in record {
      taken = earlier;
      after = counted ++ cut;
      untaken = p.untaken;
      whole = p.whole ∙ append_assoc earlier counted (cut ++ p.untaken)
          ∙ ap (λ (xs : List ℕ). earlier ++ xs) (sym (append_assoc counted cut p.untaken));
      left_is = p.left_is;
      meets = meets;
      few = h.small;
    }

-- all of it meets P
pub took_all : (P : List ℕ → Type 0) (most : ℕ) {limit : ℕ} {bytes : List ℕ}
    {left : Option (List ℕ)} {earlier counted : List ℕ}
    → TookPieces limit (Some bytes) left earlier counted [] → P (earlier ++ counted)
    → TookWithin P most bytes left
took_all P most {earlier = earlier} {counted = counted} h meets =
    let p = parts_of h in record {
      taken = earlier ++ counted;
      after = [];
      untaken = p.untaken;
      whole = p.whole;
      left_is = p.left_is;
      meets = meets;
      few = omega arith;
    }
