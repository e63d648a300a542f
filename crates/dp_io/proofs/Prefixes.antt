-- Bytes of which a prefix was appended.
use Rattle.std.proofs.Common.{ℕ, ◌+◌, List, ◌++◌, length, take, subst, sym, arith, length-append}
use Rattle.std.specs.Prelude.{Option}
use Rattle.std.proofs.lemmas.List.{take-append-le}
use Rattle.std.proofs.Math.Seq.{take-append-add, take-length}
use Rattle.std.proofs.KnownBytes.{Appends-trans}
use Rattle.std.specs.Io.KnownBytes.{Appends}
use Rattle.dp_io.specs.Streams.{GrowsByPrefix}

-- all of the bytes were appended
pub grows_whole : (a b : Option (List ℕ)) (xs : List ℕ) → Appends a b xs → GrowsByPrefix a b xs
grows_whole a b xs whole = (
  length xs,
  omega arith,
  subst (Appends a b) (sym (take-length xs))
      whole,
)

-- a prefix of the first bytes is a prefix of all
pub grows_within : (a b : Option (List ℕ)) (xs ys : List ℕ) → GrowsByPrefix a b xs
    → GrowsByPrefix a b (xs ++ ys)
grows_within a b xs ys (n, within, some) = (
  n,
  omega (arith, length-append xs ys),
  subst (Appends a b)
      (sym (take-append-le n xs ys within)) some,
)

-- the first bytes were appended, and then a prefix of the others
pub grows_after : (a b c : Option (List ℕ)) (xs ys : List ℕ) → Appends a b xs → GrowsByPrefix b c ys
    → GrowsByPrefix a c (xs ++ ys)
grows_after a b c xs ys first (n, within, some) = (
  length xs + n,
  omega (arith, length-append xs ys),
  subst (Appends a c) (sym (take-append-add xs ys n)) (Appends-trans a b c xs (take n ys) first
      some),
)
