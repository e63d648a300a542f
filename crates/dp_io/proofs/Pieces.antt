-- A source that is read in pieces up to a limit.
use Rattle.std.proofs.Common.{◌≡◌, ℕ, ◌+◌, ◌-◌, ◌<◌, ◌≤◌, List, [], ◌++◌, length, take, drop, refl}
use Rattle.std.proofs.Common.{sym, ap, ◌∙◌, subst, append_assoc, length-append, arith, Some, None}
use Rattle.std.specs.Prelude.{Option}
use Rattle.std.proofs.KnownBytes.{Consumes-nil, Consumes-trans, Consumes-kept}
use Rattle.std.proofs.Math.Seq.{take-append-add}
use Rattle.std.proofs.lemmas.List.{append-nil, length-drop, length-take}
use Rattle.std.proofs.lemmas.List.{take-append-drop}
use Rattle.std.specs.Io.KnownBytes.{Consumes, IsAtEnd, Keeps}
use Rattle.dp_io.specs.Pieces.{Parts, TookPieces}

-- ---- reads

-- nothing is taken yet
pub none_taken : (limit : ℕ) (source : Option (List ℕ)) → TookPieces limit source source [] [] []
none_taken limit source = record {
  taken = Consumes-nil source;
  small = omega arith;
  within = omega arith;
  full = λ some. omega (arith, some);
}

-- the first bytes are taken, and all of them count
pub first_taken : (limit : ℕ) (bytes head untaken : List ℕ) → bytes ≡ head ++ untaken
    → length head ≤ limit → TookPieces limit (Some bytes) (Some untaken) (head ++ []) [] []
first_taken limit bytes head untaken whole few = record {
  taken = simp append-nil whole;
  small = omega arith;
  within = simp append-nil few;
  full = λ some. omega (arith, some);
}

-- the piece is done with
pub piece_done : (limit : ℕ) (source left : Option (List ℕ)) (earlier counted : List ℕ)
    → TookPieces limit source left earlier counted []
    → TookPieces limit source left (earlier ++ counted) [] []
piece_done limit source left earlier counted h =
    let same : (earlier ++ counted) ++ [] ≡ earlier ++ counted = append-nil (earlier ++ counted) in
    record {
      taken = subst (λ (xs : List ℕ). Consumes source left (xs ++ [])) (sym same) h.taken;
      small = omega arith;
      within = subst (λ (xs : List ℕ). length xs ≤ limit) (sym same) h.within;
      full = λ some. omega (arith, some);
    }

-- A piece is taken: its first bytes count, and the others come after as many as count.
pub last_taken : (limit : ℕ) (source left rest : Option (List ℕ))
    (earlier piece front cut : List ℕ)
    → piece ≡ front ++ cut → length earlier + length front ≤ limit
    → (0 < length cut → length earlier + length front ≡ limit)
    → Consumes left rest piece → length piece ≤ 4096
    → TookPieces limit source left earlier [] [] → TookPieces limit source rest earlier front cut
last_taken limit source left rest earlier piece front cut parts within full consumes few h =
    let count : length (earlier ++ front) ≡ length earlier + length front =
    length-append earlier front in
    let whole : ((earlier ++ []) ++ []) ++ piece ≡ (earlier ++ front) ++ cut =
    ap (λ (xs : List ℕ). xs ++ piece) (append-nil (earlier ++ []) ∙ append-nil earlier)
    ∙ ap (λ (xs : List ℕ). earlier ++ xs) parts ∙ sym (append_assoc earlier front cut) in record {
      taken = subst (Consumes source rest) whole
          (Consumes-trans source left rest ((earlier ++ []) ++ []) piece h.taken consumes);
      small = subst (λ (xs : List ℕ). length xs ≤ 4096) parts few;
      within = omega (arith, count, within);
      full = λ some. count ∙ full some;
    }

-- a piece is taken and done with, all of which counts
pub more_taken : (limit : ℕ) (source left rest : Option (List ℕ)) (earlier piece : List ℕ)
    → length earlier + length piece ≤ limit → Consumes left rest piece → length piece ≤ 4096
    → TookPieces limit source left earlier [] []
    → TookPieces limit source rest (earlier ++ piece) [] []
more_taken limit source left rest earlier piece within consumes few h =
    piece_done limit source rest earlier piece
    (last_taken limit source left rest earlier piece piece [] (sym (append-nil piece)) within
    (λ some. omega (arith, some)) consumes few h)

-- after a piece that is done with, another is taken: of its bytes as many count as there is room
-- for
pub piece_taken : (limit room : ℕ) (source left rest : Option (List ℕ))
    (earlier counted piece : List ℕ)
    → length (earlier ++ counted) + room ≡ limit → Consumes left rest piece → length piece ≤ 4096
    → TookPieces limit source left earlier counted []
    → TookPieces limit source rest (earlier ++ counted) (take room piece) (drop room piece)
piece_taken limit room source left rest earlier counted piece more consumes few h =
    last_taken limit source left rest (earlier ++ counted) piece (take room piece) (drop room piece)
    (sym (take-append-drop room piece)) (omega (arith, more, length-take room piece))
    (λ some. omega (arith, more, some, length-take room piece, length-drop room piece))
    consumes few (piece_done limit source left earlier counted h)

-- a read gave nothing
pub nothing_taken : (limit : ℕ) (source left rest : Option (List ℕ))
    (earlier counted none : List ℕ)
    → none ≡ [] → Consumes left rest none → TookPieces limit source left earlier counted []
    → TookPieces limit source rest earlier counted []
nothing_taken limit source left rest earlier counted none is consumes h = record {
  taken =
      subst (Consumes source rest)
      (ap (λ (xs : List ℕ). ((earlier ++ counted) ++ []) ++ xs) is
      ∙ append-nil ((earlier ++ counted) ++ []))
      (Consumes-trans source left rest ((earlier ++ counted) ++ []) none h.taken consumes);
  small = h.small;
  within = h.within;
  full = h.full;
}

-- a read failed
pub kept_taken : (limit : ℕ) (source left rest : Option (List ℕ))
    (earlier counted cut : List ℕ)
    → Keeps left rest → TookPieces limit source left earlier counted cut
    → TookPieces limit source rest earlier counted cut
kept_taken limit source left rest earlier counted cut keeps h = record {
  taken = Consumes-kept source left rest ((earlier ++ counted) ++ cut) h.taken keeps;
  small = h.small;
  within = h.within;
  full = h.full;
}

-- ---- what is known of a source whose bytes are known

pub parts_of : {limit : ℕ} {bytes : List ℕ} {left : Option (List ℕ)}
    {earlier counted cut : List ℕ}
    → TookPieces limit (Some bytes) left earlier counted cut
    → Parts bytes left earlier counted cut
parts_of {bytes = bytes} {left = left} {earlier = earlier} {counted = counted} {cut = cut} h =
    at left h.taken
  where
    at : (left : Option (List ℕ)) → Consumes (Some bytes) left ((earlier ++ counted) ++ cut)
        → Parts bytes left earlier counted cut
    at None impossible = absurd impossible
    at (Some untaken) whole = record {
      untaken = untaken;
      whole = whole ∙ append_assoc (earlier ++ counted) cut untaken;
      left_is = refl;
    }

-- the bytes that count begin with those that were taken and count
pub counted_first : {limit : ℕ} {bytes : List ℕ} {left : Option (List ℕ)}
    {earlier counted cut : List ℕ}
    → (h : TookPieces limit (Some bytes) left earlier counted cut)
    → take limit bytes ≡ (earlier ++ counted)
    ++ take (limit - length (earlier ++ counted)) (cut ++ (parts_of h).untaken)
counted_first {limit = limit} {earlier = earlier} {counted = counted} {cut = cut} h =
    let before : List ℕ = earlier ++ counted in
    let p = parts_of h in
    let sum : limit ≡ length before + (limit - length before) = omega (arith, h.within) in
    ap (take limit) p.whole
    ∙ ap (λ (n : ℕ). take n (before ++ (cut ++ p.untaken))) sum
    ∙ take-append-add before (cut ++ p.untaken) (limit - length before)

-- more was taken than counts
pub cut_short : {limit : ℕ} {bytes : List ℕ} {left : Option (List ℕ)}
    {earlier counted cut : List ℕ}
    → TookPieces limit (Some bytes) left earlier counted cut → 0 < length cut
    → (take limit bytes ≡ earlier ++ counted) × (limit < length bytes)
cut_short {limit = limit} {earlier = earlier} {counted = counted} {cut = cut} h some =
    let before : List ℕ = earlier ++ counted in
    let p = parts_of h in
    let none : limit - length before ≡ 0 = omega (arith, h.full some) in (
      counted_first h
          ∙ ap (λ (n : ℕ). before ++ take n (cut ++ p.untaken)) none
          ∙ append-nil before,
      omega (
        arith,
        ap length p.whole,
        h.full some,
        some,
        length-append before (cut ++ p.untaken),
        length-append cut p.untaken,
      ),
    )

-- all was taken, and all counts
pub all_taken : {limit : ℕ} {bytes : List ℕ} {left : Option (List ℕ)}
    {earlier counted : List ℕ}
    → TookPieces limit (Some bytes) left earlier counted [] → IsAtEnd left
    → (bytes ≡ earlier ++ counted) × (length bytes ≤ limit)
all_taken {limit = limit} {earlier = earlier} {counted = counted} h end =
    let p = parts_of h in
    let none : p.untaken ≡ [] = subst IsAtEnd p.left_is end in
    let whole = p.whole ∙ ap (λ (xs : List ℕ). (earlier ++ counted) ++ xs) none
    ∙ append-nil (earlier ++ counted) in
    (whole, subst (λ (xs : List ℕ). length xs ≤ limit) (sym whole) h.within)
