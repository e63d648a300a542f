-- The line of a row that may not stand: hexadecimal digits, one byte after another, and the words
-- before and after them.
use Rattle.std.proofs.Common.{◌≡◌, ℕ, ◌+◌, ◌<◌, ◌/◌, ◌%◌, List, [], ◌∷◌, ◌++◌, length, take, drop}
use Rattle.std.proofs.Common.{refl, sym, ap, ◌∙◌, subst, add-one, Ok, Err, OnOk}
use Rattle.std.specs.Prelude.{Option, slice_index, codes, decimal}
use Rattle.std.specs.declared.result.Result.{Result}
use Rattle.std.specs.Io.KnownBytes.{Appends}
use Rattle.std.proofs.KnownBytes.{Appends-nil, Appends-trans}
use Rattle.std.proofs.Math.Seq.{take-suc}
use Rattle.std.proofs.lemmas.List.{take-append-drop}
use Rattle.hex.specs.Hex.{encode_with, lower_digits}
use Rattle.dp_io.specs.Streams.{GrowsByPrefix}
use Rattle.dp_io.proofs.Prefixes.{grows_after, grows_within}
use Rattle.dp_lines.specs.Hexadecimal.{hex_text}
use Rattle.dp_endings.specs.Endings.{bad_row_line}

-- ---- digits

-- no digit was put
pub digits-none : (a : Option (List ℕ)) → Appends a a (hex_text [])
unfolding encode_with
digits-none a = Appends-nil a

-- the digits of bytes and of more bytes
hex-more : (xs ys : List ℕ) → hex_text (xs ++ ys) ≡ hex_text xs ++ hex_text ys
unfolding encode_with
hex-more [] ys = refl
hex-more (x ∷ xs) ys =
    ap (λ (l : List ℕ). slice_index lower_digits (x / 16) ∷ slice_index lower_digits (x % 16) ∷ l)
    (hex-more xs ys)

-- the digits of the bytes before the next one, and then the next one's
hex-next : (xs : List ℕ) (i : ℕ) → i < length xs
    → hex_text (take (i + 1) xs) ≡ hex_text (take i xs) ++ hex_text (slice_index xs i ∷ [])
hex-next xs i within =
    ap (λ (n : ℕ). hex_text (take n xs)) (add-one i)
    ∙ ap (λ (l : List ℕ). hex_text l) (take-suc xs i 0 within)
    ∙ hex-more (take i xs) (slice_index xs i ∷ [])

module _ (a b c : Option (List ℕ)) (xs digits : List ℕ) (i : ℕ) (within : i < length xs)
    (are : digits ≡ hex_text (slice_index xs i ∷ [])) where
  -- the digits of one byte more were put
  pub digits-more : Appends a b (hex_text (take i xs)) → Appends b c digits
      → Appends a c (hex_text (take (i + 1) xs))
  digits-more before now =
      subst (Appends a c) (sym (hex-next xs i within))
      (Appends-trans a b c (hex_text (take i xs)) (hex_text (slice_index xs i ∷ [])) before
      (subst (Appends b c) are now))

  -- a part of the next byte's digits was put
  pub digits-part : Appends a b (hex_text (take i xs)) → GrowsByPrefix b c digits
      → GrowsByPrefix a c (hex_text xs)
  digits-part before now =
      let whole : hex_text xs ≡ hex_text (take (i + 1) xs) ++ hex_text (drop (i + 1) xs) =
      ap (λ (l : List ℕ). hex_text l) (sym (take-append-drop (i + 1) xs))
      ∙ hex-more (take (i + 1) xs) (drop (i + 1) xs) in
      subst (GrowsByPrefix a c) (sym whole)
      (grows_within a c (hex_text (take (i + 1) xs)) (hex_text (drop (i + 1) xs))
      (subst (GrowsByPrefix a c) (sym (hex-next xs i within))
      (grows_after a b c (hex_text (take i xs)) (hex_text (slice_index xs i ∷ [])) before
      (subst (GrowsByPrefix b c) are now))))

-- ---- the line

-- the words before the digits
abbrev pub row_place : ℕ → List ℕ
row_place n = codes "bad row " ++ decimal n ++ codes " "

module _ (n : ℕ) (bytes : List ℕ) (a b : Option (List ℕ)) where
  pub row-begun : GrowsByPrefix a b (row_place n) → GrowsByPrefix a b (bad_row_line n bytes)
  row-begun part = grows_within a b (row_place n ++ hex_text bytes) (codes "\n")
      (grows_within a b (row_place n) (hex_text bytes) part)

  pub row-part : (c : Option (List ℕ)) → Appends a b (row_place n)
      → GrowsByPrefix b c (hex_text bytes) → GrowsByPrefix a c (bad_row_line n bytes)
  row-part c first part = grows_within a c (row_place n ++ hex_text bytes) (codes "\n")
      (grows_after a b c (row_place n) (hex_text bytes) first part)

  pub row-ended : (c d : Option (List ℕ)) → Appends a b (row_place n)
      → Appends b c (hex_text bytes) → GrowsByPrefix c d (codes "\n")
      → GrowsByPrefix a d (bad_row_line n bytes)
  row-ended c d first digits part =
      grows_after a c d (row_place n ++ hex_text bytes) (codes "\n")
      (Appends-trans a b c (row_place n) (hex_text bytes) first digits) part

  pub row-whole : {E : Type 0} (r : Result Unit E) (c d : Option (List ℕ))
      → Appends a b (row_place n) → Appends b c (hex_text bytes)
      → OnOk r (Appends c d (codes "\n")) → OnOk r (Appends a d (bad_row_line n bytes))
  row-whole (Err e) c d first digits last = tt
  row-whole (Ok done) c d first digits last =
      Appends-trans a c d (row_place n ++ hex_text bytes) (codes "\n")
      (Appends-trans a b c (row_place n) (hex_text bytes) first digits) last
