-- Pixels are all equal if the bytes after the first one are a prefix of all the bytes.
use Rattle.std.proofs.Common.{◌≡◌, ℕ, ◌*◌, ◌-◌, ◌≤◌, Bool, true, false, List, [], ◌∷◌, ◌++◌, length}
use Rattle.std.proofs.Common.{drop, take, refl, sym, ap, subst, ◌∙◌, arith, All}
use Rattle.std.proofs.Common.{nat_eq}
use Rattle.std.specs.List.{flat_map}
use Rattle.std.specs.Cmp.Lexicographic.{pointwise}
use Rattle.std.proofs.lemmas.Bool.{false≢true}
use Rattle.std.proofs.lemmas.Bool.Decides.{Decides-eqb}
use Rattle.std.proofs.lemmas.List.{take_rest}
use Rattle.std.proofs.lemmas.List.Elements.{All-nil, All-cons, All-head, All-tail}
use Rattle.std.proofs.lemmas.Slice.Eq.{starts_is}
use Rattle.dp_msg_draw.specs.declared.lists.TilePixel.{TilePixel}
use Rattle.dp_msg_draw.specs.Payloads.{pixel_bytes, IsPixel, AreAllEqual, IsTile}
use Rattle.dp_msg_draw.specs.FieldLaws.{pixel_field}
use Rattle.dp_fields.specs.Reading.{Spells}
use Rattle.dp_msg_draw.proofs.Lengths.{length_of_pixels}

equal_if_repeats : (p : TilePixel) (ps : List TilePixel) (t : List ℕ) → IsPixel p → All IsPixel ps
    → pixel_bytes p ++ flat_map pixel_bytes ps ≡ flat_map pixel_bytes ps ++ t → All (λ q. q ≡ p) ps
equal_if_repeats p [] t v w e = All-nil (λ (q : TilePixel). q ≡ p)
equal_if_repeats p (q ∷ qs) t v w e =
    let first = pixel_field.one p q (flat_map pixel_bytes (q ∷ qs)) (flat_map pixel_bytes qs ++ t) v
    (All-head IsPixel q qs w) e in
    let others = equal_if_repeats q qs t (All-head IsPixel q qs w) (All-tail IsPixel q qs w) first.1
    in
    All-cons (λ (r : TilePixel). r ≡ p) q qs (sym first.0)
    (subst (λ (r : TilePixel). All (λ s. s ≡ r) qs) (sym first.0) others)

repeats_if_equal : (p : TilePixel) (ps : List TilePixel) → All (λ q. q ≡ p) ps
    → (t : List ℕ) × (pixel_bytes p ++ flat_map pixel_bytes ps ≡ flat_map pixel_bytes ps ++ t)
repeats_if_equal p [] all = (pixel_bytes p, refl)
repeats_if_equal p (q ∷ qs) all =
    let rest = repeats_if_equal p qs (All-tail (λ (r : TilePixel). r ≡ p) q qs all) in
    let first : q ≡ p = All-head (λ (r : TilePixel). r ≡ p) q qs all in (
      rest.0,
      ap (λ (r : TilePixel). pixel_bytes p ++ (pixel_bytes r ++ flat_map pixel_bytes qs))
          first ∙ ap (λ (b : List ℕ). pixel_bytes p ++ b) rest.1
          ∙ ap (λ (r : TilePixel). pixel_bytes r ++ (flat_map pixel_bytes qs ++ rest.0))
          (sym first),
    )

-- whether the bytes after the first pixel are a prefix of all the bytes
abbrev after_first : List ℕ → List ℕ
after_first bytes = take (length bytes - 8) (drop 8 bytes)

abbrev pub repeats : List ℕ → Bool
repeats bytes = pointwise nat_eq (after_first bytes) (take (length (after_first bytes)) bytes)

after_first_is : {bytes : List ℕ} (p : TilePixel) (ps : List TilePixel)
    → bytes ≡ pixel_bytes p ++ flat_map pixel_bytes ps → after_first bytes ≡ flat_map pixel_bytes ps
after_first_is {bytes = bytes} p ps e = take_rest bytes 8 ∙ ap (drop 8) e

abbrev pub ArePixels : ℕ → List TilePixel → Type 0
ArePixels n pixels = All IsPixel pixels × (n ≤ length pixels) × (length pixels ≤ n)

pub length_of_tile : {valid : List TilePixel → Type 0} {bytes : List ℕ} {pixels : List TilePixel}
    → Spells (flat_map pixel_bytes) valid bytes pixels → length bytes ≡ 8 * length pixels
length_of_tile {pixels = pixels} s = ap length s.bytes_are ∙ length_of_pixels pixels

pub all_equal : {bytes : List ℕ} (pixels : List TilePixel)
    → Spells (flat_map pixel_bytes) (All IsPixel) bytes pixels → repeats bytes ≡ true
    → AreAllEqual pixels
all_equal [] s t = (record { r = 0; g = 0; b = 0; a = 0 }, All-nil _)
all_equal {bytes = bytes} (p ∷ ps) s t =
    let tail = drop (length (after_first bytes)) bytes in
    let begins = (starts_is Decides-eqb bytes (after_first bytes) (repeats bytes) refl).0 t in
    let again : pixel_bytes p ++ flat_map pixel_bytes ps
    ≡ flat_map pixel_bytes ps ++ tail = sym s.bytes_are ∙ begins
    ∙ ap (λ (b : List ℕ). b ++ tail) (after_first_is p ps s.bytes_are) in (
      p,
      All-cons (λ (q : TilePixel). q ≡ p) p ps refl (equal_if_repeats p ps _
          (All-head IsPixel p ps s.is_valid) (All-tail IsPixel p ps s.is_valid) again),
    )

pub not_all_equal : {bytes : List ℕ} (pixels : List TilePixel) → 1 ≤ length pixels
    → bytes ≡ flat_map pixel_bytes pixels → repeats bytes ≡ false → AreAllEqual pixels → ⊥
not_all_equal [] some e f all = omega arith
not_all_equal {bytes = bytes} (p ∷ ps) some e f all =
    let Is : TilePixel → TilePixel → Type 0 = λ r q. q ≡ r in
    let first : p ≡ all.0 = All-head (Is all.0) p ps all.1 in
    let others : All (Is p) ps = subst (λ (r : TilePixel). All (Is r) ps) (sym first)
    (All-tail (Is all.0) p ps all.1) in
    let again = repeats_if_equal p ps others in
    let whole : bytes ≡ after_first bytes ++ again.0 = e ∙ again.1
    ∙ ap (λ (b : List ℕ). b ++ again.0) (sym (after_first_is p ps e)) in
    false≢true (sym f ∙ (starts_is Decides-eqb bytes (after_first bytes) (repeats bytes) refl).1
    again.0
    whole)

-- bytes that are 4096 pixels and don't repeat are a tile's
pub tile_from : {bytes : List ℕ} → repeats bytes ≡ false → (pixels : List TilePixel)
    → Spells (flat_map pixel_bytes) (ArePixels 4096) bytes pixels
    → Spells (flat_map pixel_bytes) IsTile bytes pixels
tile_from f pixels s =
    let count = s.is_valid in
    record {
      bytes_are = s.bytes_are;
      is_valid = (
        count.0,
        omega arith,
        not_all_equal pixels
            (omega arith) s.bytes_are f,
      );
    }

pub tile_to : {bytes : List ℕ} → (pixels : List TilePixel)
    → Spells (flat_map pixel_bytes) IsTile bytes pixels → Spells (flat_map pixel_bytes)
    (ArePixels 4096) bytes pixels
tile_to pixels s =
    let tile = s.is_valid in
    record { bytes_are = s.bytes_are; is_valid = (tile.0, omega arith, omega arith) }
