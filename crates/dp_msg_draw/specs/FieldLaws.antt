-- The bytes of a mode, a dab or a pixel say which it is, whatever follows.
use Rattle.std.proofs.Common.{◌≡◌, ℕ, ℤ, List, ◌++◌, sym, ap, ◌∙◌, arith}
use Rattle.std.specs.Int.{w8, cast_unsigned, cast_signed}
use Rattle.std.specs.Int.RustNames.{FitsSigned}
use Rattle.std.proofs.lemmas.Int.{to_z-of_z}
use Rattle.dp_fields.specs.Fields.{one_byte}
use Rattle.dp_fields.specs.FieldLaws.{IsField, two_field, pair_field}
use Rattle.dp_msg_draw.specs.declared.lists.Dab.{Dab}
use Rattle.dp_msg_draw.specs.declared.lists.TilePixel.{TilePixel}
use Rattle.dp_msg_draw.specs.declared.mode.ModeNumber.{ModeNumber}
use Rattle.dp_msg_draw.specs.Limits.{IsListedMode}
use Rattle.dp_msg_draw.specs.Payloads.{dab_bytes, IsDab, pixel_bytes, IsPixel}

abbrev made_mode : ℕ → ModeNumber
made_mode n = record { 0 = n }

one_mode : (x y : ModeNumber) (s t : List ℕ) → IsListedMode x.0 → IsListedMode y.0
    → one_byte x.0 ++ s ≡ one_byte y.0 ++ t → (x ≡ y) × (s ≡ t)
one_mode x y s t fx fy e = let n : x.0 ≡ y.0 = cc in (ap made_mode n, cc)

pub mode_field : IsField (λ (m : ModeNumber). one_byte m.0) (λ (m : ModeNumber). IsListedMode m.0)
mode_field = record { one = one_mode }

one_small : (x y : ℤ) → FitsSigned w8 x → FitsSigned w8 y → cast_unsigned w8 x ≡ cast_unsigned w8 y
    → x ≡ y
one_small x y fx fy e = sym (to_z-of_z w8 x fx) ∙ ap (cast_signed w8) e ∙ to_z-of_z w8 y fy

abbrev made_dab : ℤ → ℤ → ℕ → ℕ → Dab
made_dab dx dy size opacity = record { dx = dx; dy = dy; size = size; opacity = opacity }

one_dab : (x y : Dab) (s t : List ℕ) → IsDab x → IsDab y → dab_bytes x ++ s ≡ dab_bytes y ++ t
    → (x ≡ y) × (s ≡ t)
one_dab x y s t fx fy e =
    let dx = one_small x.dx y.dx fx.0 fy.0 (cc) in
    let dy = one_small x.dy y.dy fx.1 fy.1 (cc) in
    let made : made_dab x.dx x.dy x.size x.opacity ≡ made_dab y.dx y.dy y.size y.opacity = cc in
    (made, cc)

pub dab_field : IsField dab_bytes IsDab
dab_field = record { one = one_dab }

abbrev made_pixel : ℕ → ℕ → ℕ → ℕ → TilePixel
made_pixel r g b a = record { r = r; g = g; b = b; a = a }

one_pixel : (x y : TilePixel) (s t : List ℕ) → IsPixel x → IsPixel y
    → pixel_bytes x ++ s ≡ pixel_bytes y ++ t → (x ≡ y) × (s ≡ t)
one_pixel x y s t fx fy e =
    let channels = pair_field (pair_field two_field two_field) (pair_field two_field two_field) in
    let small = channels.one ((x.r, x.g), (x.b, x.a)) ((y.r, y.g), (y.b, y.a)) s t
    ((omega arith, omega arith), (omega arith, omega arith))
    ((omega arith, omega arith), (omega arith, omega arith)) e in
    (ap (λ (c : (ℕ × ℕ) × (ℕ × ℕ)). made_pixel c.0.0 c.0.1 c.1.0 c.1.1) small.0, small.1)

pub pixel_field : IsField pixel_bytes IsPixel
pixel_field = record { one = one_pixel }
