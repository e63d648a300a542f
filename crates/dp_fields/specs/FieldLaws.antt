-- The bytes of a valid field say which it is, whatever follows: a number, a flag, or one field
-- after another.
use Rattle.std.specs.Prelude.{⊤}
use Rattle.std.proofs.Common.{◌≡◌, ℕ, ℤ, ◌^◌, ◌<◌, Bool, true, false, List, ◌++◌}
use Rattle.std.proofs.Common.{drop, refl, sym, ap, ◌∙◌, append_assoc, arith}
use Rattle.std.specs.Int.{w32, cast_unsigned, cast_signed}
use Rattle.std.specs.Int.RustNames.{FitsSigned}
use Rattle.std.proofs.lemmas.Int.{to_z-of_z}
use Rattle.std.proofs.lemmas.List.{drop_at}
use Rattle.std.proofs.Math.Facts.{Fits-of_z}
use Rattle.byteorder.specs.Endian.{big_bytes, big_number}
use Rattle.byteorder.specs.Numbers.{big_number-reads_back, length-bytes_high_first}
use Rattle.dp_fields.specs.Fields.{one_byte, two_bytes, four_bytes, four_signed, flag_byte}

-- the bytes of a valid field say which it is, whatever follows
pub record IsField {X : Type 0} (spelling : X → List ℕ) (valid : X → Type 0) : Type 0 where
  pub one : (x y : X) (s t : List ℕ) → valid x → valid y → spelling x ++ s ≡ spelling y ++ t
      → (x ≡ y) × (s ≡ t)

one_number : (n x y : ℕ) (s t : List ℕ) → x < 256 ^ n → y < 256 ^ n
    → big_bytes n x ++ s ≡ big_bytes n y ++ t → (x ≡ y) × (s ≡ t)
one_number n x y s t fx fy e = (
  sym (big_number-reads_back n x s fx) ∙ ap (big_number n) e ∙ big_number-reads_back n y t fy,
  sym (drop_at (big_bytes n x) s n (length-bytes_high_first n x)) ∙ ap (drop n) e
      ∙ drop_at (big_bytes n y) t n (length-bytes_high_first n y),
)

pub byte_field : IsField one_byte (λ n. n < 2 ^ 8)
byte_field = record { one = λ x y s t fx fy e. (cc, cc) }

pub two_field : IsField two_bytes (λ n. n < 2 ^ 16)
two_field = record { one = one_number 2 }

pub four_field : IsField four_bytes (λ n. n < 2 ^ 32)
four_field = record { one = one_number 4 }

one_signed : (x y : ℤ) (s t : List ℕ) → FitsSigned w32 x → FitsSigned w32 y
    → four_signed x ++ s ≡ four_signed y ++ t → (x ≡ y) × (s ≡ t)
one_signed x y s t fx fy e =
    let ux = Fits-of_z fx in
    let uy = Fits-of_z fy in
    let same = one_number 4 (cast_unsigned w32 x) (cast_unsigned w32 y) s t (omega arith)
    (omega arith) e in
    (sym (to_z-of_z w32 x fx) ∙ ap (cast_signed w32) same.0 ∙ to_z-of_z w32 y fy, same.1)

pub signed_field : IsField four_signed (λ z. FitsSigned w32 z)
signed_field = record { one = one_signed }

one_flag : (x y : Bool) (s t : List ℕ) → ⊤ → ⊤ → flag_byte x ++ s ≡ flag_byte y ++ t
    → (x ≡ y) × (s ≡ t)
one_flag false false s t u v e = (refl, cc)
one_flag false true s t u v e = absurd cc
one_flag true false s t u v e = absurd cc
one_flag true true s t u v e = (refl, cc)

pub flag_field : IsField flag_byte (λ flag. ⊤)
flag_field = record { one = one_flag }

one_pair : {X Y : Type 0} (spell : X → List ℕ) (valid : X → Type 0) (spell' : Y → List ℕ)
    (valid' : Y → Type 0)
    → IsField spell valid → IsField spell' valid'
    → (p q : X × Y) (s t : List ℕ) → valid p.0 × valid' p.1 → valid q.0 × valid' q.1
    → (spell p.0 ++ spell' p.1) ++ s ≡ (spell q.0 ++ spell' q.1) ++ t → (p ≡ q) × (s ≡ t)
one_pair {X = X} {Y = Y} spell valid spell' valid' f g p q s t fp fq e =
    let nested : spell p.0 ++ (spell' p.1 ++ s) ≡ spell q.0
    ++ (spell' q.1 ++ t) = sym (append_assoc (spell p.0) (spell' p.1) s) ∙ e
    ∙ append_assoc (spell q.0) (spell' q.1) t in
    let first = f.one p.0 q.0 (spell' p.1 ++ s) (spell' q.1 ++ t) fp.0 fq.0 nested in
    let second = g.one p.1 q.1 s t fp.1 fq.1 first.1 in
    (ap (λ (x : X). (x, p.1)) first.0 ∙ ap (λ (y : Y). (q.0, y)) second.0, second.1)

pub pair_field : {X Y : Type 0} {spell : X → List ℕ} {valid : X → Type 0} {spell' : Y → List ℕ}
    {valid' : Y → Type 0}
    → IsField spell valid → IsField spell' valid'
    → IsField {X = X × Y} (λ p. spell p.0 ++ spell' p.1)
    (λ p. valid p.0 × valid' p.1)
pair_field {spell = spell} {valid = valid} {spell' = spell'} {valid' = valid'} f g = record
    { one = one_pair spell valid spell' valid' f g }
