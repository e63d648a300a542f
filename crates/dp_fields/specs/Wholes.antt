-- Values that are spelled by all the bytes, and what follows where a field begins the bytes.
use Rattle.std.proofs.Common.{◌≡◌, ℕ, ◌≤◌, List, [], ◌++◌, length, sym, ap, ◌∙◌}
use Rattle.std.proofs.Common.{arith, Err}
use Rattle.std.proofs.lemmas.List.{append-nil}
use Rattle.dp_fields.specs.declared.error.PayloadError.{PayloadError}
use Rattle.dp_fields.specs.declared.error.PayloadError.TheVariants.{Malformed, Memory}
use Rattle.dp_fields.specs.FieldLaws.{IsField}
use Rattle.dp_fields.specs.Reading.{Answers, Begins, Spells}

-- bytes that are a field begin with it, and nothing follows
pub begins_all : {X : Type 0} {spelling : X → List ℕ} {valid : X → Type 0} {bytes : List ℕ} {x : X}
    → Spells spelling valid bytes x → Begins spelling valid bytes x []
begins_all {spelling = spelling} {x = x} s = record {
  bytes_are = s.bytes_are
      ∙ sym (append-nil (spelling x));
  is_valid = s.is_valid;
}

-- if bytes follow a field, the whole is no field
pub more_follows : {X : Type 0} {spelling : X → List ℕ} {valid : X → Type 0}
    → IsField spelling valid → {bytes rest : List ℕ} {x : X}
    → Begins spelling valid bytes x rest → 1 ≤ length rest
    → (y : X) → Spells spelling valid bytes y → ⊥
more_follows field {rest = rest} {x = x} b long y s =
    let all = begins_all s in
    let same = field.one x y rest [] b.is_valid s.is_valid (sym b.bytes_are ∙ all.bytes_are) in
    omega (arith, ap length same.1)

-- the bytes of a valid value, all of them, say which it is
pub record IsWhole {X : Type 0} (spelling : X → List ℕ) (valid : X → Type 0) : Type 0 where
  pub one : (x y : X) → valid x → valid y → spelling x ≡ spelling y → x ≡ y

pub whole : {X : Type 0} {spelling : X → List ℕ} {valid : X → Type 0} → IsField spelling valid
    → IsWhole spelling valid
whole field = record {
  one = λ x y v w e. (field.one x y [] [] v w (ap (λ (b : List ℕ). b ++ []) e)).0;
}

pub whole_if : {X : Type 0} {spelling : X → List ℕ} {valid valid' : X → Type 0}
    → IsWhole spelling valid → ((x : X) → valid' x → valid x) → IsWhole spelling valid'
whole_if fields weaker = record { one = λ x y v w e. fields.one x y (weaker x v) (weaker y w) e }

one_both : {X Y : Type 0} (spell : X → List ℕ) (valid : X → Type 0) (spell' : Y → List ℕ)
    (valid' : Y → Type 0)
    → IsField spell valid → IsWhole spell' valid'
    → (p q : X × Y) → valid p.0 × valid' p.1 → valid q.0 × valid' q.1
    → spell p.0 ++ spell' p.1 ≡ spell q.0 ++ spell' q.1 → p ≡ q
one_both {X = X} {Y = Y} spell valid spell' valid' f g p q v w e =
    let first = f.one p.0 q.0 (spell' p.1) (spell' q.1) v.0 w.0 e in
    let second = g.one p.1 q.1 v.1 w.1 first.1 in
    ap (λ (x : X). (x, p.1)) first.0 ∙ ap (λ (y : Y). (q.0, y)) second

pub both : {X Y : Type 0} {spell : X → List ℕ} {valid : X → Type 0} {spell' : Y → List ℕ}
    {valid' : Y → Type 0}
    → IsField spell valid → IsWhole spell' valid' → IsWhole {X = X × Y}
    (λ p. spell p.0 ++ spell' p.1) (λ p. valid p.0 × valid' p.1)
both {spell = spell} {valid = valid} {spell' = spell'} {valid' = valid'} f g = record
    { one = one_both spell valid spell' valid' f g }

-- an error says the same of values that come and go together
pub same_error : {X Y : Type 0} (P : X → Type 0) (Q : Y → Type 0) → ((y : Y) → Q y → (x : X) × P x)
    → ((x : X) → P x → (y : Y) × Q y) → (e : PayloadError) → Answers P (Err e) → Answers Q (Err e)
same_error P Q back on Malformed none = λ y q. let p = back y q in none p.0 p.1
same_error P Q back on Memory there = on there.0 there.1

-- if the rest after a field isn't read, the whole isn't
pub both_fail : {X Y : Type 0} {spell : X → List ℕ} {valid : X → Type 0} (spell' : Y → List ℕ)
    (valid' : Y → Type 0) → IsField spell valid
    → {bytes rest : List ℕ} {x : X} → Begins spell valid bytes x rest → (e : PayloadError)
    → Answers (Spells spell' valid' rest) (Err e)
    → Answers (Spells {X = X × Y} (λ p. spell p.0 ++ spell' p.1) (λ p. valid p.0 × valid' p.1)
    bytes) (Err e)
both_fail spell' valid' field {rest = rest} {x = x} b Malformed none = λ p s.
    let same = field.one x p.0 rest (spell' p.1) b.is_valid s.is_valid.0
    (sym b.bytes_are ∙ s.bytes_are) in
    none p.1 (record { bytes_are = same.1; is_valid = s.is_valid.1 })
both_fail {spell = spell} spell' valid' field {x = x} b Memory there = (
  (x, there.0),
  record {
    bytes_are = b.bytes_are ∙ ap (λ (r : List ℕ). spell x ++ r)
        there.1.bytes_are;
    is_valid = (b.is_valid, there.1.is_valid);
  },
)
