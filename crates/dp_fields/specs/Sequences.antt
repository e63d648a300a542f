-- Fields one after the other, to the end of the bytes.
use Rattle.std.proofs.Common.{◌≡◌, ℕ, ◌+◌, ◌*◌, ◌<◌, ◌≤◌, ◌==◌, true, List, [], ◌∷◌, ◌++◌, length}
use Rattle.std.proofs.Common.{refl, sym, ap, ◌∙◌, append_assoc, arith, All}
use Rattle.std.specs.List.{flat_map}
use Rattle.std.proofs.lemmas.Bool.{eqb-true}
use Rattle.std.proofs.lemmas.List.{append-nil, length-append}
use Rattle.std.proofs.lemmas.List.Concat.{flat_map-append}
use Rattle.std.proofs.lemmas.List.Elements.{All-nil, All-push, All-head, All-tail}
use Rattle.dp_fields.specs.FieldLaws.{IsField}
use Rattle.dp_fields.specs.Reading.{Begins, Spells}
use Rattle.dp_fields.specs.Wholes.{IsWhole}

-- the bytes are these fields, and then the rest; and if the bytes are fields to their end, so is
-- the rest
pub record Taken {X : Type 0} (spelling : X → List ℕ) (valid : X → Type 0) (bytes : List ℕ)
    (xs : List X) (rest : List ℕ) : Type 0 where
  pub bytes_are : bytes ≡ flat_map spelling xs ++ rest
  pub are_valid : All valid xs
  pub rest_is : (ys : List X) → Spells (flat_map spelling) (All valid) bytes ys
      → (zs : List X) × Spells (flat_map spelling) (All valid) rest zs
      × (length ys ≡ length xs + length zs)

pub taken_none : {X : Type 0} (spelling : X → List ℕ) (valid : X → Type 0) (bytes : List ℕ)
    → Taken spelling valid bytes [] bytes
taken_none spelling valid bytes = record {
  bytes_are = refl;
  are_valid = All-nil valid;
  rest_is =
      λ ys s. (ys, s, omega arith);
}

-- fields to the end, of which the first is taken
rest_after : {X : Type 0} {spelling : X → List ℕ} {valid : X → Type 0} → IsField spelling valid
    → {bytes after : List ℕ} {x : X} → Begins spelling valid bytes x after
    → length after < length bytes
    → (zs : List X) → Spells (flat_map spelling) (All valid) bytes zs
    → (ys : List X) × Spells (flat_map spelling) (All valid) after ys
    × (length zs ≡ 1 + length ys)
rest_after field b short [] s = absurd (omega (arith, ap length s.bytes_are))
rest_after {spelling = spelling} {valid = valid} field {after = after} {x = x} b short (z ∷ zs) s =
    let same = field.one x z after (flat_map spelling zs) b.is_valid
    (All-head valid z zs s.is_valid)
    (sym b.bytes_are ∙ s.bytes_are) in
    (zs, record { bytes_are = same.1; is_valid = All-tail valid z zs s.is_valid }, omega arith)

pub taken_more : {X : Type 0} {spelling : X → List ℕ} {valid : X → Type 0} → IsField spelling valid
    → {bytes rest after : List ℕ} {xs : List X} {x : X} → Taken spelling valid bytes xs rest
    → Begins spelling valid rest x after → length after < length rest
    → Taken spelling valid bytes (xs ++ x ∷ []) after
taken_more {spelling = spelling} {valid = valid} field {after = after} {xs = xs} {x = x} t b short =
    let more : flat_map spelling (xs ++ x ∷ []) ≡ flat_map spelling xs
    ++ spelling x = flat_map-append spelling xs (x ∷ [])
    ∙ ap (λ (l : List ℕ). flat_map spelling xs ++ l) (append-nil (spelling x)) in
    record {
      bytes_are = t.bytes_are ∙ ap (λ (l : List ℕ). flat_map spelling xs ++ l) b.bytes_are
          ∙ sym (append_assoc (flat_map spelling xs) (spelling x) after)
          ∙ ap (λ (l : List ℕ). l ++ after) (sym more);
      are_valid = All-push valid xs x t.are_valid b.is_valid;
      rest_is = λ ys s.
          let zs = t.rest_is ys s in
          let after = rest_after field b short zs.0 zs.1 in
          (after.0, after.1, omega (arith, zs.2, after.2, length-append xs (x ∷ [])));
    }

-- if no field begins the bytes, they are fields to their end only if they are empty
pub ended : {X : Type 0} {spelling : X → List ℕ} {valid : X → Type 0} {bytes : List ℕ}
    → ((x : X) (rest : List ℕ) → Begins spelling valid bytes x rest → ⊥)
    → (zs : List X) → Spells (flat_map spelling) (All valid) bytes zs → (bytes ≡ []) × (zs ≡ [])
ended none [] s = (s.bytes_are, refl)
ended {spelling = spelling} {valid = valid} none (z ∷ zs) s = absurd
    (none z (flat_map spelling zs) (record {
      bytes_are = s.bytes_are;
      is_valid = All-head valid z zs
          s.is_valid;
    }))

pub none_left : (rest : List ℕ) → (length rest == 0) ≡ true → rest ≡ []
none_left [] t = refl
none_left (b ∷ rest) t = absurd (omega (arith, eqb-true (length (b ∷ rest)) 0 t))

pub taken_all : {X : Type 0} {spelling : X → List ℕ} {valid : X → Type 0} {bytes rest : List ℕ}
    {xs : List X} → Taken spelling valid bytes xs rest → rest ≡ []
    → Spells (flat_map spelling) (All valid) bytes xs
taken_all {spelling = spelling} {xs = xs} t e = record {
  bytes_are = t.bytes_are
      ∙ ap (λ (l : List ℕ). flat_map spelling xs ++ l) e ∙ append-nil (flat_map spelling xs);
  is_valid
      = t.are_valid;
}

-- ---- lists of fields of one length

pub length_of_items : {X : Type 0} (spelling : X → List ℕ) (n : ℕ)
    → ((x : X) → length (spelling x) ≡ n) → (xs : List X)
    → length (flat_map spelling xs) ≡ n * length xs
length_of_items spelling n each [] = omega arith
length_of_items spelling n each (x ∷ xs) = omega (
  arith,
  length-append (spelling x)
      (flat_map spelling xs),
  each x,
  length_of_items spelling n each xs,
)

one_items : {X : Type 0} (spelling : X → List ℕ) (valid : X → Type 0) → IsField spelling valid
    → ((x : X) → 1 ≤ length (spelling x))
    → (xs ys : List X) → All valid xs → All valid ys → flat_map spelling xs ≡ flat_map spelling ys
    → xs ≡ ys
one_items spelling valid field long [] [] v w e = refl
one_items spelling valid field long [] (y ∷ ys) v w e = absurd
    (omega (arith, ap length e, length-append (spelling y) (flat_map spelling ys), long y))
one_items spelling valid field long (x ∷ xs) [] v w e = absurd
    (omega (arith, ap length e, length-append (spelling x) (flat_map spelling xs), long x))
one_items {X = X} spelling valid field long (x ∷ xs) (y ∷ ys) v w e =
    let first = field.one x y (flat_map spelling xs) (flat_map spelling ys) (All-head valid x xs v)
    (All-head valid y ys w) e in
    let others = one_items spelling valid field long xs ys (All-tail valid x xs v)
    (All-tail valid y ys w) first.1 in
    ap (λ (z : X). z ∷ xs) first.0 ∙ ap (λ (zs : List X). y ∷ zs) others

pub items : {X : Type 0} {spelling : X → List ℕ} {valid : X → Type 0} → IsField spelling valid
    → ((x : X) → 1 ≤ length (spelling x)) → IsWhole (flat_map spelling) (All valid)
items {spelling = spelling} {valid = valid} field long = record
    { one = one_items spelling valid field long }
