-- What readers answer, of any value that bytes may spell.
use Rattle.std.specs.Prelude.{◌≡◌, ℕ, List, ◌++◌, Option, Some, None, Result, Ok, Err}
use Rattle.dp_fields.specs.declared.error.PayloadError.{PayloadError}
use Rattle.dp_fields.specs.declared.error.PayloadError.TheVariants.{Malformed, Memory}

-- the bytes begin with the spelling of a valid value, and then come the rest
pub record Begins {X : Type 0} (spelling : X → List ℕ) (valid : X → Type 0) (bytes : List ℕ) (x : X)
    (rest : List ℕ) : Type 0 where
  pub bytes_are : bytes ≡ spelling x ++ rest
  pub is_valid : valid x

-- the bytes are the spelling of a valid value
pub record Spells {X : Type 0} (spelling : X → List ℕ) (valid : X → Type 0) (bytes : List ℕ) (x : X)
    : Type 0 where
  pub bytes_are : bytes ≡ spelling x
  pub is_valid : valid x

-- a value that is looked for, or none if there is none
abbrev pub Finds : {X : Type 0} → (X → Type 0) → Option X → Type 0
Finds Is (Some x) = Is x
Finds {X = X} Is None = (x : X) → Is x → ⊥

-- A value that is looked for, which is seen by view: it is found, there is none, or memory ran out
-- for it.
abbrev pub AnswersAs : {X Y : Type 0} → (X → Y) → (Y → Type 0) → Result X PayloadError → Type 0
AnswersAs view Is (Ok x) = Is (view x)
AnswersAs {Y = Y} view Is (Err Malformed) = (y : Y) → Is y → ⊥
AnswersAs {Y = Y} view Is (Err Memory) = (y : Y) × Is y

abbrev pub Answers : {X : Type 0} → (X → Type 0) → Result X PayloadError → Type 0
Answers Is result = AnswersAs (λ x. x) Is result
