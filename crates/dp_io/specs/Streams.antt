-- What reads and writes give and take, if the bytes are known.
use Rattle.std.specs.Prelude.{◌≡◌, ℕ, ◌<◌, ◌≤◌, ◌↔◌, List, [], length, take, IfSome, IfOk}
use Rattle.std.specs.Io.KnownBytes.{Appends}
use Rattle.std.specs.declared.option.Option.{Option}
use Rattle.std.specs.declared.result.Result.{Result}

-- A read with room gives no byte exactly if none is left.
abbrev pub EndsExactly : {E : Type 0} → Option (List ℕ) → Result ℕ E → List ℕ → Type 0
EndsExactly left result buf =
    IfSome left (λ bytes. IfOk result (λ n. 0 < length buf → ((n ≡ 0) ↔ (bytes ≡ []))))

-- A write of a piece that isn't empty takes at least one byte.
abbrev pub TakesSome : {E : Type 0} → Result ℕ E → List ℕ → Type 0
TakesSome result bytes = IfOk result (λ n. 0 < length bytes → 1 ≤ n)

-- What is held grows by some of the first of these bytes, or by all of them.
abbrev pub GrowsByPrefix : Option (List ℕ) → Option (List ℕ) → List ℕ → Type 0
GrowsByPrefix old new bytes = (n : ℕ) × (n ≤ length bytes) × Appends old new (take n bytes)
