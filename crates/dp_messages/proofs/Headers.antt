-- A header whose length is put in after the payload was written.
use Rattle.std.proofs.Common.{◌≡◌, ℕ, ◌+◌, List, [], ◌∷◌, ◌++◌, length, suc, refl, ap, ◌∙◌, arith}
use Rattle.std.specs.Prelude.{slice_set}

header-next : (old payload : List ℕ) (kind user high low : ℕ)
    → slice_set (slice_set ((old ++ 0 ∷ 0 ∷ kind ∷ user ∷ []) ++ payload) (length old) high)
    (suc (length old)) low
    ≡ old ++ high ∷ low ∷ kind ∷ user ∷ payload
header-next [] payload kind user high low = refl
header-next (x ∷ old) payload kind user high low =
    ap (λ xs. x ∷ xs) (header-next old payload kind user high low)

pub header-set : (old payload : List ℕ) (kind user high low : ℕ)
    → slice_set (slice_set ((old ++ 0 ∷ 0 ∷ kind ∷ user ∷ []) ++ payload) (length old) high)
    (length old + 1) low
    ≡ old ++ high ∷ low ∷ kind ∷ user ∷ payload
header-set old payload kind user high low =
    let next : length old + 1 ≡ suc (length old) = omega arith in
    ap (λ k. slice_set
    (slice_set ((old ++ 0 ∷ 0 ∷ kind ∷ user ∷ []) ++ payload) (length old) high) k low) next
    ∙ header-next old payload kind user high low
