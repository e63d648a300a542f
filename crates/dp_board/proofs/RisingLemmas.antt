-- A window whose Points rise: what comes before its first or after its last is not among them.
use Rattle.std.proofs.Common.{◌≡◌, ℕ, ◌+◌, ◌-◌, ◌<◌, false, List, [], ◌∷◌, ◌++◌, length}
use Rattle.std.proofs.Common.{◌==◌, get_or, drop, suc, arith, ap, sym, ◌∙◌}
use Rattle.std.specs.List.{All}
use Rattle.std.specs.List.Sorted.{IsNonDecreasing}
use Rattle.std.proofs.lemmas.Bool.{ne_eqb}
use Rattle.std.proofs.lemmas.List.{get_or_default}
use Rattle.std.proofs.lemmas.List.Folds.{list_any_none}
use Rattle.std.proofs.lemmas.List.Sorted.{IsNonDecreasingBy-push}
use Rattle.dp_board.specs.Strokes.{is_among, last_few}

-- what comes before the first is none of them
pub before_first : (xs : List ℕ) (first group : ℕ) → IsNonDecreasing xs → first ≡ get_or xs 0 first
    → group < first → is_among xs group ≡ false
before_first xs first group up is before =
    list_any_none (λ other. other == group) xs (λ k d in_list. ne_eqb (get_or xs k d) group
    (λ same. absurd (omega (arith, up 0 k d (omega arith) in_list, at d (omega arith), same))))
  where
    at : (d : ℕ) → 0 < length xs → get_or xs 0 d ≡ first
    at d some = get_or_default xs 0 d first some ∙ sym is

-- what comes after the last is none of them
pub after_last : (xs : List ℕ) (last group : ℕ) → IsNonDecreasing xs
    → last ≡ get_or xs (length xs - 1) last → last < group → is_among xs group ≡ false
after_last xs last group up is after =
    list_any_none (λ other. other == group) xs (λ k d in_list. ne_eqb (get_or xs k d) group
    (λ same. absurd (omega (
      arith,
      up k (length xs - 1) d (omega arith) (omega arith),
      at d (omega arith),
      same,
    ))))
  where
    at : (d : ℕ) → 0 < length xs → get_or xs (length xs - 1) d ≡ last
    at d some = get_or_default xs (length xs - 1) d last (omega arith) ∙ sym is

-- they rise with one more that comes after them
pub rising-push : (xs : List ℕ) (x : ℕ) → IsNonDecreasing xs → All (λ p. p < x) xs
    → IsNonDecreasing (xs ++ x ∷ [])
rising-push xs x up before =
    IsNonDecreasingBy-push (λ p. p) xs x up
    (λ d some. omega (arith, before (length xs - 1) d (omega arith)))

-- without the first of more than n the last n are the same
pub last_few-rest : (n : ℕ) (xs : List ℕ) → n < length xs
    → last_few n (drop 1 xs) ≡ last_few n xs
last_few-rest n [] more = absurd (omega arith)
last_few-rest n (x ∷ xs) more =
    let e : length (x ∷ xs) - n ≡ suc (length xs - n) = omega arith in
    sym (ap (λ k. drop k (x ∷ xs)) e)
