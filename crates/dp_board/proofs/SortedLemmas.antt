-- A binary search among ascending groups.
use Rattle.std.proofs.Common.{◌≡◌, ℕ, ◌<◌, ◌≤◌, ◌==◌, List, length, get_or, Result, Ok, Err, is_ok}
use Rattle.std.proofs.Common.{◌≢◌, inl, inr, sym, arith, eq-eqb}
use Rattle.std.proofs.lemmas.Bool.{cases_lt}
use Rattle.std.specs.List.Sorted.{IsSorted, IsBinarySearchResult}
use Rattle.std.specs.Ordering.{nat_cmp}
use Rattle.std.specs.Result.{MatchResult}
use Rattle.std.proofs.lemmas.List.Sorted.{searched, IsNonDecreasingBy-from_sort}
use Rattle.std.proofs.lemmas.List.{get_or_default}
use Rattle.std.proofs.lemmas.List.Folds.{list_any_at, list_any_none}
use Rattle.std.proofs.lemmas.Bool.{ne_eqb}
use Rattle.dp_board.specs.Strokes.{is_among}

-- what a search that found or did not find the group says of its membership
is_ok-cases : (xs : List ℕ) (x : ℕ) (r : Result ℕ ℕ) → MatchResult r
    (λ i. (i < length xs) × (get_or xs i 0 ≡ x)) (λ i. (i ≤ length xs)
    × ((k : ℕ) → k < i → get_or xs k 0 < x) × ((k : ℕ) → i ≤ k → k < length xs → x < get_or xs k 0))
    → is_ok r ≡ is_among xs x
is_ok-cases xs x (Ok i) h = sym (list_any_at (λ other. other == x) xs i 0 h.0
    (eq-eqb (get_or xs i 0) x h.1))
is_ok-cases xs x (Err i) h =
    sym (list_any_none (λ other. other == x) xs (λ k d lt. rw (get_or_default xs k d 0 lt)
    (ne_eqb _ _ (away k lt))))
  where
    away : (k : ℕ) → k < length xs → get_or xs k 0 ≢ x
    away k lt = elim (cases_lt k i) [
      | inl below ↦ omega (arith, h.1 k below)
      | inr above ↦ omega
          (arith, h.2 k above lt)
    ]

-- a search in ascending groups finds exactly those that are among them
pub is_ok-search : (xs : List ℕ) (x : ℕ) (r : Result ℕ ℕ) → IsSorted nat_cmp xs
    → IsBinarySearchResult (λ y. nat_cmp y x) xs r → is_ok r ≡ is_among xs x
is_ok-search xs x r up found =
    is_ok-cases xs x r (searched xs x r found (λ i j le lt. IsNonDecreasingBy-from_sort (λ y. y) xs
    up i j 0 le lt))
