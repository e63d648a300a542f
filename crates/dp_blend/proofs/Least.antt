-- The least alpha of the pixels of a row, those at even places and the others apart.
use Rattle.std.proofs.Common.{◌≡◌, ℕ, ◌+◌, ◌<◌, ◌≤◌, List, length, min, get_or, slice_index}
use Rattle.std.proofs.Common.{All, take, arith, sym, ap, ◌∙◌, ⊎_elim}
use Rattle.std.specs.Simd.Lanes.{zip2}
use Rattle.std.proofs.lemmas.Bool.{cases_lt}
use Rattle.std.proofs.lemmas.List.{get_or-take, get_or_default, length-take-le}
use Rattle.std.proofs.lemmas.Simd.{get_or-zip2}
use Rattle.dp_blend.specs.Color.{Channels}
use Rattle.dp_blend.specs.Lanes.{lanes}

-- no colour has less alpha than the lane of its place
abbrev pub AreAtLeast : List ℕ → List Channels → Type 0
AreAtLeast v = All (λ s. min (slice_index v 3) (slice_index v 7) ≤ s.a)

-- two more are looked at
pub least-more : (v now : List ℕ) (xs : List Channels) (n m : ℕ) (p q : Channels) → length v ≡ 8
    → m ≡ n + 2 → m ≤ length xs → p ≡ get_or xs n p → q ≡ get_or xs (n + 1) q
    → now ≡ zip2 min v (lanes p q) → AreAtLeast v (take n xs) → AreAtLeast now (take m xs)
least-more v now xs n m p q long more within first second is before i d below =
    let p_in : slice_index now 3 ≡ min (slice_index v 3) p.a =
    rw is (get_or-zip2 min v (lanes p q) 3 0 0 0 (omega (arith, long)) (omega arith)) in
    let q_in : slice_index now 7 ≡ min (slice_index v 7) q.a =
    rw is (get_or-zip2 min v (lanes p q) 7 0 0 0 (omega (arith, long)) (omega arith)) in
    let in_row : i < m = omega (arith, length-take-le m xs within) in
    let got = get_or-take m xs i d in_row in
    rw got (⊎_elim
    (λ (earlier : i < n).
    let old = before i d (omega (arith, length-take-le n xs)) in
    let same = get_or-take n xs i d earlier in
    let old' : min (slice_index v 3) (slice_index v 7) ≤ (get_or xs i d).a = rw (sym same) old in
    omega (arith, p_in, q_in, old'))
    (λ (later : n ≤ i).
    ⊎_elim
    (λ (at : i < n + 1).
    let place : i ≡ n = omega arith in
    let here : p ≡ get_or xs i d = first ∙ get_or_default xs n p d (omega arith)
    ∙ ap (λ k. get_or xs k d) (sym place) in
    rw (sym here) (omega (arith, p_in)))
    (λ (next : n + 1 ≤ i).
    let place : i ≡ n + 1 = omega arith in
    let here : q ≡ get_or xs i d = second ∙ get_or_default xs (n + 1) q d (omega arith)
    ∙ ap (λ k. get_or xs k d) (sym place) in
    rw (sym here) (omega (arith, q_in)))
    (cases_lt i (n + 1)))
    (cases_lt i n))
