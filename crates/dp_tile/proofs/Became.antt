-- What became or stayed, as the call went.
use Rattle.std.proofs.Common.{◌≡◌, ℕ, ◌+◌, List, ◌∷◌, ◌∙◌, Ok, Err, refl, ap}
use Rattle.std.specs.Prelude.{Result, MatchResult, OnOk, OnErr}
use Rattle.dp_blend.specs.Color.{Channels}
use Rattle.dp_tile.specs.Areas.{BecameOrStayed, Painted, cells_painted, row_painted, rows_painted}
use Rattle.dp_tile.specs.Areas.{part, with_part}
use Rattle.dp_tile.proofs.Areas.{with_own_part}

-- what holds however the call went
pub either_way : {T E P Q : Type 0} (r : Result T E) → P → Q
    → MatchResult r (λ _. P) (λ _. Q)
either_way (Ok x) p q = p
either_way (Err e) p q = q

-- a list, by a part of it
pub part_became : {X T E : Type 0} (r : Result T E) (from to : ℕ) (xs new wanted : List X)
    → BecameOrStayed r (part from to xs) new wanted
    → BecameOrStayed r xs (with_part from to xs new) (with_part from to xs wanted)
part_became (Ok x) from to xs new wanted became = ap (with_part from to xs) became
part_became (Err e) from to xs new wanted stayed =
    ap (with_part from to xs) stayed ∙ with_own_part from to xs

-- that it became so, if all went well
pub on_ok_became : {X T E : Type 0} (r : Result T E) (old new wanted : X)
    → BecameOrStayed r old new wanted → OnOk r (new ≡ wanted)
on_ok_became (Ok x) old new wanted became = became
on_ok_became (Err e) old new wanted stayed = tt

-- that it stayed, if not
pub on_err_stayed : {X T E : Type 0} (r : Result T E) (old new wanted : X)
    → BecameOrStayed r old new wanted → OnErr r (new ≡ old)
on_err_stayed (Ok x) old new wanted became = tt
on_err_stayed (Err e) old new wanted stayed = stayed

-- cells of a row, by the first and the others
pub cells_became : {T E : Type 0} (r : Result T E) (painted : Painted) (col row : ℕ)
    (cells : List (List Channels)) (first new_first : List Channels)
    (others new_others : List (List Channels)) → cells ≡ first ∷ others
    → BecameOrStayed r first new_first (painted col row first)
    → BecameOrStayed r others new_others (cells_painted painted (col + 1) row others)
    → BecameOrStayed r cells (new_first ∷ new_others) (cells_painted painted col row cells)
cells_became (Ok x) painted col row cells first new_first others new_others is one rest =
    rw (is, one, rest) refl
cells_became (Err e) painted col row cells first new_first others new_others is one rest =
    rw (is, one, rest) refl

-- rows, by the first and those below
pub rows_became : {T E : Type 0} (r : Result T E) (painted : Painted) (left right row : ℕ)
    (rows : List (List (List Channels))) (first new_first : List (List Channels))
    (below new_below : List (List (List Channels))) → rows ≡ first ∷ below
    → BecameOrStayed r first new_first (row_painted painted left right row first)
    → BecameOrStayed r below new_below (rows_painted painted left right (row + 1) below)
    → BecameOrStayed r rows (new_first ∷ new_below) (rows_painted painted left right row rows)
rows_became (Ok x) painted left right row rows first new_first below new_below is one rest =
    rw (is, one, rest) refl
rows_became (Err e) painted left right row rows first new_first below new_below is one rest =
    rw (is, one, rest) refl
