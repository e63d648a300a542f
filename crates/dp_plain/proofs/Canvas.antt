-- Canvases of one more row or pixel, and rows as they stand in the list.
use Rattle.std.proofs.Common.{◌≡◌, ℕ, ◌+◌, List, [], ◌∷◌, ◌++◌, map, suc, zero, sym, ◌∙◌, ap, arith}
use Rattle.std.proofs.Common.{add-one}
use Rattle.std.proofs.lemmas.List.{append_assoc, append-nil}
use Rattle.std.proofs.lemmas.List.FromFn.{map-range_with_len_more}
use Rattle.std.specs.List.{range_with_len, flat_map}
use Rattle.dp_blend.specs.Color.{Channels}
use Rattle.dp_blend.specs.Canvas.{below, canvas_of}

-- one more piece comes last
pub pieces_more : {X : Type 0} (piece : ℕ → List X) (a n : ℕ)
    → flat_map piece (range_with_len a (suc n)) ≡ flat_map piece (range_with_len a n)
    ++ piece (a + n)
pieces_more piece a zero =
    let first : a + zero ≡ a = omega arith in
    rw first (append-nil (piece a))
pieces_more piece a (suc n) =
    let later : a + suc n ≡ a + 1 + n = omega arith in
    rw later (ap (λ rest. piece a ++ rest) (pieces_more piece (a + 1) n)
    ∙ sym (append_assoc (piece a) (flat_map piece (range_with_len (a + 1) n)) (piece (a + 1 + n))))

-- a canvas of one more row
pub canvas_of-more : (w h : ℕ) (f : ℕ → ℕ → Channels)
    → canvas_of w (h + 1) f ≡ canvas_of w h f ++ map (λ x. f x h) (below w)
canvas_of-more w h f =
    let same_row : 0 + h ≡ h = omega arith in
    let step = pieces_more (λ y. map (λ x. f x y) (below w)) 0 h in
    rw add-one (rw same_row at step)

-- a row of one more pixel
pub row_more : (f : ℕ → Channels) (n : ℕ) → map f (below (n + 1)) ≡ map f (below n) ++ f n ∷ []
row_more f n = map-range_with_len_more f 0 n n (omega arith)
