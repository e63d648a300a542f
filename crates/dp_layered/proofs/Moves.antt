-- A canvas that moves.
use Rattle.std.proofs.Common.{◌≡◌, ℕ, ◌+◌, ◌*◌, List, [], ◌∷◌, ◌++◌, map, refl, sym, ◌∙◌, ap, arith}
use Rattle.std.specs.Prelude.{ℤ, pos, ◌-ℤ◌, replicate}
use Rattle.std.proofs.lemmas.List.{append_assoc, length-replicate, get_or-replicate}
use Rattle.std.proofs.lemmas.Nat.{mul-add-lt}
use Rattle.std.proofs.Common.{to_z, of_z, w32, w64}
use Rattle.dp_blend.specs.Color.{Channels, clear}
use Rattle.dp_blend.specs.Canvas.{below, canvas_of}
use Rattle.dp_pixels.specs.Commands.{pixel_of}
use Rattle.dp_pixels.specs.Resizes.{pixels_shifted}
use Rattle.dp_layered.specs.Moves.{pixel_in_row, row_moved}
use Rattle.dp_blend.proofs.Canvas.{is_canvas_of}
use Rattle.dp_plain.proofs.Canvas.{canvas_of-more, row_more}

-- ---- rows

map-same : {A B : Type 0} (f g : A → B) (xs : List A) → ((x : A) → f x ≡ g x) → map f xs ≡ map g xs
map-same f g [] same = refl
map-same f g (x ∷ xs) same = ap (λ y. y ∷ map f xs) (same x)
    ∙ ap (λ ys. g x ∷ ys) (map-same f g xs same)

-- the difference of a place and an offset, as the code computes it
abbrev pub difference : ℕ → ℤ → ℤ
difference place offset = to_z w64
    (of_z w64 (to_z w64 place -ℤ to_z w64 (of_z w64 (to_z w32 (of_z w32 offset)))))

-- one pixel more of a row that moves
pub row_moved_more : (before now row : List Channels) (left place : ℤ) (n : ℕ) (p : Channels)
    → now ≡ before ++ row_moved n row left
    → p ≡ pixel_in_row row place → place ≡ pos n -ℤ left
    → now ++ p ∷ [] ≡ before ++ row_moved (n + 1) row left
row_moved_more before now row left place n p is pixel at =
    ap (λ ps. ps ++ p ∷ []) is
    ∙ (append_assoc before (row_moved n row left) (p ∷ [])
    ∙ (ap (λ q. before ++ (row_moved n row left ++ q ∷ []))
    (pixel ∙ ap (λ z. pixel_in_row row z) at)
    ∙ ap (λ ps. before ++ ps) (sym (row_more (λ x. pixel_in_row row (pos x -ℤ left)) n))))

-- one row more of a canvas that moves
pub pixels_shifted_more : (width height : ℕ) (pixels now row : List Channels) (new_width k : ℕ)
    (left top y : ℤ)
    → now ≡ pixels_shifted width height pixels new_width k left top → y ≡ pos k -ℤ top
    → ((x : ℤ) → pixel_in_row row x ≡ pixel_of width height pixels x y)
    → now ++ row_moved new_width row left
    ≡ pixels_shifted width height pixels new_width (k + 1) left top
pixels_shifted_more width height pixels now row new_width k left top y is place same =
    let moved : row_moved new_width row left ≡ map
    (λ x. pixel_of width height pixels (pos x -ℤ left) (pos k -ℤ top)) (below new_width) =
    map-same _ _ (below new_width) (λ x. same (pos x -ℤ left)
    ∙ ap (λ z. pixel_of width height pixels (pos x -ℤ left) z) place) in
    ap (λ ps. ps ++ row_moved new_width row left) is
    ∙ (ap (λ ps. pixels_shifted width height pixels new_width k left top ++ ps) moved
    ∙ sym
    (canvas_of-more new_width k (λ x y. pixel_of width height pixels (pos x -ℤ left)
    (pos y -ℤ top))))

-- ---- clear canvases

-- a canvas of one colour
pub replicate-canvas : (width height : ℕ) (p : Channels)
    → replicate (width * height) p ≡ canvas_of width height (λ x y. p)
replicate-canvas width height p =
    is_canvas_of width height (λ x y. p) (replicate (width * height) p)
    (length-replicate (width * height) p) (λ x y in_x in_y.
    get_or-replicate (width * height) (y * width + x) p clear
    (omega (arith, mul-add-lt y width x height in_y in_x)))
