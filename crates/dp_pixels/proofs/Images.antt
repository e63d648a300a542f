-- The colours of an image.
use Rattle.std.proofs.Common.{◌≡◌, ℕ, ◌+◌, ◌*◌, ◌<◌, ◌≤◌, ◌^◌, ◌-◌, min, List, ◌++◌, length, get_or}
use Rattle.std.proofs.Common.{take, drop, Option, ⊎_elim, arith, ap, ◌∙◌, sym, SFits, w64, to_z}
use Rattle.std.proofs.Common.{of_z}
use Rattle.std.specs.Prelude.{ℤ, pos, ◌+ℤ◌, ◌-ℤ◌, ◌≤ℤ◌, ◌<ℤ◌, unsigned_abs, slice_get}
use Rattle.std.proofs.lemmas.Int.{ints}
use Rattle.std.proofs.lemmas.Nat.{mul-add-lt}
use Rattle.std.proofs.lemmas.Bool.{cases_lt}
use Rattle.std.proofs.lemmas.List.{get_or_append_left, get_or-append_right, get_or-take}
use Rattle.std.proofs.lemmas.List.{get_or-drop}
use Rattle.std.proofs.lemmas.Option.{slice_get-get_or, slice_get_past}
use Rattle.std.specs.Option.{option_map_or}
use Rattle.dp_blend.specs.Color.{Channels}
use Rattle.dp_pixels.specs.Commands.{image_index}
use Rattle.std.proofs.Math.Nat.{mul-le-mul_left}

-- how far a number is above another that it isn't below, as the code computes it
abbrev pub offset : ℤ → ℕ → ℕ
offset z start = unsigned_abs (to_z w64 (of_z w64 (to_z w64 (of_z w64 z) -ℤ to_z w64 start)))

pub record IsOffset (z : ℤ) (start size : ℕ) : Type 0 where
  pub value : offset z start ≡ unsigned_abs (z -ℤ pos start)
  pub small : offset z start < size

pub offset_is : (z : ℤ) (start size : ℕ) → SFits w64 z → start < 2 ^ 32 → size < 2 ^ 32
    → pos start ≤ℤ z → z <ℤ (pos start +ℤ pos size) → IsOffset z start size
offset_is z start size fits near short from before = record
    { value = omega (arith, ints); small = omega (arith, ints) }

-- an index in a grid of two sides of 32 bits fits in 64
pub index_fits : (row column w h : ℕ) → row < h → column < w → w < 2 ^ 32 → h < 2 ^ 32
    → row * w + column < 2 ^ 64
index_fits row column w h in_h in_w w_fits h_fits =
    let within = mul-add-lt row w column h in_h in_w in
    let wide : w * h ≤ w * 4294967295 = mul-le-mul_left w (omega arith) in
    omega arith

-- the index of a place further right
pub image_index-right : (left top : ℤ) (w k : ℕ) (x y : ℤ) → left ≤ℤ x
    → image_index left top w (x +ℤ pos k) y ≡ image_index left top w x y + k
image_index-right left top w k x y from =
    let column : unsigned_abs (x +ℤ pos k -ℤ left) ≡ unsigned_abs (x -ℤ left)
    + k = omega (arith, ints) in
    omega arith

-- the pixel at an index of a row, of which the first ones are written: those that have a colour
pub row_colors : (f : ℕ → Channels → Channels) (colors : List ℕ) (row part : List Channels)
    (index start len k : ℕ) (d : Channels)
    → start ≡ min index (length colors) → len ≡ min (length row) (length colors - start)
    → k < length row → length part ≡ len
    → ((n : ℕ) → n < len → get_or part n d ≡ f (get_or (take len (drop start colors)) n 0)
    (get_or (take len row) n d))
    → get_or (part ++ drop len row) k d ≡ option_map_or (λ color. f color (get_or row k d))
    (slice_get colors (index + k)) (get_or row k d)
row_colors f colors row part index start len k d start_is len_is in_row part_len made =
    ⊎_elim
    (λ (within : k < len).
    let place : start + k ≡ index + k = omega arith in
    let has : index + k < length colors = omega arith in
    get_or_append_left part (drop len row) d k (omega arith)
    ∙ (made k within
    ∙ (ap (λ (p : Channels). f (get_or (take len (drop start colors)) k 0) p)
    (get_or-take len row k d within)
    ∙ (ap (λ (color : ℕ). f color (get_or row k d)) (get_or-take len (drop start colors) k 0 within
    ∙ (get_or-drop start colors k 0 ∙ ap (λ (n : ℕ). get_or colors n 0) place))
    ∙ sym (ap (λ (color : Option ℕ). option_map_or (λ (n : ℕ). f n (get_or row k d)) color
    (get_or row k d)) (slice_get-get_or colors (index + k) 0 has))))))
    (λ (past : len ≤ k).
    let none : length colors ≤ index + k = omega arith in
    let index_is : len + (k - len) ≡ k = omega arith in
    get_or-append_right part (drop len row) len k d part_len past
    ∙ (get_or-drop len row (k - len) d
    ∙ (ap (λ (n : ℕ). get_or row n d) index_is
    ∙ sym (ap (λ (color : Option ℕ). option_map_or (λ (n : ℕ). f n (get_or row k d)) color
    (get_or row k d)) (slice_get_past colors (index + k) none)))))
    (cases_lt k len)
