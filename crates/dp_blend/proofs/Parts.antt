-- Parts of rows of pixels, by their places.
use Rattle.std.proofs.Common.{◌≡◌, ℕ, ◌+◌, ◌-◌, ◌*◌, ◌<◌, ◌≤◌, List, length, get_or, map}
use Rattle.std.proofs.Common.{take, drop, ◌∙◌, ap, arith, zero-add}
use Rattle.std.proofs.lemmas.List.{length-map, length-take, length-drop, get_or-map}
use Rattle.std.proofs.lemmas.List.{get_or-take, get_or-drop}
use Rattle.std.proofs.lemmas.List.FromFn.{fill_by_all, length-range_with_len, get_or-range_with_len}
use Rattle.dp_blend.specs.Color.{Channels, clear}
use Rattle.dp_blend.specs.Canvas.{below, part_of_row, pixel_at}

-- a part has as many pixels as it is asked for
pub length-part_of_row : (w : ℕ) (pixels : List Channels) (x y n : ℕ)
    → length (part_of_row w pixels x y n) ≡ n
length-part_of_row w pixels x y n =
    length-map (below n) (λ i. pixel_at w pixels (x + i) y) ∙ length-range_with_len 0 n

-- the first n pixels of a function
pub is_part : (f : ℕ → Channels) (n : ℕ) (xs : List Channels) → length xs ≡ n
    → ((i : ℕ) → i < n → get_or xs i clear ≡ f i) → xs ≡ map f (below n)
is_part f n xs len each = fill_by_all f xs n clear len each

-- one of them
pub pixel_of_part : (f : ℕ → Channels) (n i : ℕ) → i < n → get_or (map f (below n)) i clear ≡ f i
pixel_of_part f n i few =
    get_or-map f (below n) i 0 clear (rw (length-range_with_len 0 n) few)
    ∙ ap f (get_or-range_with_len 0 n i 0 few ∙ zero-add i)

-- two functions with the same pixels
pub parts_same : (f g : ℕ → Channels) (n : ℕ) → ((i : ℕ) → i < n → f i ≡ g i)
    → map f (below n) ≡ map g (below n)
parts_same f g n same =
    is_part g n (map f (below n)) (length-map (below n) f ∙ length-range_with_len 0 n)
    (λ i few. pixel_of_part f n i few ∙ same i few)

-- n places of a row from x on, as they stand in the list
pub part_in_list : (w x y n : ℕ) (pixels : List Channels) → y * w + x + n ≤ length pixels
    → take (y * w + x + n - (y * w + x)) (drop (y * w + x) pixels) ≡ part_of_row w pixels x y n
part_in_list w x y n pixels in_list =
    let start = y * w + x in
    let count : start + n - start ≡ n = omega arith in
    let rest : length (drop start pixels) ≡ length pixels - start = length-drop start pixels in
    let len : length (take n (drop start pixels)) ≡ n = omega
    (arith, length-take n (drop start pixels)) in
    rw count (is_part (λ i. pixel_at w pixels (x + i) y) n (take n (drop start pixels)) len
    (λ i in_part.
    let at : start + i ≡ y * w + (x + i) = omega arith in
    get_or-take n (drop start pixels) i clear in_part ∙ get_or-drop start pixels i clear
    ∙ ap (λ k. get_or pixels k clear) at))
